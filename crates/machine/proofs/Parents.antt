-- Of every table: a process stands at a lower row than each of its members, so the way upward from a row is no longer than its number.
use mathlib.Core.Path.{◌≡◌, refl, sym, ap, subst, ◌∙◌}
use mathlib.Core.Logic.{inl, inr}
use mathlib.Core.Bool.{Bool, true, false}
use mathlib.Core.Option.{Option, none, some, none-ne-some, some-injective}
use mathlib.Core.List.Memᴰ
use mathlib.Core.List.{List, [], ◌∷◌, Memᴰ}
use Prim.Native.Nat.{ℕ, zero, suc, ◌<◌}
use native.Mathlib.Omega.{arith}
use lib.IntN.{ℤ}
use lib.ListN.{length, get_or}
use lib.Dec.{T}
use Rattle.meaning.specs.declared.Node.{Node}
use Rattle.meaning.specs.declared.Node.TheVariants.{Literal, Element, Monadic, Dyadic, Stop, Skip, Assignment, Input, Output, Seq, Par, If, While, Alt, Block, Member, Choice, OptionRow, Guard, Other}
use Rattle.meaning.specs.Basics.{if_else, among, lowest, Lowest}
use Rattle.meaning.specs.Nodes.{node_at}
use Rattle.meaning.specs.Tree.{Process, Processes, empty, Content, no_content, and_process, content_of, content_at, or_stop, row_of, processes_in, process_rows}
use Rattle.meaning.specs.Settle.{is_ended}
use Rattle.meaning.specs.State.{Program, program, process_at}
use Rattle.meaning.proofs.LowestLaws.{lowest-is}
use Rattle.meaning.proofs.Decides.{Decides, holding, failing}
use Rattle.meaning.proofs.ReferenceCounts.{decides-among}
use Rattle.meaning.specs.ContentClaims.{higher_content}
use Rattle.agreement.proofs.TableTree.{Known, every-row, process-is}
use Rattle.machine.specs.Upward.{of_parent, parent_of, goes_on_at, upward}

-- the lowest number that passes a test passes it
pub lowest-passes : (p : ℕ → Bool) (n i : ℕ) → lowest p n ≡ some i → (i < n) × T (p i)
lowest-passes p n i e = go (lowest p n) (lowest-is p n) e
  where
    go : (o : Option ℕ) → Lowest (λ j. T (p j)) n o → o ≡ some i → (i < n) × T (p i)
    go none h q = absurd (none-ne-some i q)
    go (some j) h q = let z = some-injective j i q in (subst (λ (k : ℕ). k < n) z h.0, subst (λ (k : ℕ). T (p k)) z h.1)

-- a number that is found in a list is in it
pub among-is : (x : ℕ) (l : List ℕ) → T (among x l) → Memᴰ x l
among-is x l = go (among x l) (decides-among x l)
  where
    go : (t : Bool) → Decides (Memᴰ x l) t → T t → Memᴰ x l
    go true (holding m) t = m
    go false (failing m) t = absurd t

pub is_among : (x : ℕ) (l : List ℕ) → Memᴰ x l → T (among x l)
is_among x l m = go (among x l) (decides-among x l)
  where
    go : (t : Bool) → Decides (Memᴰ x l) t → T t
    go true h = tt
    go false (failing f) = absurd (f m)

-- ---- the members of a process stand at higher rows

-- every row of a list is higher than row r
abbrev Above : ℕ → List ℕ → Type 0
Above r l = (x : ℕ) → Memᴰ x l → r < x

-- a process that stands at row r, and whose members stand higher
abbrev ProcessUp : ℕ → Option Process → Type 0
ProcessUp r none = Unit {0}
ProcessUp r (some p) = (row_of p ≡ r) × Above r (process_rows (processes_in p))

-- so does what stands at row r
abbrev PartUp : ℕ → Content → Type 0
PartUp r p = ProcessUp r p.process × Above r (process_rows p.listed)

no_rows : (r : ℕ) → Above r []
no_rows r x m = absurd (Memᴰ.not-nil m)

nothing-up : (r : ℕ) → PartUp r no_content
nothing-up r = (tt, no_rows r)

-- a process and members of higher rows
and-up : (r a : ℕ) (o : Option Process) (ms : Processes) → (r < a) → ProcessUp a o → Above r (process_rows ms) → Above r (process_rows (and_process o ms))
and-up r a none ms l h g = g
and-up r a (some p) ms l h g = both
  where
    both : Above r (row_of p ∷ process_rows ms)
    both x (Memᴰ.head e) = rw (e, h.0) l
    both x (Memᴰ.tail m) = g x m

module _ (rows : List ℤ) where
  module _ (r : ℕ) (at : ℕ → Content) (known : (b : ℕ) → Known rows PartUp r b (at b)) where
    -- the members that a field refers to
    members-up : (b : ℕ) → Above r (process_rows (at b).listed)
    members-up b = go (at b) (known b)
      where
        go : (p : Content) → Known rows PartUp r b p → Above r (process_rows p.listed)
        go p (inl e) = rw e (no_rows r)
        go p (inr k) = λ x m. let u = k.3.1 x m in omega (arith, k.0)

    -- a process that a field refers to, before members
    with-up : (b : ℕ) (ms : Processes) → Above r (process_rows ms) → Above r (process_rows (and_process (at b).process ms))
    with-up b ms g = go (at b) (known b)
      where
        go : (p : Content) → Known rows PartUp r b p → Above r (process_rows (and_process p.process ms))
        go p (inl e) = rw e g
        go p (inr k) = and-up r b p.process ms k.0 k.3.0 g

    part_up : (k : Node) → PartUp r (content_of rows r at k)
    part_up (Literal x) = (tt, no_rows r)
    part_up (Element a b) = (tt, no_rows r)
    part_up (Monadic a b) = (tt, no_rows r)
    part_up (Dyadic a b c) = (tt, no_rows r)
    part_up Stop = ((refl, no_rows r), no_rows r)
    part_up Skip = ((refl, no_rows r), no_rows r)
    part_up (Assignment a b c) = ((refl, no_rows r), no_rows r)
    part_up (Input a b c) = ((refl, no_rows r), no_rows r)
    part_up (Output a b c) = ((refl, no_rows r), no_rows r)
    part_up (Seq a) = ((refl, members-up a), no_rows r)
    part_up (Par a) = ((refl, members-up a), no_rows r)
    part_up (If a) = ((refl, members-up a), no_rows r)
    part_up (While a b) = ((refl, with-up b empty (no_rows r)), no_rows r)
    part_up (Alt a) = ((refl, members-up a), no_rows r)
    part_up (Block a b) = ((refl, with-up b empty (no_rows r)), no_rows r)
    part_up (Member a b) = (tt, with-up a (at b).listed (members-up b))
    part_up (Choice a b c) = (tt, with-up a (at b).listed (members-up b))
    part_up (OptionRow a b c) = (tt, with-up a (at b).listed (members-up b))
    part_up (Guard a b) = (tt, no_rows r)
    part_up Other = (tt, no_rows r)

  every-up : (r : ℕ) → PartUp r (content_at rows r)
  every-up = every-row rows PartUp nothing-up (λ r l e h. part_up r (higher_content rows r) h (node_at rows r))

  or-stop-up : (r : ℕ) (o : Option Process) → ProcessUp r o → Above r (process_rows (processes_in (or_stop o)))
  or-stop-up r none h = no_rows r
  or-stop-up r (some p) h = h.1

  row-of : (r : ℕ) (p : Process) (o : Option Process) → ProcessUp r o → o ≡ some p → row_of p ≡ r
  row-of r p none h e = absurd (none-ne-some p e)
  row-of r p (some q) h e = ap row_of (sym (some-injective q p e)) ∙ h.0

  -- a process stands at its own row
  pub own_row : (r : ℕ) (p : Process) → (content_at rows r).process ≡ some p → row_of p ≡ r
  own_row r p = row-of r p (content_at rows r).process (every-up r).0

  -- a member stands at a higher row than its process
  pub members-higher : (q r : ℕ) → Memᴰ r (process_rows (processes_in (process_at (program rows) q))) → q < r
  members-higher q r m = or-stop-up q (content_at rows q).process (every-up q).0 r (subst (λ (p : Process). Memᴰ r (process_rows (processes_in p))) (process-is rows q) m)

-- a row is a member of its parent
pub parent-has : (P : Program) (r q : ℕ) → parent_of P r ≡ some q → (q < length P.processes) × Memᴰ r (process_rows (processes_in (process_at P q)))
unfolding parent_of
parent-has P r q e =
    let (l, t) = lowest-passes (λ j. among r (process_rows (processes_in (process_at P j)))) (length P.processes) q e in
    (l, among-is r (process_rows (processes_in (process_at P q))) t)

-- the parent of a row is a lower row
pub parent-below : (rows : List ℤ) (r q : ℕ) → parent_of (program rows) r ≡ some q → q < r
parent-below rows r q e = members-higher rows q r (parent-has (program rows) r q e).1

-- as many rows upward as the number of the row tells are enough: more change nothing
pub upward-enough : (rows : List ℤ) (k m r : ℕ) (s : List ℕ) → r < k → r < m → upward (program rows) k r s ≡ upward (program rows) m r s
unfolding upward
upward-enough rows zero m r s h g = absurd (omega arith)
upward-enough rows (suc k) zero r s h g = absurd (omega arith)
upward-enough rows (suc k) (suc m) r s h g = ap (λ (t : List ℕ). if_else (is_ended (get_or s r 0)) t s) (go (parent_of (program rows) r) refl (λ q t l u. upward-enough rows k m q t l u))
  where
    P : Program
    P = program rows

    go : (o : Option ℕ) → parent_of P r ≡ o → ((q : ℕ) (t : List ℕ) → q < k → q < m → upward P k q t ≡ upward P m q t)
        → of_parent (λ q t. upward P k q (goes_on_at P q r t)) o s ≡ of_parent (λ q t. upward P m q (goes_on_at P q r t)) o s
    go none e f = refl
    go (some q) e f = let u = parent-below rows r q e in f q (goes_on_at P q r s) (omega arith) (omega arith)
