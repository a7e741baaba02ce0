-- Cells of blocks that become unset, in the arrays: what stays, that they are cells of the table, and how the functions of a turn do it.
use mathlib.Core.Path.{◌≡◌, refl, sym, ap, subst, ◌∙◌}
use mathlib.Core.Logic.{⊎_elim}
use mathlib.Core.Option.{none}
use mathlib.Core.List.Memᴰ
use mathlib.Core.List.{List, [], ◌∷◌, ◌++◌, append-nil, append_assoc, Memᴰ}
use Prim.Native.Nat.{ℕ, zero, suc, ◌+◌, ◌<◌, ◌≤◌}
use native.Mathlib.Omega.{arith}
use lib.IntN.{ℤ}
use lib.ListN.{length, get_or, take}
use Rattle.std.proofs.lemmas.List.{take_more}
use Rattle.meaning.specs.Declarations.{Variable, variable_at}
use Rattle.meaning.specs.Answers.{check}
use Rattle.meaning.specs.Tree.{block, Process, node, Processes, empty, also, Content, or_stop, action_of}
use Rattle.meaning.specs.Settle.{local_of}
use Rattle.meaning.specs.State.{program, process_at, whole}
use Rattle.meaning.specs.Buffers.{Buffers}
use Rattle.meaning.proofs.AnswerLaws.{accepted}
use Rattle.agreement.proofs.Reach.{Sub}
use Rattle.agreement.proofs.TableTree.{process-is}
use Rattle.agreement.proofs.TableWhole.{inside-stands}
use Rattle.agreement.proofs.TableBlocks.{block_row}
use Rattle.agreement.proofs.TableFit.{rows-limit}
use Rattle.agreement.proofs.Begun.{local-is}
use Rattle.machine.specs.Counts.{kept_of}
use Rattle.machine.specs.Came.{first_rows, local_at}
use Rattle.machine.specs.Held.{put_cell, put_unset_from, put_unset}
use Rattle.machine.proofs.Declared.{CellsIn}
use Rattle.machine.proofs.NamesInRange.{ActionIn, names_in}
use Rattle.run_code.specs.declared.Row.{Row}
use Rattle.run_code.specs.Prepared.{Prepared, place_at, first_of, size_of}
use Rattle.run_code.proofs.Entries.{what-at}
use Rattle.run_code.proofs.RowKinds.{row-of-kind, kind-in, declarations-few}
use Rattle.run_code.proofs.Codes.{block_row as block-row-of, block-first, block_size, block-variable}
use Rattle.run_values.specs.declared.store.State.{State}
use Rattle.run_turns.specs.Results.{arrays_of}
use Rattle.run_values.specs.Cells.{with_cell, with_unset}
use Rattle.run_turns.specs.Turns.{variables_unset, blocks_unset}
use Rattle.run_turns.specs.Fits.{BlocksBelow}

-- ---- variables of the table

-- what is local to the process of a row is a variable of the table
local-in : (rows : List ℤ) (r : ℕ) (v : Variable) → Memᴰ v (local_of (action_of (process_at (program rows) r))) → CellsIn rows v
local-in rows r v m = subst (ActionIn rows) (local-is (action_of (process_at (program rows) r)) v m) (names_in rows r)

pub locals-in : (rows : List ℤ) (rs : List ℕ) (v : Variable) → Memᴰ v (local_at (program rows) rs) → CellsIn rows v
locals-in rows [] v m = absurd (Memᴰ.not-nil m)
locals-in rows (r ∷ rs) v m = ⊎_elim (local-in rows r v) (locals-in rows rs v) (Memᴰ.append_cases (local_of (action_of (process_at (program rows) r))) m)

-- ---- the arrays

-- the row states stay
from-kept : (a n : ℕ) (b : Buffers) → (put_unset_from a n b).states ≡ b.states
from-kept a zero b = refl
from-kept a (suc n) b = from-kept (suc a) n (put_cell a none b)

states-kept : (vs : List Variable) (b : Buffers) → (put_unset vs b).states ≡ b.states
states-kept [] b = refl
states-kept (v ∷ vs) b = states-kept vs (put_unset_from v.first v.size b) ∙ from-kept v.first v.size b

pub kept-unset : (vs : List Variable) (b : Buffers) (l c : List ℕ) → kept_of b.states l c ≡ kept_of (put_unset vs b).states l c
kept-unset vs b l c = ap (λ (s : List ℕ). kept_of s l c) (sym (states-kept vs b))

-- the arrays of a state whose cells become unset
module _ (states : List ℕ) (numbers : List ℤ) (counts output_marks : List ℕ) where
  from-unset : (a n : ℕ) (x : State) → arrays_of (with_unset a n x) states numbers counts output_marks ≡ put_unset_from a n (arrays_of x states numbers counts output_marks)
  from-unset a zero x = refl
  from-unset a (suc n) x = from-unset (suc a) n (with_cell x a none)

  pub arrays-unset : (vs : List Variable) (x : State) → arrays_of (variables_unset vs x) states numbers counts output_marks ≡ put_unset vs (arrays_of x states numbers counts output_marks)
  arrays-unset [] x = refl
  arrays-unset (v ∷ vs) x = arrays-unset vs (with_unset v.first v.size x) ∙ ap (put_unset vs) (from-unset v.first v.size x)

-- ---- one after another

unset-more : (vs us : List Variable) (x : State) → variables_unset (vs ++ us) x ≡ variables_unset us (variables_unset vs x)
unset-more [] us x = refl
unset-more (v ∷ vs) us x = unset-more vs us (with_unset v.first v.size x)

local-more : (rows : List ℤ) (rs : List ℕ) (r : ℕ) → local_at (program rows) (rs ++ r ∷ []) ≡ local_at (program rows) rs ++ local_of (action_of (process_at (program rows) r))
local-more rows [] r = append-nil (local_of (action_of (process_at (program rows) r)))
local-more rows (q ∷ rs) r =
    ap (λ (l : List Variable). local_of (action_of (process_at (program rows) q)) ++ l) (local-more rows rs r)
    ∙ sym (append_assoc (local_of (action_of (process_at (program rows) q))) (local_at (program rows) rs) (local_of (action_of (process_at (program rows) r))))

-- ---- rows of blocks in what is prepared

pub block-place : (rows : List ℤ) → check rows ≡ none → (code : List ℕ) → Prepared rows code → (v : Variable) (r : ℕ) (ms : Processes) → Sub (block v) r ms (whole (program rows))
    → (r < 1024) × (place_at code r 0 ≡ 35)
block-place rows ok code p v r ms u =
    let A = (accepted rows).0 ok in
    let (l, k, n) = (block_row rows A v r ms (inside-stands rows A (block v) r ms u)).0 in
    let few = rows-limit rows ok in
    (omega arith, what-at p r (omega arith) ∙ ap (λ (w : Row). w.what) (row-of-kind rows r 35 (kind-in rows r 35 l k)))

-- the cells of the block of a row become unset
pub block-unset : (rows : List ℤ) (code : List ℕ) → Prepared rows code → (r : ℕ) → r < 1024 → place_at code r 0 ≡ 35 → (x : State)
    → with_unset (first_of code r) (size_of code r) x ≡ variables_unset (local_of (action_of (process_at (program rows) r))) x
block-unset rows code p r l e x =
    let h : r ≤ 1024 = omega arith in
    let v = variable_at rows (place_at code r 1) in
    let here : process_at (program rows) r ≡ node (block v) r (also (process_at (program rows) (place_at code r 2)) empty) = process-is rows r ∙ ap (λ (c : Content). or_stop c.process) (block-row-of p r h e) in
    rw (block-first p r h e, block_size p r h e) (ap (λ (k : Process). variables_unset (local_of (action_of k)) x) (sym here))

-- the row of its variable is one of the table
pub variable-below : {rows : List ℤ} {code : List ℕ} (p : Prepared rows code) (r : ℕ) → r < 1024 → place_at code r 0 ≡ 35 → place_at code r 1 < 1024
variable-below {rows} p r l e = omega (arith, (block-variable p r (omega arith) e).0, declarations-few rows, rows-limit rows p.accepted)

-- so one block more of a list
pub one-more-unset : (rows : List ℤ) (code blocks : List ℕ) → Prepared rows code → BlocksBelow code blocks → (i : ℕ) → i < length blocks → (x : State) {y z : State}
    → y ≡ blocks_unset rows (take i blocks) x → z ≡ with_unset (first_of code (get_or blocks i 0)) (size_of code (get_or blocks i 0)) y → z ≡ blocks_unset rows (take (i + 1) blocks) x
one-more-unset rows code blocks p B i h x {y} e f =
    let r = get_or blocks i 0 in
    let (l, k) = B i h in
    let vs = local_at (program rows) (take i blocks) in
    f ∙ block-unset rows code p r l k y ∙ ap (variables_unset (local_of (action_of (process_at (program rows) r)))) e
    ∙ sym (unset-more vs (local_of (action_of (process_at (program rows) r))) x) ∙ ap (λ (us : List Variable). variables_unset us x) (sym (local-more rows (take i blocks) r))
    ∙ ap (λ (l : List ℕ). blocks_unset rows l x) (sym (take_more blocks i 0 h))
