-- In an accepted table the rows of a process are each another and below the number of rows: each is referred to once, by a lower row.
use mathlib.Core.Path.{◌≡◌, refl, sym, ap, ◌∙◌, subst}
use mathlib.Core.Bool.{true}
use mathlib.Core.Logic.{inl, inr, ⊎_elim}
use mathlib.Core.Option.{Option, none, some}
use mathlib.Core.List.Memᴰ
use mathlib.Core.List.{List, [], ◌∷◌, Memᴰ}
use Prim.Native.Nat.{ℕ, ◌<◌}
use native.Mathlib.Omega.{arith}
use lib.IntN.{ℤ}
use Rattle.meaning.specs.declared.Node.{Node}
use Rattle.meaning.specs.declared.Node.TheVariants.{Literal, Element, Monadic, Dyadic, Stop, Skip, Assignment, Input, Output, Seq, Par, If, While, Alt, Block, Member, Choice, OptionRow, Guard, Other}
use Rattle.meaning.specs.Rows.{row_count, kind_at}
use Rattle.meaning.specs.Kinds.{Shape}
use Rattle.meaning.specs.References.{Column, of-a, of-b, field_of, Refers}
use Rattle.meaning.specs.Tree.{Action, stop, skip, sequence, parallel, assign, input, output, conditional, loop, alternation, block, Process, node, Processes, empty, Content, no_content, and_process, input_of, content_of, content_at, rows_in, rows_beneath}
use Rattle.meaning.specs.Declarations.{variable_at, sink_at}
use Rattle.meaning.specs.Nodes.{node_at}
use Rattle.meaning.proofs.AnswerLaws.{RightRows}
use Rattle.meaning.proofs.ReferenceCounts.{a-not-b}
use Rattle.agreement.proofs.Frame.{Off}
use Rattle.agreement.proofs.Again.{Out, Sound, SoundM}
use Rattle.meaning.specs.ContentClaims.{higher_content}
use Rattle.agreement.proofs.TableTree.{Known, every-row}
use Rattle.agreement.proofs.TableReferences.{members-shape, while-shape, block-shape, member-shape, choice-shape, option-shape, Leading, unguarded, Shaped, Holding, Fields, fields-are, refers_to, refers-up, once, Desc, self, desc-le, desc-from, parted}

abbrev pub rows_of : Option Process → List ℕ
rows_of none = []
rows_of (some p) = rows_in p

abbrev pub SoundO : Option Process → ℕ → Type 0
SoundO none n = Unit {0}
SoundO (some p) n = Sound p n

module _ (rows : List ℤ) (A : RightRows rows) where
  -- all these rows are at row r, or beneath it
  abbrev Down : ℕ → List ℕ → Type 0
  Down r R = (x : ℕ) → Memᴰ x R → Desc rows A r x

  -- so are the rows of a process and of members, and they are each another
  abbrev Here : ℕ → Option Process → Processes → Type 0
  Here r o ms = Down r (rows_of o) × SoundO o (row_count rows) × Down r (rows_beneath ms) × SoundM ms (row_count rows)

  abbrev RowsOk : ℕ → Content → Type 0
  RowsOk r p = Here r p.process p.listed

  nothing : (r : ℕ) → RowsOk r no_content
  nothing r = (λ x m. absurd (Memᴰ.not-nil m), tt, λ x m. absurd (Memᴰ.not-nil m), tt)

  -- all these rows are at a row to which field p of row r refers, or beneath it
  abbrev By : ℕ → Column → List ℕ → Type 0
  By r p R = (x : ℕ) → Memᴰ x R → (b : ℕ) × Refers rows r p b × (unguarded (kind_at rows r) p ≡ true) × Desc rows A b x

  by_down : (r : ℕ) (p : Column) (R : List ℕ) → By r p R → Down r R
  by_down r p R f x m = let (b, g, u, d) = f x m in desc-from rows A p g u d

  -- a row of its own before members that hang at a field
  row_out : (r : ℕ) (p : Column) (R : List ℕ) → By r p R → Out r R
  row_out r p R f m = let (b, g, v, d) = f r m in let l = desc-le rows A d in let u = refers-up rows A r b p g in omega arith

  with_row : (r : ℕ) (R : List ℕ) → Down r R → Down r (r ∷ R)
  with_row r R f x (Memᴰ.head e) = rw e self
  with_row r R f x (Memᴰ.tail m) = f x m

  apart : (r : ℕ) (p o : Column) (R Q : List ℕ) → (p ≡ o → ⊥) → By r p R → By r o Q → Off R Q
  apart r p o R Q ne f g x m n =
      let (b, i, u, d) = f x m in
      let (c, j, v, e) = g x n in
      parted rows A r p o i j (λ s. ne (once rows A r r b p o i (subst (λ (y : ℕ). Refers rows r o y) (sym s) j)).1) d e

  abbrev ProcessBy : ℕ → Column → Option Process → Type 0
  ProcessBy r p o = By r p (rows_of o) × SoundO o (row_count rows)

  abbrev MembersBy : ℕ → Column → Processes → Type 0
  MembersBy r p ms = By r p (rows_beneath ms) × SoundM ms (row_count rows)

  none-by : (r : ℕ) (p : Column) → MembersBy r p empty
  none-by r p = (λ x m. absurd (Memᴰ.not-nil m), tt)

  -- a process and members that hang at two fields of a row
  join : (r : ℕ) (p o : Column) → (p ≡ o → ⊥) → (q : Option Process) (ms : Processes) → ProcessBy r p q → MembersBy r o ms
      → Down r (rows_beneath (and_process q ms)) × SoundM (and_process q ms) (row_count rows)
  join r p o ne none ms f g = (by_down r o (rows_beneath ms) g.0, g.1)
  join r p o ne (some q) ms f g = (
    λ x m. ⊎_elim (by_down r p (rows_in q) f.0 x) (by_down r o (rows_beneath ms) g.0 x) (Memᴰ.append_cases (rows_in q) m),
    (f.1, g.1, apart r p o (rows_in q) (rows_beneath ms) ne f.0 g.0),
  )

  -- one process that hangs at a field
  single : (r : ℕ) (p : Column) (q : Option Process) → ProcessBy r p q → MembersBy r p (and_process q empty)
  single r p none f = none-by r p
  single r p (some q) f = (λ x m. ⊎_elim (f.0 x) (λ n. absurd (Memᴰ.not-nil n)) (Memᴰ.append_cases (rows_in q) m), (f.1, tt, λ x m n. Memᴰ.not-nil n))

  -- the process of a row, by its members; a row of members
  group : (r : ℕ) (k : Action) (p : Column) (ms : Processes) → r < row_count rows → MembersBy r p ms → Here r (some (node k r ms)) empty
  group r k p ms l f = (with_row r (rows_beneath ms) (by_down r p (rows_beneath ms) f.0), (l, row_out r p (rows_beneath ms) f.0, f.1), λ x m. absurd (Memᴰ.not-nil m), tt)

  alone : (r : ℕ) (k : Action) → r < row_count rows → Here r (some (node k r empty)) empty
  alone r k l = group r k of-a empty l (none-by r of-a)

  linked : (r : ℕ) (q : Option Process) (ms : Processes) → ProcessBy r of-a q → MembersBy r of-b ms → Here r none (and_process q ms)
  linked r q ms f g = let h = join r of-a of-b a-not-b q ms f g in (λ x m. absurd (Memᴰ.not-nil m), tt, h.0, h.1)

  module _ (r : ℕ) (l : r < row_count rows) (at : ℕ → Content) (known : (b : ℕ) → Known rows RowsOk r b (at b)) where
    -- what stands at the row that a field holds hangs at that field
    process-by : (k : ℕ) (s : Shape) (p : Column) (b : ℕ) → Shaped rows r k s → Leading (field_of s p) → unguarded k p ≡ true → Holding rows r p b → ProcessBy r p (at b).process
    process-by k s p b h u v e = go (at b) (known b)
      where
        go : (q : Content) → Known rows RowsOk r b q → ProcessBy r p q.process
        go q (inl z) = rw z (λ x m. absurd (Memᴰ.not-nil m), tt)
        go q (inr i) = (λ x m. (b, refers_to rows A r k b s p l h u e i.1, ap (λ (j : ℕ). unguarded j p) h.0 ∙ v, i.3.0 x m), i.3.1)

    members-by : (k : ℕ) (s : Shape) (p : Column) (b : ℕ) → Shaped rows r k s → Leading (field_of s p) → unguarded k p ≡ true → Holding rows r p b → MembersBy r p (at b).listed
    members-by k s p b h u v e = go (at b) (known b)
      where
        go : (q : Content) → Known rows RowsOk r b q → MembersBy r p q.listed
        go q (inl z) = rw z (none-by r p)
        go q (inr i) = (λ x m. (b, refers_to rows A r k b s p l h u e i.1, ap (λ (j : ℕ). unguarded j p) h.0 ∙ v, i.3.2 x m), i.3.3)

    part-ok : (k : Node) → Fields rows r k → RowsOk r (content_of rows r at k)
    part-ok (Literal x) f = nothing r
    part-ok (Element a b) f = nothing r
    part-ok (Monadic a b) f = nothing r
    part-ok (Dyadic a b c) f = nothing r
    part-ok Stop f = alone r stop l
    part-ok Skip f = alone r skip l
    part-ok (Assignment a b c) f = alone r (assign (variable_at rows a) (at b).expr (at c).expr) l
    part-ok (Input a b c) f = alone r (input (input_of rows r at a b c)) l
    part-ok (Output a b c) f = alone r (output (sink_at rows a) (at b).expr (at c).expr) l
    part-ok (Seq a) f = group r sequence of-a (at a).listed l (members-by 30 (members-shape 30 40) of-a a f.0 tt refl f.1)
    part-ok (Par a) f = group r parallel of-a (at a).listed l (members-by 31 (members-shape 31 40) of-a a f.0 tt refl f.1)
    part-ok (If a) f = group r (conditional (at a).tests) of-a (at a).listed l (members-by 32 (members-shape 32 41) of-a a f.0 tt refl f.1)
    part-ok (While a b) f = group r (loop (at a).expr b) of-b (and_process (at b).process empty) l (single r of-b (at b).process (process-by 33 while-shape of-b b f.0 tt refl f.1))
    part-ok (Alt a) f = group r (alternation (at a).options) of-a (at a).listed l (members-by 34 (members-shape 34 42) of-a a f.0 tt refl f.1)
    part-ok (Block a b) f = group r (block (variable_at rows a)) of-b (and_process (at b).process empty) l (single r of-b (at b).process (process-by 35 block-shape of-b b f.0 tt refl f.1))
    part-ok (Member a b) f = linked r (at a).process (at b).listed (process-by 40 member-shape of-a a f.0 tt refl f.1) (members-by 40 member-shape of-b b f.0 tt refl f.2)
    part-ok (Choice a b c) f = linked r (at a).process (at b).listed (process-by 41 choice-shape of-a a f.0 tt refl f.1) (members-by 41 choice-shape of-b b f.0 tt refl f.2)
    part-ok (OptionRow a b c) f = linked r (at a).process (at b).listed (process-by 42 option-shape of-a a f.0 tt refl f.1) (members-by 42 option-shape of-b b f.0 tt refl f.2)
    part-ok (Guard a b) f = nothing r
    part-ok Other f = nothing r

  every-part : (r : ℕ) → RowsOk r (content_at rows r)
  every-part = every-row rows RowsOk nothing (λ r l e h. part-ok r l (higher_content rows r) h (node_at rows r) (fields-are rows r))

  -- the rows of the process at a row are that row, or beneath it and not of guards
  pub down-at : (r x : ℕ) → Memᴰ x (rows_of (content_at rows r).process) → Desc rows A r x
  down-at r = (every-part r).0

  -- the rows of the process at a row are each another, and below the number of rows
  pub sound-at : (r : ℕ) → SoundO (content_at rows r).process (row_count rows)
  sound-at r = (every-part r).1
