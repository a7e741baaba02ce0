-- A row bears the mark of a number exactly if it changes, uses, inputs from or outputs to the place of that number.
use mathlib.Core.Path.{◌≡◌, refl, sym, ap, subst}
use mathlib.Core.Logic.{◌⊎◌, inl, inr, ◌↔◌}
use mathlib.Core.List.Memᴰ
use mathlib.Core.List.{List, [], ◌∷◌, Memᴰ}
use Prim.Native.Nat.{ℕ, ◌<◌}
use lib.IntN.{ℤ}
use Rattle.meaning.specs.declared.Node.{Node}
use Rattle.meaning.specs.declared.Node.TheVariants.{Literal, Element, Monadic, Dyadic, Stop, Skip, Assignment, Input, Output, Seq, Par, If, While, Alt, Block, Member, Choice, OptionRow, Guard, Other}
use Rattle.meaning.specs.Rows.{row_count, natural_at}
use Rattle.meaning.specs.Declarations.{cells_at, elements_at, variable_at, source_at, sink_at}
use Rattle.meaning.specs.Nodes.{node_at}
use Rattle.meaning.specs.Tree.{Target, ChannelInput, Content, content_at}
use Rattle.meaning.specs.Usage.{counts_for, changes_by}
use Rattle.meaning.specs.References.{IsTarget}
use Rattle.meaning.specs.Clash.{Counts, Changes, changed-by-assignment, changed-by-input, Stands, stands, Inputs, input-row, Outputs, output_row}
use Rattle.agreement.specs.VerdictClaims.{Passed}
use Rattle.agreement.proofs.UsageRows.{node-of-kind, ToExpr, Fits}
use Rattle.agreement.proofs.UsageReferences.{passed-fits}
use Rattle.agreement.proofs.UsageParts.{fits_by, content-by}
use Rattle.agreement.proofs.UsageTree.{Mark}
use Rattle.agreement.proofs.UsageWithin.{Bears}
use Rattle.agreement.proofs.UsageGather.{mark_changes, mark_uses, mark_inputs, mark_outputs}
use Rattle.agreement.proofs.UsageNumbers.{Numbers}
use Rattle.agreement.proofs.UsageNames.{Located, cells_is, elements-is}

-- number n is that of a place of which R holds at row r
abbrev pub Of : ℕ → (ℕ → ℕ) → (ℕ → ℕ → ℕ → Type 0) → ℕ → Type 0
Of n size R r = (v : ℕ) × ((i : ℕ) × Numbers size n v i × R r v i)

module _ (rows : List ℤ) where
  -- a row that changes the cell, or is an element of it
  abbrev pub Touches : ℕ → ℕ → ℕ → Type 0
  Touches r v i = Changes rows (Counts rows) r v i ⊎ Stands rows (Counts rows) r v i

  -- an input as the table has it
  abbrev receive_at : ℕ → ℕ → ℕ → ChannelInput
  receive_at a b c = record { channel = source_at rows a; subscript = (content_at rows b).expr; target = (content_at rows c).target }

  -- the rows that can bear a mark
  data Bearer (M : Mark) (r : ℕ) : Type 0 where
    an-element : {a b : ℕ} → node_at rows r ≡ Element a b → ToExpr rows r b → M.at_element (variable_at rows a) (content_at rows b).expr → Bearer M r
    an-assignment : {a b c : ℕ} → node_at rows r ≡ Assignment a b c → ToExpr rows r b → M.at_assignment (variable_at rows a) (content_at rows b).expr → Bearer M r
    an-input : {a b c : ℕ} → node_at rows r ≡ Input a b c → Fits rows r (Input a b c) → M.at_input (receive_at a b c) → Bearer M r
    an-output : {a b c : ℕ} → node_at rows r ≡ Output a b c → Fits rows r (Output a b c) → M.at_output (sink_at rows a) (content_at rows b).expr → Bearer M r

  bearer : (M : Mark) (r : ℕ) (x : Node) → node_at rows r ≡ x → Fits rows r x → Bears rows M x → Bearer M r
  bearer M r (Literal x) e f h = absurd h
  bearer M r (Element a b) e f h = an-element e f h
  bearer M r (Monadic a b) e f h = absurd h
  bearer M r (Dyadic a b c) e f h = absurd h
  bearer M r Stop e f h = absurd h
  bearer M r Skip e f h = absurd h
  bearer M r (Assignment a b c) e f h = an-assignment e f.0 h
  bearer M r (Input a b c) e f h = an-input e f h
  bearer M r (Output a b c) e f h = an-output e f h
  bearer M r (Seq a) e f h = absurd h
  bearer M r (Par a) e f h = absurd h
  bearer M r (If a) e f h = absurd h
  bearer M r (While a b) e f h = absurd h
  bearer M r (Alt a) e f h = absurd h
  bearer M r (Block a b) e f h = absurd h
  bearer M r (Member a b) e f h = absurd h
  bearer M r (Choice a b c) e f h = absurd h
  bearer M r (OptionRow a b c) e f h = absurd h
  bearer M r (Guard a b) e f h = absurd h
  bearer M r Other e f h = absurd h

  module _ (passed : Passed rows) where
    fits : (r : ℕ) → r < row_count rows → Fits rows r (node_at rows r)
    fits = passed-fits rows passed

    -- the row of a target is an element
    abbrev Targets : ℕ → ℕ → ℕ → Type 0
    Targets c v d = (node_at rows c ≡ Element v d) × ToExpr rows c d × ((content_at rows c).target ≡ record { name = variable_at rows v; subscript = (content_at rows d).expr })

    target-of : (c v d : ℕ) → c < row_count rows → node_at rows c ≡ Element v d → Targets c v d
    target-of c v d l e =
        (e, fits_by rows passed c (Element v d) l e, ap (λ (x : Content). x.target) (content-by rows passed c (Element v d) l e))

    target_is : (r c : ℕ) → IsTarget rows r (11 ∷ []) c → Targets c (natural_at rows c 1) (natural_at rows c 2)
    target_is r c t = target-of c (natural_at rows c 1) (natural_at rows c 2) t.1 (node-of-kind rows c 11 (Memᴰ.eq_of_singleton t.2))

    module _ (n : ℕ) where
      -- the cells of the target of an input
      target-cells : (a b c v d : ℕ) → Targets c v d → Memᴰ n (changes_by (receive_at a b c)) ↔ Located rows (cells_at rows) n v d
      target-cells a b c v d t =
          subst (λ (x : Target). Memᴰ n (counts_for x.name.first x.name.size x.subscript) ↔ Located rows (cells_at rows) n v d) (sym t.2) (cells_is rows passed n c v d t.1)

      changes-to : (r : ℕ) → Bearer (mark_changes n) r → Of n (cells_at rows) (Changes rows (Counts rows)) r
      changes-to r (an-element e f h) = absurd h
      changes-to r (an-assignment {a} {b} e f h) = let p = (cells_is rows passed n r a b f).0 h in (a, (p.0, p.1, changed-by-assignment e p.2))
      changes-to r (an-input {a} {b} {c} e f h) =
          let t = target_is r c f.2 in
          let p = (target-cells a b c (natural_at rows c 1) (natural_at rows c 2) t).0 h in
          (natural_at rows c 1, (p.0, p.1, changed-by-input e t.0 p.2))
      changes-to r (an-output e f h) = absurd h

      -- a row's node is looked at by an equation
      bears-by : (M : Mark) (r : ℕ) (x : Node) → node_at rows r ≡ x → Bears rows M x → Bears rows M (node_at rows r)
      bears-by M r x e h = subst (Bears rows M) (sym e) h

      changes-from : (r v i : ℕ) → r < row_count rows → Numbers (cells_at rows) n v i → Changes rows (Counts rows) r v i → Bears rows (mark_changes n) (node_at rows r)
      changes-from r v i l u (changed-by-assignment {b} {c} e k) =
          bears-by (mark_changes n) r (Assignment v b c) e ((cells_is rows passed n r v b (fits_by rows passed r (Assignment v b c) l e).0).1 (i, u, k))
      changes-from r v i l u (changed-by-input {a} {b} {c} {d} e g k) =
          let f = fits_by rows passed r (Input a b c) l e in
          bears-by (mark_changes n) r (Input a b c) e ((target-cells a b c v d (target-of c v d f.2.1 g)).1 (i, u, k))

      pub bears-changes : (r : ℕ) → r < row_count rows → Bears rows (mark_changes n) (node_at rows r) ↔ Of n (cells_at rows) (Changes rows (Counts rows)) r
      bears-changes r l = (λ h. changes-to r (bearer (mark_changes n) r (node_at rows r) refl (fits r l) h), λ h. changes-from r h.0 h.1.0 l h.1.1 h.1.2)

      -- uses
      uses-to : (r : ℕ) → Bearer (mark_uses n) r → Of n (cells_at rows) Touches r
      uses-to r (an-element {a} {b} e f h) = let p = (cells_is rows passed n r a b f).0 h in (a, (p.0, p.1, inr (stands e p.2)))
      uses-to r (an-assignment {a} {b} e f h) = let p = (cells_is rows passed n r a b f).0 h in (a, (p.0, p.1, inl (changed-by-assignment e p.2)))
      uses-to r (an-input {a} {b} {c} e f h) =
          let t = target_is r c f.2 in
          let p = (target-cells a b c (natural_at rows c 1) (natural_at rows c 2) t).0 h in
          (natural_at rows c 1, (p.0, p.1, inl (changed-by-input e t.0 p.2)))
      uses-to r (an-output e f h) = absurd h

      uses-from : (r v i : ℕ) → r < row_count rows → Numbers (cells_at rows) n v i → Touches r v i → Bears rows (mark_uses n) (node_at rows r)
      uses-from r v i l u (inl (changed-by-assignment {b} {c} e k)) =
          bears-by (mark_uses n) r (Assignment v b c) e ((cells_is rows passed n r v b (fits_by rows passed r (Assignment v b c) l e).0).1 (i, u, k))
      uses-from r v i l u (inl (changed-by-input {a} {b} {c} {d} e g k)) =
          let f = fits_by rows passed r (Input a b c) l e in
          bears-by (mark_uses n) r (Input a b c) e ((target-cells a b c v d (target-of c v d f.2.1 g)).1 (i, u, k))
      uses-from r v i l u (inr (stands {b} e k)) = bears-by (mark_uses n) r (Element v b) e ((cells_is rows passed n r v b (fits_by rows passed r (Element v b) l e)).1 (i, u, k))

      pub bears-uses : (r : ℕ) → r < row_count rows → Bears rows (mark_uses n) (node_at rows r) ↔ Of n (cells_at rows) Touches r
      bears-uses r l = (λ h. uses-to r (bearer (mark_uses n) r (node_at rows r) refl (fits r l) h), λ h. uses-from r h.0 h.1.0 l h.1.1 h.1.2)

      -- inputs
      inputs-to : (r : ℕ) → Bearer (mark_inputs n) r → Of n (elements_at rows) (Inputs rows (Counts rows)) r
      unfolding source_at
      inputs-to r (an-element e f h) = absurd h
      inputs-to r (an-assignment e f h) = absurd h
      inputs-to r (an-input {a} {b} {c} e f h) = let p = (elements-is rows passed n r 1 a b f.0 f.1).0 h in (a, (p.0, p.1, input-row e p.2))
      inputs-to r (an-output e f h) = absurd h

      inputs-from : (r c i : ℕ) → r < row_count rows → Numbers (elements_at rows) n c i → Inputs rows (Counts rows) r c i → Bears rows (mark_inputs n) (node_at rows r)
      unfolding source_at
      inputs-from r c i l u (input-row {b} {d} e k) =
          let f = fits_by rows passed r (Input c b d) l e in
          bears-by (mark_inputs n) r (Input c b d) e ((elements-is rows passed n r 1 c b f.0 f.1).1 (i, u, k))

      pub bears-inputs : (r : ℕ) → r < row_count rows → Bears rows (mark_inputs n) (node_at rows r) ↔ Of n (elements_at rows) (Inputs rows (Counts rows)) r
      bears-inputs r l = (λ h. inputs-to r (bearer (mark_inputs n) r (node_at rows r) refl (fits r l) h), λ h. inputs-from r h.0 h.1.0 l h.1.1 h.1.2)

      -- outputs
      outputs-to : (r : ℕ) → Bearer (mark_outputs n) r → Of n (elements_at rows) (Outputs rows (Counts rows)) r
      unfolding sink_at
      outputs-to r (an-element e f h) = absurd h
      outputs-to r (an-assignment e f h) = absurd h
      outputs-to r (an-input e f h) = absurd h
      outputs-to r (an-output {a} {b} {c} e f h) = let p = (elements-is rows passed n r 2 a b f.0 f.1).0 h in (a, (p.0, p.1, output_row e p.2))

      outputs-from : (r c i : ℕ) → r < row_count rows → Numbers (elements_at rows) n c i → Outputs rows (Counts rows) r c i → Bears rows (mark_outputs n) (node_at rows r)
      unfolding sink_at
      outputs-from r c i l u (output_row {b} {d} e k) =
          let f = fits_by rows passed r (Output c b d) l e in
          bears-by (mark_outputs n) r (Output c b d) e ((elements-is rows passed n r 2 c b f.0 f.1).1 (i, u, k))

      pub bears-outputs : (r : ℕ) → r < row_count rows → Bears rows (mark_outputs n) (node_at rows r) ↔ Of n (elements_at rows) (Outputs rows (Counts rows)) r
      bears-outputs r l = (λ h. outputs-to r (bearer (mark_outputs n) r (node_at rows r) refl (fits r l) h), λ h. outputs-from r h.0 h.1.0 l h.1.1 h.1.2)
