-- The members of a link: one, if a process stands at the row that it refers to, and those of the next link; a row that is no link has none.
use mathlib.Core.Path.{◌≡◌, refl, sym, ap, ap₂, ◌∙◌}
use mathlib.Core.Logic.{◌⊎◌, inl, inr, ⊎_elim}
use mathlib.Core.Bool.{Bool, true, false, ◌&&◌, false≢true}
use mathlib.Core.List.{List, [], ◌++◌}
use mathlib.Core.Option.{Option, none, some}
use Prim.Native.Nat.{ℕ, ◌<◌, ◌≤◌}
use native.Mathlib.Decide.{dec_lt}
use native.Mathlib.Omega.{arith}
use lib.IntN.{ℤ}
use lib.Dec.{leb, ltb}
use borrow.Author.Tests.{ltb-true, lt-ltb, leb-true}
use Rattle.meaning.specs.Rows.{row_count, field_at, natural_at, kind_at}
use Rattle.meaning.specs.Tree.{Process, Processes, empty, and_process, Content, content_of, content_at}
use Rattle.meaning.specs.Usage.{gather_all}
use Rattle.base_layout.specs.Operands.{operand_at}
use Rattle.base_layout.proofs.RowNodes.{node_of}
use Rattle.base_layout.proofs.Parts.{part-past, higher_content, part-of-kind}
use Rattle.base_layout.proofs.RowKinds.{each-kind, above-operand, by_kind}
use Rattle.check_components.specs.Marks.{marks, all_marks}
use Rattle.check_components.specs.Fields.{is_link}

both : (s t : Bool) → (s && t) ≡ true → (s ≡ true) × (t ≡ true)
both true t e = (refl, e)
both false t e = absurd (false≢true e)

three : (k : ℕ) → 40 ≤ k → k ≤ 42 → (k ≡ 40) ⊎ ((k ≡ 41) ⊎ (k ≡ 42))
three k l u = go (dec_lt k 41) (dec_lt k 42)
  where
    go : Dec (k < 41) → Dec (k < 42) → (k ≡ 40) ⊎ ((k ≡ 41) ⊎ (k ≡ 42))
    go (yes p) q = inl (omega arith)
    go (no p) (yes q) = inr (inl (omega arith))
    go (no p) (no q) = inr (inr (omega arith))

module _ (rows : List ℤ) (m : ℕ) where
  pub link-below : is_link rows m ≡ true → m < row_count rows
  unfolding is_link
  link-below e = ltb-true m (row_count rows) (both (ltb m (row_count rows)) _ e).0

  link-kind : is_link rows m ≡ true → (kind_at rows m ≡ 40) ⊎ ((kind_at rows m ≡ 41) ⊎ (kind_at rows m ≡ 42))
  unfolding is_link
  link-kind e =
      let h = both (leb 40 (kind_at rows m)) (leb (kind_at rows m) 42) (both (ltb m (row_count rows)) _ e).1 in
      three (kind_at rows m) (leb-true 40 (kind_at rows m) h.0) (leb-true (kind_at rows m) 42 h.1)

  pub link-members : is_link rows m ≡ true → {a b : ℕ} → a ≡ operand_at rows m 1 → b ≡ operand_at rows m 2 → (content_at rows m).listed ≡ and_process (content_at rows a).process (content_at rows b).listed
  link-members e {a} {b} p q = ⊎_elim (λ k. of 40 k refl) (λ s. ⊎_elim (λ k. of 41 k refl) (λ k. of 42 k refl) s) (link-kind e)
    where
      of : (k : ℕ) → kind_at rows m ≡ k
          → (content_of rows m (higher_content rows m) (node_of k (field_at rows m 1) (natural_at rows m 1) (natural_at rows m 2) (natural_at rows m 3))).listed ≡ and_process (higher_content rows m (natural_at rows m 1)).process (higher_content rows m (natural_at rows m 2)).listed
          → (content_at rows m).listed ≡ and_process (content_at rows a).process (content_at rows b).listed
      of k f i =
          ap (λ (x : Content). x.listed) (part-of-kind rows m k (link-below e) f)
          ∙ i
          ∙ ap₂ (λ (x y : Content). and_process x.process y.listed) (above-operand rows m 1 p) (above-operand rows m 2 q)

  -- a row of the table that is no link is of another kind
  refuted : (k : ℕ) → is_link rows m ≡ false → m < row_count rows → leb 40 k ≡ true → leb k 42 ≡ true → kind_at rows m ≡ k → ⊥
  unfolding is_link
  refuted k e h l u i = false≢true (sym e ∙ rw (i, lt-ltb m (row_count rows) h, l, u))

  pub no-members : is_link rows m ≡ false → (content_at rows m).listed ≡ empty
  no-members e = go (dec_lt m (row_count rows))
    where
      inside : m < row_count rows → (content_at rows m).listed ≡ empty
      inside h =
          by_kind rows m h (λ p. p.listed ≡ empty)
          (each-kind (λ x. (content_of rows m (higher_content rows m) x).listed ≡ empty) (kind_at rows m) (field_at rows m 1) (natural_at rows m 1) (natural_at rows m 2) (natural_at rows m 3)
          (λ q. refl) (λ q. refl) (λ q. refl) (λ q. refl) (λ q. refl) (λ q. refl) (λ q. refl) (λ q. refl) (λ q. refl)
          (λ q. refl) (λ q. refl) (λ q. refl) (λ q. refl) (λ q. refl) (λ q. refl)
          (λ q. absurd (refuted 40 e h refl refl q)) (λ q. absurd (refuted 41 e h refl refl q)) (λ q. absurd (refuted 42 e h refl refl q)) (λ q. refl) refl)

      go : Dec (m < row_count rows) → (content_at rows m).listed ≡ empty
      go (yes h) = inside h
      go (no h) = ap (λ (p : Content). p.listed) (part-past rows m (omega arith))

-- a member before others, if it is there
pub and-member : (o : Option Process) (ms : Processes) → gather_all (and_process o ms) marks ≡ all_marks o ++ gather_all ms marks
unfolding gather_all
and-member none ms = refl
and-member (some p) ms = refl

module _ (rows : List ℤ) (m : ℕ) where
  pub link-marks : is_link rows m ≡ true → {a b : ℕ} → a ≡ operand_at rows m 1 → b ≡ operand_at rows m 2 → gather_all (content_at rows m).listed marks ≡ all_marks (content_at rows a).process ++ gather_all (content_at rows b).listed marks
  link-marks e {a} {b} p q = ap (λ (ms : Processes). gather_all ms marks) (link-members rows m e p q) ∙ and-member (content_at rows a).process (content_at rows b).listed

  pub no-link-marks : is_link rows m ≡ false → gather_all (content_at rows m).listed marks ≡ []
  unfolding gather_all
  no-link-marks e = ap (λ (ms : Processes). gather_all ms marks) (no-members rows m e)
