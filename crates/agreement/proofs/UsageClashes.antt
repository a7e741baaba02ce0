-- Two processes clash by the tests of usage exactly if they do so by the relations on rows.
use mathlib.Core.Path.{◌≡◌, refl, sym, subst}
use mathlib.Core.Logic.{◌⊎◌, inl, inr, ⊎_elim, ◌↔◌}
use mathlib.Core.List.{List, Memᴰ}
use mathlib.Core.Option.{some}
use Prim.Native.Nat.{ℕ, ◌+◌, ◌<◌}
use lib.IntN.{ℤ}
use Rattle.meaning.specs.Rows.{row_count, kind_at}
use Rattle.meaning.specs.Basics.{among, common}
use Rattle.meaning.specs.Kinds.{processes}
use Rattle.meaning.specs.Declarations.{sum_below, cells_at, elements_at}
use Rattle.meaning.specs.Nodes.{node_at}
use Rattle.meaning.specs.Tree.{Process, content_at}
use Rattle.meaning.specs.Usage as U
use Rattle.meaning.specs.Usage.{gather, changes, uses, cell_clash, input_clash, output_clash}
use Rattle.meaning.specs.Clash.{Within, Counts, Changes, changed-by-assignment, changed-by-input, Inputs, input-row, Outputs, output_row, Changed, Used, InputFrom, OutputTo}
use Rattle.meaning.proofs.Decides.{Decides, decides-iff, decides_or, decides-any}
use Rattle.meaning.proofs.ReferenceCounts.{decides-among}
use Rattle.agreement.specs.VerdictClaims.{Passed}
use Rattle.agreement.proofs.UsageTree.{Mark, InProcess, InOption, in-process}
use Rattle.agreement.proofs.UsageWithin.{Bears, at-process, Some, within-below, at_some}
use Rattle.agreement.proofs.UsageGather.{mark_changes, mark_uses, mark_inputs, mark_outputs, gathers-changes, gathers-uses, gathers-inputs, gathers-outputs}
use Rattle.agreement.proofs.UsageNumbers.{Numbers, numbers-one, counts-below}
use Rattle.agreement.proofs.UsageBearers.{Of, Touches, bears-changes, bears-uses, bears-inputs, bears-outputs}

-- two lists have a number in common
decides-common : (l m : List ℕ) → Decides ((n : ℕ) × Memᴰ n l × Memᴰ n m) (common l m)
decides-common l m = decides-any (λ n. Memᴰ n m) (λ n. among n m) (λ n. decides-among n m) l

module _ (rows : List ℤ) where
  -- the process at row p
  abbrev pub IsProcess : ℕ → Process → Type 0
  IsProcess p x = (p < row_count rows) × Memᴰ (kind_at rows p) processes × ((content_at rows p).process ≡ some x)

  -- a place of which R holds in the process at row p
  abbrev In : (ℕ → ℕ → ℕ → Type 0) → ℕ → ℕ → ℕ → Type 0
  In R p v i = (r : ℕ) × Within rows p r × R r v i

  module _ (passed : Passed rows) where
    -- a mark of number n is in the process exactly if the place of that number is one of which R holds in it
    located : (n : ℕ) (M : Mark) (size : ℕ → ℕ) (R : ℕ → ℕ → ℕ → Type 0) → ((r : ℕ) → r < row_count rows → Bears rows M (node_at rows r) ↔ Of n size R r)
        → (p : ℕ) (x : Process) → IsProcess p x → InProcess M x ↔ ((v : ℕ) × ((i : ℕ) × Numbers size n v i × In R p v i))
    located n M size R each p x h = (λ m. to (some_in.0 (subst (InOption M) (sym h.2) m)), λ s. subst (InOption M) h.2 (some_in.1 (from s)))
      where
        some_in : InOption M (content_at rows p).process ↔ Some rows M passed p
        some_in = (λ m. (at_some rows M passed p h.0).0 (in-process m), λ s. at-process rows M passed p h.0 h.1 ((at_some rows M passed p h.0).1 s))

        to : Some rows M passed p → (v : ℕ) × ((i : ℕ) × Numbers size n v i × In R p v i)
        to s = let o = (each s.0 (within-below rows M passed h.0 s.1)).0 s.2 in (o.0, (o.1.0, o.1.1, (s.0, s.1, o.1.2)))

        from : ((v : ℕ) × ((i : ℕ) × Numbers size n v i × In R p v i)) → Some rows M passed p
        from s =
            let d = s.1.2 in
            (d.0, d.1, (each d.0 (within-below rows M passed h.0 d.1)).1 (s.0, (s.1.0, s.1.1, d.2)))

    -- a number in common is a place in common
    shared : (size : ℕ → ℕ) (R S : ℕ → ℕ → ℕ → Type 0) (l m : List ℕ) (p q : ℕ)
        → ((n : ℕ) → Memᴰ n l ↔ ((v : ℕ) × ((i : ℕ) × Numbers size n v i × In R p v i)))
        → ((n : ℕ) → Memᴰ n m ↔ ((v : ℕ) × ((i : ℕ) × Numbers size n v i × In S q v i)))
        → ((v i : ℕ) → In R p v i → i < size v)
        → ((n : ℕ) × Memᴰ n l × Memᴰ n m) ↔ ((v : ℕ) × ((i : ℕ) × In R p v i × In S q v i))
    shared size R S l m p q f g below = (λ h. to h.0 ((f h.0).0 h.1) ((g h.0).0 h.2), from)
      where
        to : (n : ℕ) → ((v : ℕ) × ((i : ℕ) × Numbers size n v i × In R p v i)) → ((v : ℕ) × ((i : ℕ) × Numbers size n v i × In S q v i)) → (v : ℕ) × ((i : ℕ) × In R p v i × In S q v i)
        to n h k =
            let e = numbers-one size n k.0 k.1.0 h.0 h.1.0 k.1.1 h.1.1 in
            (h.0, (h.1.0, h.1.2, subst (λ (i : ℕ). In S q h.0 i) e.1 (subst (λ (v : ℕ). In S q v k.1.0) e.0 k.1.2)))

        from : ((v : ℕ) × ((i : ℕ) × In R p v i × In S q v i)) → (n : ℕ) × Memᴰ n l × Memᴰ n m
        from h =
            let n = sum_below size h.0 + h.1.0 in
            let u : Numbers size n h.0 h.1.0 = (refl, below h.0 h.1.0 h.1.1) in
            (n, (f n).1 (h.0, (h.1.0, u, h.1.1)), (g n).1 (h.0, (h.1.0, u, h.1.2)))

    -- the process at row p changes a cell that the one at row q uses; both input from, both output to an element
    abbrev pub Cells : ℕ → ℕ → Type 0
    Cells p q = (v : ℕ) × ((i : ℕ) × Changed rows (Counts rows) p v i × Used rows (Counts rows) q v i)

    abbrev pub BothInput : ℕ → ℕ → Type 0
    BothInput p q = (c : ℕ) × ((i : ℕ) × InputFrom rows (Counts rows) p c i × InputFrom rows (Counts rows) q c i)

    abbrev pub BothOutput : ℕ → ℕ → Type 0
    BothOutput p q = (c : ℕ) × ((i : ℕ) × OutputTo rows (Counts rows) p c i × OutputTo rows (Counts rows) q c i)

    changes-below : {r v i : ℕ} → Changes rows (Counts rows) r v i → i < cells_at rows v
    changes-below (changed-by-assignment e k) = counts-below rows k
    changes-below (changed-by-input e f k) = counts-below rows k

    inputs-below : {r c i : ℕ} → Inputs rows (Counts rows) r c i → i < elements_at rows c
    inputs-below (input-row e k) = counts-below rows k

    outputs-below : {r c i : ℕ} → Outputs rows (Counts rows) r c i → i < elements_at rows c
    outputs-below (output_row e k) = counts-below rows k

    -- one list and the other, by the marks
    through : {A B C : Type 0} → A ↔ B → B ↔ C → A ↔ C
    through e f = (λ a. f.0 (e.0 a), λ c. e.1 (f.1 c))

    used-is : (q v i : ℕ) → In (Touches rows) q v i ↔ Used rows (Counts rows) q v i
    used-is q v i = (
      λ h. ⊎_elim (λ c. inl (h.0, h.1, c)) (λ s. inr (h.0, h.1, s)) h.2,
      λ h. ⊎_elim (λ c. (c.0, c.1, inl c.2)) (λ s. (s.0, s.1, inr s.2)) h,
    )

    module _ (p q : ℕ) (x y : Process) (a : IsProcess p x) (b : IsProcess q y) where
      cells-common : ((n : ℕ) × Memᴰ n (gather x changes) × Memᴰ n (gather y uses)) ↔ Cells p q
      cells-common =
          through
          (shared (cells_at rows) (Changes rows (Counts rows)) (Touches rows) (gather x changes) (gather y uses) p q
          (λ n. through (gathers-changes n x) (located n (mark_changes n) (cells_at rows) (Changes rows (Counts rows)) (bears-changes rows passed n) p x a))
          (λ n. through (gathers-uses n y) (located n (mark_uses n) (cells_at rows) (Touches rows) (bears-uses rows passed n) q y b))
          (λ v i h. changes-below h.2))
          (λ h. (h.0, (h.1.0, h.1.1, (used-is q h.0 h.1.0).0 h.1.2)), λ h. (h.0, (h.1.0, h.1.1, (used-is q h.0 h.1.0).1 h.1.2)))

      inputs-common : ((n : ℕ) × Memᴰ n (gather x U.input_elements) × Memᴰ n (gather y U.input_elements)) ↔ BothInput p q
      inputs-common =
          shared (elements_at rows) (Inputs rows (Counts rows)) (Inputs rows (Counts rows)) (gather x U.input_elements) (gather y U.input_elements) p q
          (λ n. through (gathers-inputs n x) (located n (mark_inputs n) (elements_at rows) (Inputs rows (Counts rows)) (bears-inputs rows passed n) p x a))
          (λ n. through (gathers-inputs n y) (located n (mark_inputs n) (elements_at rows) (Inputs rows (Counts rows)) (bears-inputs rows passed n) q y b))
          (λ v i h. inputs-below h.2)

      outputs-common : ((n : ℕ) × Memᴰ n (gather x U.output_elements) × Memᴰ n (gather y U.output_elements)) ↔ BothOutput p q
      outputs-common =
          shared (elements_at rows) (Outputs rows (Counts rows)) (Outputs rows (Counts rows)) (gather x U.output_elements) (gather y U.output_elements) p q
          (λ n. through (gathers-outputs n x) (located n (mark_outputs n) (elements_at rows) (Outputs rows (Counts rows)) (bears-outputs rows passed n) p x a))
          (λ n. through (gathers-outputs n y) (located n (mark_outputs n) (elements_at rows) (Outputs rows (Counts rows)) (bears-outputs rows passed n) q y b))
          (λ v i h. outputs-below h.2)

    -- the tests of two components
    pub decides-cells : (p q : ℕ) (x y : Process) → IsProcess p x → IsProcess q y → Decides (Cells p q ⊎ Cells q p) (cell_clash x y)
    unfolding cell_clash
    decides-cells p q x y a b =
        let e = cells-common p q x y a b in
        let f = cells-common q p y x b a in
        decides_or (decides-iff e.0 e.1 (decides-common (gather x changes) (gather y uses))) (decides-iff f.0 f.1 (decides-common (gather y changes) (gather x uses)))

    pub decides-inputs : (p q : ℕ) (x y : Process) → IsProcess p x → IsProcess q y → Decides (BothInput p q) (input_clash x y)
    unfolding input_clash
    decides-inputs p q x y a b = let e = inputs-common p q x y a b in decides-iff e.0 e.1 (decides-common (gather x U.input_elements) (gather y U.input_elements))

    pub decides-outputs : (p q : ℕ) (x y : Process) → IsProcess p x → IsProcess q y → Decides (BothOutput p q) (output_clash x y)
    unfolding output_clash
    decides-outputs p q x y a b = let e = outputs-common p q x y a b in decides-iff e.0 e.1 (decides-common (gather x U.output_elements) (gather y U.output_elements))
