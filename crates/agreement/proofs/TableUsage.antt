-- In an accepted table rows of two members of a PAR touch nothing in common: no pair of components of a PAR clashes.
use mathlib.Core.Path.{◌≡◌, refl, sym, ap, subst, ◌∙◌}
use mathlib.Core.Bool.{Bool, true, false, false≢true}
use mathlib.Core.Option.{Option, none, some, some-ne-none}
use mathlib.Core.List.Memᴰ
use mathlib.Core.List.{List, [], ◌∷◌, ◌++◌, Memᴰ}
use Prim.Native.Nat.{ℕ, zero, suc}
use lib.IntN.{ℤ}
use lib.ListN.{get_or}
use Rattle.meaning.specs.Basics.{if_else, among, common}
use Rattle.meaning.specs.HigherRows.{at_row}
use Rattle.meaning.specs.Tree.{parallel, Process, node, Processes, Content, no_content, content_at, contents}
use Rattle.meaning.specs.Usage.{changes, uses, input_elements, output_elements, gather, cell_clash, input_clash, output_clash, Pair, pairs, Comparison, comparisons_in, comparisons_of, comparisons, clashes, first_clash, refusal_of, usage_fault}
use Rattle.meaning.proofs.Decides.{Decides, holding, failing, decides-any}
use Rattle.meaning.proofs.ReferenceCounts.{decides-among}
use Rattle.meaning.proofs.NoFault.{or-false}
use Rattle.agreement.proofs.Frame.{Off}

-- Lists without a number in common ------------------------------------------------------------------------------------------------

failed : {A : Type 0} {t : Bool} → Decides A t → t ≡ false → ¬ A
failed (holding a) e = absurd (false≢true (sym e))
failed (failing f) e = f

off : (l m : List ℕ) → common l m ≡ false → Off l m
off l m e x i j = failed (decides-any (λ y. Memᴰ y m) (λ y. among y m) (λ y. decides-among y m) l) e (x, i, j)

-- two processes that may be components of a PAR
pub record Clear (p q : Process) : Type 0 where
  pub there : Off (gather p changes) (gather q uses)
  pub back : Off (gather q changes) (gather p uses)
  pub in-in : Off (gather p input_elements) (gather q input_elements)
  pub out-out : Off (gather p output_elements) (gather q output_elements)

-- Comparisons ---------------------------------------------------------------------------------------------------------------------

quiet : (l : List Comparison) (c : Comparison) → first_clash l ≡ none → Memᴰ c l → clashes c ≡ false
unfolding first_clash
quiet [] c e m = elim m [ ]
quiet (d ∷ l) c e m = go (clashes d) refl e m (quiet l c)
  where
    go : (t : Bool) → clashes d ≡ t → if_else t (some d) (first_clash l) ≡ none → Memᴰ c (d ∷ l) → (first_clash l ≡ none → Memᴰ c l → clashes c ≡ false) → clashes c ≡ false
    go true i h m f = absurd (some-ne-none d h)
    go false i h (Memᴰ.head e) f = ap clashes e ∙ i
    go false i h (Memᴰ.tail m) f = f h m

compared : (number : ℕ) (l : List Content) (r : ℕ) (c : Comparison) → Memᴰ c (comparisons_in number (get_or l r no_content).process) → Memᴰ c (comparisons_of number l)
compared number [] r c m = absurd (Memᴰ.not-nil m)
compared number (p ∷ l) zero c m = Memᴰ.append_left (comparisons_of number l) m
compared number (p ∷ l) (suc r) c m = Memᴰ.append_right (comparisons_in number p.process) (compared number l r c m)

no-refusal : (o : Option Comparison) → refusal_of o ≡ none → o ≡ none
no-refusal none e = refl
no-refusal (some c) e = absurd (some-ne-none (c.number, c.row) e)

module _ (rows : List ℤ) (u : usage_fault rows ≡ none) where
  -- the components of the PAR at a row do not clash
  module _ (r : ℕ) (ms : Processes) (e : (content_at rows r).process ≡ some (node parallel r ms)) (q : Pair) (m : Memᴰ q (pairs ms)) where
    abbrev Compared : ℕ → Comparison
    Compared number = record { number = number; row = r; pair = q }

    at-row : (number : ℕ) → Memᴰ (Compared number) (comparisons_of number (contents rows))
    unfolding content_at contents at_row
    at-row number = compared number (contents rows) r (Compared number) (subst (λ (o : Option Process). Memᴰ (Compared number) (comparisons_in number o)) (sym e) (Memᴰ.map (λ (p : Pair). record { number = number; row = r; pair = p }) m))

    unclashing : (c : Comparison) → Memᴰ c (comparisons rows) → clashes c ≡ false
    unfolding usage_fault
    unclashing c = quiet (comparisons rows) c (no-refusal (first_clash (comparisons rows)) u)

    pub clear : Clear q.one q.other
    unfolding comparisons clashes cell_clash input_clash output_clash
    clear =
        let l = contents rows in
        let rest = comparisons_of 8 l ++ comparisons_of 9 l in
        let cells = or-false (common (gather q.one changes) (gather q.other uses)) (common (gather q.other changes) (gather q.one uses)) (unclashing (Compared 7) (Memᴰ.append_left rest (at-row 7))) in
        let ins = unclashing (Compared 8) (Memᴰ.append_right (comparisons_of 7 l) (Memᴰ.append_left (comparisons_of 9 l) (at-row 8))) in
        let outs = unclashing (Compared 9) (Memᴰ.append_right (comparisons_of 7 l) (Memᴰ.append_right (comparisons_of 8 l) (at-row 9))) in
        record {
          there = off (gather q.one changes) (gather q.other uses) cells.0;
          back = off (gather q.other changes) (gather q.one uses) cells.1;
          in-in = off (gather q.one input_elements) (gather q.other input_elements) ins;
          out-out = off (gather q.one output_elements) (gather q.other output_elements) outs;
        }
