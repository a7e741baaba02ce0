-- The lines of a text, measured and placed; and its rows, laid over the lent ones.
use mathlib.Core.Path.{◌≡◌, refl, sym, ap, ◌∙◌}
use mathlib.Core.List.{List, [], ◌∷◌, ◌++◌, append_assoc}
use Prim.Native.Nat.{ℕ, suc, ◌+◌, ◌*◌, ◌≤◌}
use native.Mathlib.Omega.{arith}
use lib.IntN.{ℤ}
use lib.ListN.{length, take, drop}
use lib.Seq.{sets-eq, take-append_seam}
use Rattle.base_top_down.proofs.Flat.{flat-length}
use Rattle.grammar.specs.Outline.{heads, grown}
use Rattle.grammar.specs.TextRows.{trees_form, text_lines}
use Rattle.read_levels.specs.Listing.{Listing}
use Rattle.read_resolved.specs.Resolved.{declared_names}
use Rattle.read_expressions.specs.Overlay.{overlay}
use Rattle.read_layout.specs.Standing.{Standing, standing}
use Rattle.read_sizes.specs.Sizes.{beneaths, afters, rests, text_standings, by_line, Measured, Summed}
use Rattle.read_counts.specs.ListedRows.{owns_listed}
use Rattle.read_processes.specs.Written.{declared_count, process_rows, process_laid, starts_from, text_starts, first_places, Ready, Placeable, Placed, StartsTold}
use Rattle.read_sizes.proofs.MeasuredLaws.{measured}
use Rattle.read_processes.proofs.TextStands.{rows-total}

-- numbers by line stand first
first-held : (lent xs held : List ℕ) (n : ℕ) → length xs ≡ n → n ≤ length lent → held ≡ by_line lent xs → take n held ≡ xs
first-held lent xs held n e h q =
    ap (take n) (q ∙ sets-eq xs lent 0 (omega (arith, e, h)))
    ∙ ap (λ (m : ℕ). take m (xs ++ drop (0 + length xs) lent)) (sym e)
    ∙ take-append_seam xs (drop (0 + length xs) lent)

beneaths-length : (ys : List Standing) → length (beneaths ys) ≡ length ys
unfolding beneaths
beneaths-length [] = refl
beneaths-length (y ∷ ys) = ap suc (beneaths-length ys)

afters-length : (ys : List Standing) → length (afters ys) ≡ length ys
unfolding afters
afters-length [] = refl
afters-length (y ∷ ys) = ap suc (afters-length ys)

rests-length : (ys : List Standing) → length (rests ys) ≡ length ys
unfolding rests
rests-length [] = refl
rests-length (y ∷ ys) = ap suc (rests-length ys)

starts-length : (names : List (List ℕ)) (ys : List Standing) (places : List ℕ) → length (starts_from names ys places) ≡ length ys
unfolding starts_from
starts-length names [] places = refl
starts-length names (standing e l x ∷ ys) places = ap suc (starts-length names ys _)

module _ (text : List ℕ) (declared count : ℕ) (levels : List ℕ) (g : Listing) (h : Ready text declared count levels g) (lent owns : List ℕ) (long : length lent ≡ 1024)
    (counted : owns ≡ by_line lent (owns_listed count g.kinds g.ends g.sorts)) where
  -- the rows that each line makes itself
  pub text-measured : Measured g.kinds count levels owns (text_standings text)
  text-measured = measured text h.resolved.of-grammar h.few h.resolved.lines levels lent owns h.levelled long counted

  by-line : (xs held : List ℕ) → length xs ≡ length (text_standings text) → held ≡ by_line lent xs → take count held ≡ xs
  by-line xs held e q = first-held lent xs held count (e ∙ sym text-measured.counted) (omega (arith, text-measured.few, long)) q

  module _ (beneath after rest : List ℕ) (summed : Summed g.kinds count levels owns lent lent lent beneath after rest) where
    pub text-placeable : Placeable text declared g.kinds count levels owns beneath
    text-placeable =
        record {
          of-grammar = h.resolved.of-grammar;
          few = h.few;
          counted = h.counted;
          kinds-held = h.resolved.lines.kinds-held;
          measured = text-measured;
          beneath-held = by-line (beneaths (text_standings text)) beneath (beneaths-length (text_standings text)) (summed.beneath-summed (text_standings text) text-measured);
        }

    pub text-placed : (starts : List ℕ) → StartsTold declared g.kinds count levels owns beneath lent starts → Placed text count g starts beneath after rest
    text-placed starts told =
        let ys = text_standings text in
        record {
          resolved = h.resolved;
          few = h.few;
          starts-held = by-line (text_starts text) starts (starts-length (declared_names text) ys (first_places (declared_count text))) (told text text-placeable);
          beneath-held = text-placeable.beneath-held;
          after-held = by-line (afters ys) after (afters-length ys) (summed.after-summed ys text-measured);
          rest-held = by-line (rests ys) rest (rests-length ys) (summed.rest-summed ys text-measured);
        }

-- the rows of the process are laid over the lent ones
pub process-over : (text : List ℕ) (declared count : ℕ) (levels : List ℕ) (g : Listing) (rows : List ℤ) → Ready text declared count levels g → 4096 ≤ length rows
    → process_laid text rows ≡ overlay rows (4 * declared) (process_rows text)
unfolding overlay
process-over text declared count levels g rows h w =
    let t = rows-total text in
    let d = declared_count text in
    let n = flat-length d (trees_form (declared_names text) (grown (text_lines text) 0) heads) in
    sets-eq (process_rows text) rows (4 * d) (omega (arith, t, n, h.few, w))
    ∙ append_assoc (take (4 * d) rows) (process_rows text) (drop (4 * d + length (process_rows text)) rows)
    ∙ ap (λ (k : ℕ). take (4 * k) rows ++ (process_rows text ++ drop (4 * k + length (process_rows text)) rows)) (sym h.counted)
