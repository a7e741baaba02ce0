-- The rows of listed lines, line by line.
use mathlib.Core.Path.{◌≡◌, refl, sym, ap, ap₂, ◌∙◌}
use mathlib.Core.List.{List, [], ◌∷◌}
use Prim.Native.Nat.{ℕ, suc, ◌+◌, ◌-◌, ◌*◌, ◌≤◌, ◌<◌}
use native.Mathlib.Omega.{arith}
use native.Mathlib.Numerals.{add-one}
use lib.ListN.{length, get_or, drop, set, length-drop}
use lib.Seq.{sets, length-take-le}
use Rattle.read_tokens.specs.Held.{part}
use Rattle.read_levels.specs.Listing.{start_of, sorts_on}
use Rattle.read_counts.specs.TokenRows.{rows_by_kind, declaration_rows}
use Rattle.read_counts.specs.ListedRows.{Spans, own_on, rows_on, each_line, all_lines, owns_listed, rows_listed}
use Rattle.read_counts.proofs.KindRows.{line-few, declaration-few}

-- a line before the last: one more is left than after it
one_left : (count line : ℕ) → line < count → count - line ≡ suc (count - (line + 1))
one_left count line h = omega arith

module _ (f : ℕ → ℕ) (count line : ℕ) where
  -- none is left
  pub all_none : count ≤ line → all_lines f (count - line) line ≡ 0
  unfolding all_lines
  all_none h = let e : count - line ≡ 0 = omega arith in ap (λ (n : ℕ). all_lines f n line) e

  pub each_none : count ≤ line → each_line f (count - line) line ≡ []
  unfolding each_line
  each_none h = let e : count - line ≡ 0 = omega arith in ap (λ (n : ℕ). each_line f n line) e

  -- one more
  pub all-next : line < count → all_lines f (count - line) line ≡ f line + all_lines f (count - (line + 1)) (line + 1)
  unfolding all_lines
  all-next h = ap (λ (n : ℕ). all_lines f n line) (one_left count line h) ∙ ap (λ (i : ℕ). f line + all_lines f (count - (line + 1)) i) (sym (add-one line))

  pub each_next : line < count → each_line f (count - line) line ≡ f line ∷ each_line f (count - (line + 1)) (line + 1)
  unfolding each_line
  each_next h = ap (λ (n : ℕ). each_line f n line) (one_left count line h) ∙ ap (λ (i : ℕ). f line ∷ each_line f (count - (line + 1)) i) (sym (add-one line))

-- Where the loops stand -------------------------------------------------------------------------------------------------------------

-- how many tokens stand from a place to a place
pub sorts-length : (sorts : List ℕ) (first end : ℕ) → first ≤ end → end ≤ length sorts → length (part sorts first end) ≡ end - first
sorts-length sorts first end h k = length-take-le (end - first) (drop first sorts) (omega (arith, length-drop first sorts))

-- the tokens of a line begin at a place
pub record Stands (count : ℕ) (ends sorts : List ℕ) (line first : ℕ) : Type 0 where
  pub begins : first ≡ start_of ends line
  pub within : first ≤ length sorts
  pub inside : line ≤ count

module _ (count : ℕ) (kinds ends sorts : List ℕ) (spans : Spans count kinds ends sorts) where
  pub stands-first : Stands count ends sorts 0 0
  unfolding start_of
  stands-first = record { begins = refl; within = omega arith; inside = omega arith }

  module _ (line first : ℕ) (h : Stands count ends sorts line first) (more : line < count) where
    -- the tokens of a line
    pub record Line : Type 0 where
      pub kind-there : line < length kinds
      pub end-there : line < length ends
      pub wide : first ≤ get_or ends line 0
      pub ends-within : get_or ends line 0 ≤ length sorts
      pub next : Stands count ends sorts (line + 1) (get_or ends line 0)

    pub the-line : Line
    unfolding start_of
    the-line =
        let (a, b) = spans.span line more in
        let e = h.begins in
        record {
          kind-there = omega (arith, spans.kinds-long);
          end-there = omega (arith, spans.ends-long);
          wide = omega (arith, a, e);
          ends-within = b;
          next = record { begins = sym (ap (start_of ends) (add-one line)); within = b; inside = omega arith };
        }

-- Sums ------------------------------------------------------------------------------------------------------------------------------

-- the rows of the lines before a line
pub record Summed (count : ℕ) (kinds ends sorts : List ℕ) (rows line first : ℕ) : Type 0 where
  pub stands : Stands count ends sorts line first
  pub total : rows + all_lines (rows_on kinds ends sorts) (count - line) line ≡ rows_listed count kinds ends sorts
  pub few : rows ≤ 2 * line + 2 * first

module _ (count : ℕ) (kinds ends sorts : List ℕ) (spans : Spans count kinds ends sorts) where
  pub summed-nothing : Summed count kinds ends sorts 0 0 0
  unfolding rows_listed
  summed-nothing =
      let e : count - 0 ≡ count = omega arith in
      record { stands = stands-first count kinds ends sorts spans; total = omega (arith, ap (λ (n : ℕ). all_lines (rows_on kinds ends sorts) n 0) e); few = omega arith }

  module _ (rows line first : ℕ) (h : Summed count kinds ends sorts rows line first) where
    -- no line is left
    pub summed-all : count ≤ line → rows ≡ rows_listed count kinds ends sorts
    summed-all k = omega (arith, all_none (rows_on kinds ends sorts) count line k, h.total)

    -- a line more
    pub summed-next : line < count
        → Summed count kinds ends sorts (rows + declaration_rows (get_or kinds line 0) + rows_by_kind (get_or kinds line 0) (part sorts first (get_or ends line 0))) (line + 1) (get_or ends line 0)
    summed-next more =
        let kind = get_or kinds line 0 in
        let end = get_or ends line 0 in
        let x = the-line count kinds ends sorts spans line first h.stands more in
        let e : part sorts first end ≡ sorts_on ends sorts line = ap (λ (i : ℕ). part sorts i end) h.stands.begins in
        let r : rows_by_kind kind (part sorts first end) ≡ own_on kinds ends sorts line = ap (rows_by_kind kind) e in
        let z = sorts-length sorts first end x.wide x.ends-within in
        record {
          stands = x.next;
          total = omega (arith, all-next (rows_on kinds ends sorts) count line more, h.total, r);
          few = omega (arith, h.few, declaration-few kind, line-few kind (part sorts first end), z, x.wide);
        }

-- Own rows --------------------------------------------------------------------------------------------------------------------------

-- the rows of each line before a line are noted
pub record Noted (count : ℕ) (kinds ends sorts owns₀ owns : List ℕ) (line first : ℕ) : Type 0 where
  pub stands : Stands count ends sorts line first
  pub noted : sets owns line (each_line (own_on kinds ends sorts) (count - line) line) ≡ sets owns₀ 0 (owns_listed count kinds ends sorts)

module _ (count : ℕ) (kinds ends sorts owns₀ : List ℕ) (spans : Spans count kinds ends sorts) where
  pub noted_nothing : Noted count kinds ends sorts owns₀ owns₀ 0 0
  unfolding owns_listed
  noted_nothing =
      let e : count - 0 ≡ count = omega arith in
      record { stands = stands-first count kinds ends sorts spans; noted = ap (λ (n : ℕ). sets owns₀ 0 (each_line (own_on kinds ends sorts) n 0)) e }

  module _ (owns : List ℕ) (line first : ℕ) (h : Noted count kinds ends sorts owns₀ owns line first) where
    -- no line is left
    pub noted-all : count ≤ line → owns ≡ sets owns₀ 0 (owns_listed count kinds ends sorts)
    noted-all k = sym (ap (sets owns line) (each_none (own_on kinds ends sorts) count line k)) ∙ h.noted

    -- a line more
    pub noted-next : line < count
        → Noted count kinds ends sorts owns₀ (set owns line (rows_by_kind (get_or kinds line 0) (part sorts first (get_or ends line 0)))) (line + 1) (get_or ends line 0)
    noted-next more =
        let kind = get_or kinds line 0 in
        let end = get_or ends line 0 in
        let f = own_on kinds ends sorts in
        let x = the-line count kinds ends sorts spans line first h.stands more in
        let e : part sorts first end ≡ sorts_on ends sorts line = ap (λ (i : ℕ). part sorts i end) h.stands.begins in
        record {
          stands = x.next;
          noted = ap₂ (λ (ss : List ℕ) (i : ℕ). sets (set owns line (rows_by_kind kind ss)) i (each_line f (count - (line + 1)) (line + 1))) e (add-one line)
              ∙ sym (ap (sets owns line) (each_next f count line more))
              ∙ h.noted;
        }
