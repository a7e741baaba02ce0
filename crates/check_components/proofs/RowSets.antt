-- The sets of rows: those of a PAR that is there already, joined; sixteen words stored; and what is there from a row on.
use mathlib.Core.Path.{◌≡◌, refl, ap, ◌∙◌}
use mathlib.Core.Logic.{◌⊎◌, inl, inr}
use mathlib.Core.List.{List, ◌++◌}
use Prim.Native.Nat.{ℕ, ◌+◌, ◌-◌, ◌*◌, ◌<◌, ◌≤◌}
use native.Mathlib.Omega.{arith}
use lib.IntN.{ℤ}
use lib.ListN.{length, take, drop}
use lib.Seq.{drop-drop}
use Rattle.meaning.specs.Rows.{row_count, kind_at}
use Rattle.meaning.specs.Tree.{content_at}
use Rattle.meaning.specs.Usage.{gather, gather_all}
use Rattle.base_layout.specs.Operands.{operand_at}
use Rattle.base_sets.specs.Sets.{with_all, set_union, sets_at}
use Rattle.base_sets.proofs.Holds.{all-length}
use Rattle.base_sets.proofs.Joined.{joined-list}
use Rattle.base_layout.proofs.Parts.{part-of-kind}
use Rattle.base_layout.proofs.RowKinds.{above-operand}
use Rattle.check_components.specs.Marks.{marks, own_marks, all_marks}
use Rattle.check_components.specs.RowSets.{stored_at, ParsHave}
use Rattle.check_components.proofs.ProcessMarks.{all-of-seq, all-of-if, all-of-alt}

-- sixteen words from 16 r on are the sets of row r, and put back they are stored there
pub sets-part : (ws : List ℕ) (r : ℕ) → take (16 * r + 16 - 16 * r) (drop (16 * r) ws) ≡ sets_at ws r
sets-part ws r = let e : 16 * r + 16 - 16 * r ≡ 16 = omega arith in ap (λ (n : ℕ). take n (drop (16 * r) ws)) e

pub stored-part : (ws own : List ℕ) (r : ℕ) → take (16 * r) ws ++ (own ++ drop (16 * r + 16 - 16 * r) (drop (16 * r) ws)) ≡ stored_at ws r own
stored-part ws own r =
    let e : 16 * r + 16 - 16 * r ≡ 16 = omega arith in
    ap (λ (n : ℕ). take (16 * r) ws ++ (own ++ drop n (drop (16 * r) ws))) e ∙ ap (λ (vs : List ℕ). take (16 * r) ws ++ (own ++ vs)) (drop-drop 16 (16 * r) ws)

-- numbers put in leave as many words
pub all-sized : (own l : List ℕ) {x : List ℕ} → x ≡ with_all own l → length own ≡ 16 → length x ≡ 16
all-sized own l e h = ap length e ∙ all-length own l ∙ h

-- the kinds that list members, in field a, but for PAR: SEQ, IF and ALT
abbrev pub Listing : ℕ → Type 0
Listing k = (k ≡ 30) ⊎ ((k ≡ 32) ⊎ (k ≡ 34))

module _ (rows : List ℤ) (r : ℕ) (h : r < row_count rows) where
  pub all-of-listing : Listing (kind_at rows r) → {a : ℕ} → a ≡ operand_at rows r 1 → all_marks (content_at rows r).process ≡ own_marks (content_at rows r).process ++ gather_all (content_at rows a).listed marks
  all-of-listing (inl e) = all-of-seq rows r h e
  all-of-listing (inr (inl e)) = all-of-if rows r h e
  all-of-listing (inr (inr e)) = all-of-alt rows r h e

  -- a PAR does nothing by itself, and counts for what its members do
  module _ (e : kind_at rows r ≡ 31) where
    pub all-again : all_marks (content_at rows r).process ≡ own_marks (content_at rows r).process ++ all_marks (content_at rows r).process
    unfolding gather marks
    all-again = rw (part-of-kind rows r 31 h e)

    pub par-marks : all_marks (content_at rows r).process ≡ gather_all (content_at rows (operand_at rows r 1)).listed marks
    unfolding gather marks
    par-marks = rw (part-of-kind rows r 31 h e, above-operand rows r 1 refl)

module _ (rows : List ℤ) (ws : List ℕ) (r : ℕ) (p : ParsHave rows ws r) where
  pub pars-higher : (b : ℕ) → r < b → ParsHave rows ws b
  pars-higher b l = (p.0, λ k h. p.1 k (omega arith))

  -- the sets of a PAR that are there are within, and joined they put in what it counts for
  module _ (h : r < row_count rows) where
    pub par-within : 16 * r + 16 ≤ length ws
    par-within = omega (arith, p.0)

    pub par-joined : (own : List ℕ) {x : List ℕ} → kind_at rows r ≡ 31 → length own ≡ 16 → x ≡ set_union own (sets_at ws r) → x ≡ with_all own (all_marks (content_at rows r).process)
    par-joined own k l e = e ∙ ap (set_union own) (p.1 r (omega arith) h k) ∙ joined-list own (all_marks (content_at rows r).process) l
