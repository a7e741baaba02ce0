-- Lines of readings put in place: what stands at a place then; and which lines are put.
use mathlib.Core.Path.{◌≡◌, refl, sym, ap, ap₂, ◌∙◌}
use mathlib.Core.List.{List, [], ◌∷◌, ◌++◌, map}
use mathlib.Core.Option.{Option, none, some}
use Prim.Native.Nat.{ℕ, zero, suc, ◌+◌, ◌*◌, ◌≤◌, ◌<◌}
use native.Mathlib.Omega.{arith}
use lib.IntN.{ℤ}
use lib.ListN.{length, get_or, drop, set, length-set}
use lib.Seq.{drop-cons, drop-drop, get_or-set_same, get_or-set_other}
use Rattle.meaning.specs.Lines.{lines, line_size}
use Rattle.meaning.specs.Sheet.{values_of}
use Rattle.read_table.specs.Fields.{first_line}
use Rattle.read_table.proofs.Reading.{lines_at}
use Rattle.read_sheet.specs.Lines.{put_readings, right_fields}
use Rattle.read_sheet.specs.SheetRead.{if_right, right_lines, put_lines}
use Rattle.read_sheet.proofs.RightFields.{right-line}
use Rattle.read_sheet.proofs.LineSteps.{all-length}

-- Where readings stand ----------------------------------------------------------------------------------------------------------

module _ {A : Type 0} (kept : Option ℤ → A) where
  -- one line more
  pub one-more-line : (i : ℕ) (vss : List (List (Option ℤ))) (vs : List (Option ℤ)) (l : List A) → put_readings kept (i + length vss) 0 vs (put_lines kept i vss l) ≡ put_lines kept i (vss ++ (vs ∷ [])) l
  unfolding put_lines
  one-more-line i [] vs l = let e : i + 0 ≡ i = omega arith in ap (λ (n : ℕ). put_readings kept n 0 vs l) e
  one-more-line i (us ∷ vss) vs l =
      let e : i + suc (length vss) ≡ suc i + length vss = omega arith in
      ap (λ (n : ℕ). put_readings kept n 0 vs (put_lines kept (suc i) vss (put_readings kept i 0 us l))) e ∙ one-more-line (suc i) vss vs (put_readings kept i 0 us l)

  -- the length stays
  pub lines-length : (i : ℕ) (vss : List (List (Option ℤ))) (l : List A) → length (put_lines kept i vss l) ≡ length l
  unfolding put_lines
  lines-length i [] l = refl
  lines-length i (vs ∷ vss) l = lines-length (suc i) vss (put_readings kept i 0 vs l) ∙ all-length kept i 0 vs l

  -- readings of a line, from channel j on, are not seen elsewhere
  elsewhere : (line j : ℕ) (vs : List (Option ℤ)) (l : List A) (p : ℕ) (d : A) → ((k : ℕ) → j ≤ k → p ≡ k * 128 + line → ⊥) → get_or (put_readings kept line j vs l) p d ≡ get_or l p d
  unfolding put_readings
  elsewhere line j [] l p d n = refl
  elsewhere line j (v ∷ vs) l p d n =
      elsewhere line (suc j) vs (set l (j * 128 + line) (kept v)) p d (λ k h. n k (omega arith)) ∙ get_or-set_other l (j * 128 + line) p (kept v) d (n j (omega arith))

  -- the k-th of them stands at its place
  there : (line j : ℕ) (vs : List (Option ℤ)) (l : List A) (k : ℕ) (d : A) → k < length vs → (j + k) * 128 + line < length l → get_or (put_readings kept line j vs l) ((j + k) * 128 + line) d ≡ kept (get_or vs k none)
  unfolding put_readings
  there line j [] l k d h r = absurd (omega arith)
  there line j (v ∷ vs) l zero d h r =
      let e : j + 0 ≡ j = omega arith in
      ap (λ (i : ℕ). get_or (put_readings kept line (suc j) vs (set l (j * 128 + line) (kept v))) (i * 128 + line) d) e
      ∙ elsewhere line (suc j) vs (set l (j * 128 + line) (kept v)) (j * 128 + line) d (λ k m q. omega arith)
      ∙ get_or-set_same l (j * 128 + line) (kept v) d (omega arith)
  there line j (v ∷ vs) l (suc k) d h r =
      let e : j + suc k ≡ suc j + k = omega arith in
      let n = length-set l (j * 128 + line) (kept v) in
      ap (λ (i : ℕ). get_or (put_readings kept line (suc j) vs (set l (j * 128 + line) (kept v))) (i * 128 + line) d) e
      ∙ there line (suc j) vs (set l (j * 128 + line) (kept v)) k d (omega arith) (omega arith)

  -- lines from i on are not seen before line i
  lines-elsewhere : (i : ℕ) (vss : List (List (Option ℤ))) (l : List A) (p n : ℕ) (d : A) → n < i → i + length vss ≤ 128 → get_or (put_lines kept i vss l) (p * 128 + n) d ≡ get_or l (p * 128 + n) d
  unfolding put_lines
  lines-elsewhere i [] l p n d h m = refl
  lines-elsewhere i (vs ∷ vss) l p n d h m =
      lines-elsewhere (suc i) vss (put_readings kept i 0 vs l) p n d (omega arith) (omega arith) ∙ elsewhere i 0 vs l (p * 128 + n) d (λ k a e. omega arith)

  -- the reading of channel p on the n-th of them stands at its place
  pub line-there : (i : ℕ) (vss : List (List (Option ℤ))) (l : List A) (n p : ℕ) (d : A) → i + length vss ≤ 128 → n < length vss → p < length (get_or vss n []) → p * 128 + 128 ≤ length l
      → get_or (put_lines kept i vss l) (p * 128 + (i + n)) d ≡ kept (get_or (get_or vss n []) p none)
  unfolding put_lines
  line-there i [] l n p d m h w r = absurd (omega arith)
  line-there i (vs ∷ vss) l zero p d m h w r =
      let e : i + 0 ≡ i = omega arith in
      let q : p ≡ 0 + p = omega arith in
      ap (λ (q : ℕ). get_or (put_lines kept (suc i) vss (put_readings kept i 0 vs l)) (p * 128 + q) d) e
      ∙ lines-elsewhere (suc i) vss (put_readings kept i 0 vs l) p i d (omega arith) (omega arith)
      ∙ ap (λ (k : ℕ). get_or (put_readings kept i 0 vs l) (k * 128 + i) d) q
      ∙ there i 0 vs l p d w (omega arith)
  line-there i (vs ∷ vss) l (suc n) p d m h w r =
      let e : i + suc n ≡ suc i + n = omega arith in
      let k = all-length kept i 0 vs l in
      ap (λ (q : ℕ). get_or (put_lines kept (suc i) vss (put_readings kept i 0 vs l)) (p * 128 + q) d) e
      ∙ line-there (suc i) vss (put_readings kept i 0 vs l) n p d (omega arith) (omega arith) w (omega arith)

-- Which lines -------------------------------------------------------------------------------------------------------------------

module _ (count : ℕ) where
  -- after the last byte there is none
  pub no-more-lines : (n : ℕ) → right_lines count n [] ≡ []
  unfolding right_lines
  no-more-lines zero = refl
  no-more-lines (suc n) = refl

  -- the line at a place, and those after it if it has readings
  pub line-and-more : (n : ℕ) (sheet : List ℕ) (at : ℕ) → at < length sheet → let s = drop at sheet in right_lines count (suc n) s ≡ right_fields count s ∷ if_right (values_of count (first_line s)) (right_lines count n (drop (at + line_size s) sheet))
  unfolding right_lines
  line-and-more n sheet at h =
      go (drop at sheet) (drop-cons sheet at 0 h)
      ∙ ap (λ (t : List ℕ). right_fields count (drop at sheet) ∷ if_right (values_of count (first_line (drop at sheet))) (right_lines count n t)) (drop-drop (line_size (drop at sheet)) at sheet)
    where
      go : (s : List ℕ) → s ≡ get_or sheet at 0 ∷ drop (suc at) sheet → right_lines count (suc n) s ≡ right_fields count s ∷ if_right (values_of count (first_line s)) (right_lines count n (drop (line_size s) s))
      go [] e = absurd (let z : ◌≡◌ {A = ℕ} 0 1 = cc in omega arith)
      go (b ∷ bs) e = refl

  -- where each line has readings, they are those of all lines
  pub all_lines : (n : ℕ) (s : List ℕ) (vss : List (List (Option ℤ))) → map (values_of count) (lines s) ≡ map some vss → length vss ≤ n → right_lines count n s ≡ vss
  unfolding right_lines lines
  all_lines zero s [] e h = refl
  all_lines zero s (v ∷ vss) e h = absurd (omega arith)
  all_lines (suc n) [] [] e h = refl
  all_lines (suc n) [] (v ∷ vss) e h = absurd (let q : ◌≡◌ {A = ℕ} 0 (suc (length (map some vss))) = ap length e in omega arith)
  all_lines (suc n) (b ∷ bs) vss e h = go vss (ap (map (values_of count)) (sym split) ∙ e) h (λ us k l. all_lines n (drop (line_size s) s) us k l)
    where
      s : List ℕ
      s = b ∷ bs

      split : lines s ≡ first_line s ∷ lines (drop (line_size s) s)
      split = let z : 0 + line_size s ≡ line_size s = omega arith in lines_at s 0 (omega arith) ∙ ap (λ (n : ℕ). first_line s ∷ lines (drop n s)) z

      go : (us : List (List (Option ℤ))) → values_of count (first_line s) ∷ map (values_of count) (lines (drop (line_size s) s)) ≡ map some us → length us ≤ suc n
          → ((us : List (List (Option ℤ))) → map (values_of count) (lines (drop (line_size s) s)) ≡ map some us → length us ≤ n → right_lines count n (drop (line_size s) s) ≡ us)
          → right_lines count (suc n) s ≡ us
      go [] k l rest = absurd (let q : ◌≡◌ {A = ℕ} (suc (length (map (values_of count) (lines (drop (line_size s) s))))) 0 = ap length k in omega arith)
      go (v ∷ us) k l rest =
          let here : values_of count (first_line s) ≡ some v = ap (λ (os : List (Option (List (Option ℤ)))). get_or os 0 none) k in
          ap₂ (λ (vs : List (Option ℤ)) (o : Option (List (Option ℤ))). vs ∷ if_right o (right_lines count n (drop (line_size s) s))) (right-line count s v here) here
          ∙ ap (λ (r : List (List (Option ℤ))). v ∷ r) (rest us (ap (drop 1) k) (omega arith))
