-- A line of readings, as a loop over its fields reads it and puts its readings in place.
use mathlib.Core.Path.{◌≡◌, refl, sym, ap, ap₂, ◌∙◌, subst}
use mathlib.Core.Bool.{Bool, true, false}
use mathlib.Core.List.{List, [], ◌∷◌, ◌++◌, append-nil, append_assoc}
use mathlib.Core.Option.{Option, none, some, map}
use Prim.Native.Nat.{ℕ, zero, suc, ◌+◌, ◌-◌, ◌*◌, ◌≤◌, ◌<◌}
use native.Mathlib.Omega.{arith}
use lib.IntN.{ℤ}
use lib.ListN.{length, take, drop, set, length-append, length-set}
use Rattle.meaning.specs.Basics.{if_else, with_first}
use Rattle.meaning.specs.Lines.{line_size}
use Rattle.meaning.specs.Sheet.{reading, values_of}
use Rattle.read_table.specs.Fields.{field_size, first_line, opens, stop_of, with_next}
use Rattle.base_numbers.proofs.Options.{pair-is}
use Rattle.std.specs.Prelude.{Some, None}
use Rattle.read_sheet.specs.Fields.{value_of, reading_mark, reading_field}
use Rattle.read_sheet.specs.Lines.{put_readings, line_as, right_fields, line_read}
use Rattle.read_table.proofs.ReadFields.{left, left_size, line-left, left-none, size-left, none_left, no-line-of-none, field-not-ended, field-not-read, field-first}
use Rattle.read_sheet.proofs.RightFields.{none-unended, none-unread, first_read, right-line}

-- One field ---------------------------------------------------------------------------------------------------------------------

-- with no channel there is no line of values
pub no-channel : (s : List ℕ) → values_of 0 (first_line s) ≡ none
unfolding values_of
no-channel s = no-line-of-none reading s

-- what a field that is right says of the line: its reading is the first of those that are left
pub record FieldRead (sheet : List ℕ) (at m : ℕ) (it : Option ℤ) (next : ℕ) : Type 0 where
  pub readings-left : left reading (suc m) (drop at sheet) ≡ with_first it (left reading m (drop next sheet))
  pub right-left : right_fields (suc m) (drop at sheet) ≡ it ∷ right_fields m (drop next sheet)
  pub place-left : at + left_size (suc m) (drop at sheet) ≡ next + left_size m (drop next sheet)

module _ (sheet : List ℕ) (at m : ℕ) where
  abbrev n : ℕ
  n = field_size (drop at sheet)

  abbrev f : List ℕ
  f = take n (drop at sheet)

  abbrev ended : Bool
  ended = opens (stop_of m) (drop n (drop at sheet))

  pub field-wrong : reading_field (stop_of m) (drop at sheet) at ≡ none → (left reading (suc m) (drop at sheet) ≡ none) × (right_fields (suc m) (drop at sheet) ≡ [])
  unfolding reading_field
  field-wrong e = go ended refl (reading f) refl e
    where
      go : (t : Bool) → ended ≡ t → (r : Option (Option ℤ)) → reading f ≡ r → if_else t (with_next r (at + n + 1)) none ≡ none
          → (left reading (suc m) (drop at sheet) ≡ none) × (right_fields (suc m) (drop at sheet) ≡ [])
      go false i r j h = (field-not-ended reading sheet at m i, none-unended sheet at m i)
      go true i none j h = (field-not-read reading sheet at m j, none-unread sheet at m j)
      go true i (some v) j h = cc

  pub field-right : (it : Option ℤ) (next : ℕ) → reading_field (stop_of m) (drop at sheet) at ≡ some (it, next) → FieldRead sheet at m it next
  unfolding reading_field
  field-right it next e = go ended refl (reading f) refl e
    where
      go : (t : Bool) → ended ≡ t → (r : Option (Option ℤ)) → reading f ≡ r → if_else t (with_next r (at + n + 1)) none ≡ some (it, next) → FieldRead sheet at m it next
      go false i r j h = cc
      go true i none j h = cc
      go true i (some v) j h =
          let parts = pair-is v it (at + n + 1) next h in
          let first = field-first reading sheet at m i v j in
          subst (FieldRead sheet at m it) parts.1
          (subst (λ (u : Option ℤ). FieldRead sheet at m u (at + n + 1)) parts.0
          (record { readings-left = first.0; right-left = first_read sheet at m i v j; place-left = first.1 }))

-- Putting in place ----------------------------------------------------------------------------------------------------------------

module _ {A : Type 0} (kept : Option ℤ → A) where
  put_last : (line j : ℕ) (vs : List (Option ℤ)) (v : Option ℤ) (l : List A) → set (put_readings kept line j vs l) ((j + length vs) * 128 + line) (kept v) ≡ put_readings kept line j (vs ++ (v ∷ [])) l
  unfolding put_readings
  put_last line j [] v l = let e : j + 0 ≡ j = omega arith in ap (λ (i : ℕ). set l (i * 128 + line) (kept v)) e
  put_last line j (u ∷ vs) v l =
      let e : j + suc (length vs) ≡ suc j + length vs = omega arith in
      ap (λ (i : ℕ). set (put_readings kept line (suc j) vs (set l (j * 128 + line) (kept u))) (i * 128 + line) (kept v)) e ∙ put_last line (suc j) vs v (set l (j * 128 + line) (kept u))

  pub all-length : (line j : ℕ) (vs : List (Option ℤ)) (l : List A) → length (put_readings kept line j vs l) ≡ length l
  unfolding put_readings
  all-length line j [] l = refl
  all-length line j (v ∷ vs) l = all-length line (suc j) vs (set l (j * 128 + line) (kept v)) ∙ length-set l (j * 128 + line) (kept v)

-- The loop ----------------------------------------------------------------------------------------------------------------------

-- readings in front of others
abbrev infront : List (Option ℤ) → Option (List (Option ℤ)) → Option (List (Option ℤ))
infront us o = map (λ vs. us ++ vs) o

infront-nothing : (o : Option (List (Option ℤ))) → o ≡ infront [] o
infront-nothing none = refl
infront-nothing (some vs) = refl

infront-one : (us : List (Option ℤ)) (v : Option ℤ) (o : Option (List (Option ℤ))) → infront us (with_first v o) ≡ infront (us ++ (v ∷ [])) o
infront-one us v none = refl
infront-one us v (some vs) = ap some (sym (append_assoc us (v ∷ []) vs))

-- with a channel, the readings of a line are those that are left at its start
values-at-start : (count : ℕ) (s : List ℕ) → 0 < count → (values_of count (first_line s) ≡ left reading count s) × (line_size s ≡ left_size count s)
unfolding values_of
values-at-start zero s h = absurd (omega arith)
values-at-start (suc m) s h = (line-left reading m s, size-left m s)

-- what was put in place of the readings `vs`, for a line that is read as `o`
pub line-is : (count line from : ℕ) (s : List ℕ) (values : List ℤ) (marks : List ℕ) (values' : List ℤ) (marks' : List ℕ) (o : Option (List (Option ℤ))) (vs : List (Option ℤ)) → values_of count (first_line s) ≡ o → right_fields count s ≡ vs
    → values' ≡ put_readings value_of line 0 vs values → marks' ≡ put_readings reading_mark line 0 vs marks → (line_as o (from + line_size s), values', marks') ≡ line_read count line from s values marks
line-is count line from s values marks values' marks' o vs e i j k = rw (e, i, j, k)

-- with no channel a line is wrong, and nothing is put in place
pub none-put : (count line from : ℕ) (s : List ℕ) (values : List ℤ) (marks : List ℕ) → count ≡ 0 → (None, values, marks) ≡ line_read count line from s values marks
unfolding put_readings right_fields
none-put count line from s values marks e = line-is count line from s values marks values marks none [] (ap (λ (k : ℕ). values_of k (first_line s)) e ∙ no-channel s) (ap (λ (k : ℕ). right_fields k s) e) refl refl

module _ (sheet : List ℕ) (from count line : ℕ) (values₀ : List ℤ) (marks₀ : List ℕ) where
  -- j fields of the line are read, and the next begins at `at`
  pub record Halfway (values : List ℤ) (marks : List ℕ) (at j : ℕ) : Type 0 where
    pub some-channel : 0 < count
    pub within : j ≤ count
    pub so_far : List (Option ℤ)
    pub so-many : length so_far ≡ j
    pub readings-left : left reading count (drop from sheet) ≡ infront so_far (left reading (count - j) (drop at sheet))
    pub right-left : right_fields count (drop from sheet) ≡ so_far ++ right_fields (count - j) (drop at sheet)
    pub place : from + left_size count (drop from sheet) ≡ at + left_size (count - j) (drop at sheet)
    pub values-kept : values ≡ put_readings value_of line 0 so_far values₀
    pub marks-kept : marks ≡ put_readings reading_mark line 0 so_far marks₀

  pub line-begun : (count ≡ 0 → ⊥) → Halfway values₀ marks₀ from 0
  unfolding put_readings
  line-begun h =
      let all : count ≡ count - 0 = omega arith in
      record {
        some-channel = omega (arith, h);
        within = omega arith;
        so_far = [];
        so-many = refl;
        readings-left = infront-nothing (left reading count (drop from sheet)) ∙ ap (λ (k : ℕ). infront [] (left reading k (drop from sheet))) all;
        right-left = ap (λ (k : ℕ). right_fields k (drop from sheet)) all;
        place = ap (λ (k : ℕ). from + left_size k (drop from sheet)) all;
        values-kept = refl;
        marks-kept = refl;
      }

  module _ (values : List ℤ) (marks : List ℕ) (at j : ℕ) (h : Halfway values marks at j) where
    abbrev here : List ℕ
    here = drop from sheet

    no-readings : left reading count here ≡ none → values_of count (first_line here) ≡ none
    no-readings e = (values-at-start count here h.some-channel).0 ∙ e

    -- the lengths stay
    pub values_length : length values ≡ length values₀
    values_length = ap length h.values-kept ∙ all-length value_of line 0 h.so_far values₀

    pub marks-length : length marks ≡ length marks₀
    marks-length = ap length h.marks-kept ∙ all-length reading_mark line 0 h.so_far marks₀

    -- the field that the byte `stop` is to end
    module _ (l : j < count) (stop : ℕ) (i : stop ≡ stop_of (count - j - 1)) where
      abbrev m : ℕ
      m = count - j - 1

      by-stop : reading_field stop (drop at sheet) at ≡ reading_field (stop_of m) (drop at sheet) at
      by-stop = ap (λ (b : ℕ). reading_field b (drop at sheet) at) i

      more : count - j ≡ suc m
      more = omega arith

      -- a field that is wrong makes the line wrong, and nothing more is put in place
      pub stopped : reading_field stop (drop at sheet) at ≡ none → (None, values, marks) ≡ line_read count line from here values₀ marks₀
      stopped r =
          let wrong = field-wrong sheet at m (sym by-stop ∙ r) in
          line-is count line from here values₀ marks₀ values marks none h.so_far
          (no-readings
          (h.readings-left
          ∙ ap (λ (k : ℕ). infront h.so_far (left reading k (drop at sheet))) more
          ∙ ap (infront h.so_far) wrong.0))
          (h.right-left
          ∙ ap (λ (k : ℕ). h.so_far ++ right_fields k (drop at sheet)) more
          ∙ ap {B = List (Option ℤ)} (λ vs. h.so_far ++ vs) wrong.1
          ∙ append-nil h.so_far)
          h.values-kept
          h.marks-kept

      -- a field that is right is put in place
      pub passed : (it : Option ℤ) (next : ℕ) → reading_field stop (drop at sheet) at ≡ some (it, next) → (value : ℤ) → value ≡ value_of it → (mark : ℕ) → mark ≡ reading_mark it
          → Halfway (set values (j * 128 + line) value) (set marks (j * 128 + line) mark) next (j + 1)
      passed it next r value u mark w =
          let q : FieldRead sheet at m it next = field-right sheet at m it next (sym by-stop ∙ r) in
          let less : count - (j + 1) ≡ m = omega arith in
          let size = ap (λ (k : ℕ). left_size k (drop at sheet)) more in
          let size' = ap (λ (k : ℕ). left_size k (drop next sheet)) less in
          record {
            some-channel = h.some-channel;
            within = omega arith;
            so_far = h.so_far ++ (it ∷ []);
            so-many = length-append h.so_far (it ∷ []) ∙ ap (λ (k : ℕ). k + 1) h.so-many;
            readings-left =
                h.readings-left
                ∙ ap (λ (k : ℕ). infront h.so_far (left reading k (drop at sheet))) more
                ∙ ap (infront h.so_far) q.readings-left
                ∙ infront-one h.so_far it (left reading m (drop next sheet))
                ∙ ap (λ (k : ℕ). infront (h.so_far ++ (it ∷ [])) (left reading k (drop next sheet))) (sym less);
            right-left =
                h.right-left
                ∙ ap (λ (k : ℕ). h.so_far ++ right_fields k (drop at sheet)) more
                ∙ ap {B = List (Option ℤ)} (λ vs. h.so_far ++ vs) q.right-left
                ∙ sym (append_assoc h.so_far (it ∷ []) (right_fields m (drop next sheet)))
                ∙ ap (λ (k : ℕ). (h.so_far ++ (it ∷ [])) ++ right_fields k (drop next sheet)) (sym less);
            place = omega (arith, h.place, q.place-left);
            values-kept = kept_more value_of values values₀ value it u h.values-kept;
            marks-kept = kept_more reading_mark marks marks₀ mark it w h.marks-kept;
          }
        where
          kept_more : {A : Type 0} (kept : Option ℤ → A) (now then : List A) (a : A) (v : Option ℤ) → a ≡ kept v → now ≡ put_readings kept line 0 h.so_far then
              → set now (j * 128 + line) a ≡ put_readings kept line 0 (h.so_far ++ (v ∷ [])) then
          kept_more kept now then a v i k =
              let n : j ≡ 0 + length h.so_far = omega (arith, h.so-many) in
              ap₂ (λ (b : _) (l : List _). set l (j * 128 + line) b) i k
              ∙ ap (λ (q : ℕ). set (put_readings kept line 0 h.so_far then) (q * 128 + line) (kept v)) n
              ∙ put_last kept line 0 h.so_far v then

    -- after the last field the line is read
    pub line-right : count ≤ j → (Some at, values, marks) ≡ line_read count line from here values₀ marks₀
    line-right l =
        let finished : count - j ≡ 0 = omega arith in
        let all : values_of count (first_line here) ≡ some h.so_far =
        (values-at-start count here h.some-channel).0
        ∙ h.readings-left
        ∙ ap (λ (k : ℕ). infront h.so_far (left reading k (drop at sheet))) finished
        ∙ ap (infront h.so_far) (left-none reading (drop at sheet))
        ∙ ap some (append-nil h.so_far)
        in
        let size = ap (λ (k : ℕ). left_size k (drop at sheet)) finished in
        let end : at ≡ from + line_size here = omega (arith, h.place, (values-at-start count here h.some-channel).1, none_left (drop at sheet)) in
        ap (λ (k : ℕ). (Some k, values, marks)) end
        ∙ line-is count line from here values₀ marks₀ values marks (some h.so_far) h.so_far all (right-line count here h.so_far all) h.values-kept h.marks-kept
