-- What a sheet gives, by the first line at fault or by all its lines.
use mathlib.Core.Path.{◌≡◌, refl, sym, ap, ap₂, ◌∙◌}
use mathlib.Core.Bool.{Bool, true, false, not, ◌&&◌, ◌||◌}
use mathlib.Core.List.{List, [], ◌∷◌, ◌++◌, append-nil, append_assoc, map, tail}
use mathlib.Core.Option
use mathlib.Core.Option.{Option, none, some}
use Prim.Native.Nat.{ℕ, zero, suc, ◌+◌, ◌-◌, ◌/◌, ◌≤◌, ◌<◌}
use native.Mathlib.Omega.{arith}
use lib.IntN.{ℤ}
use lib.ListN.{length, get_or, drop, length-append, drop_of_length-le}
use lib.Dec.{leb, ltb, eqb}
use borrow.Author.Tests.{lt-ltb, le-ltb, le-leb, lt-leb, eqb-true, eqb-false}
use Rattle.meaning.specs.Limits.{max_sheet, max_lines}
use Rattle.meaning.specs.Basics.{if_else, is_some}
use Rattle.meaning.specs.Refusals.{Refusal}
use Rattle.meaning.specs.Lines.{lines, line_size}
use Rattle.meaning.specs.Declarations.{channels}
use Rattle.meaning.specs.Sheet.{sheet_header, values_of, sheet_line_wrong, sheet_fault}
use Rattle.meaning.proofs.NoFault.{none-lowest, and_none, or-none, same_refl}
use Rattle.base_rows.proofs.LowestFound.{lowest-some}
use Rattle.read_table.specs.Fields.{first_line}
use Rattle.read_table.proofs.Reading.{lines_at}
use Rattle.read_sheet.specs.Fields.{value_of, reading_mark}
use Rattle.std.specs.Prelude as std
use Rattle.std.specs.Prelude.{Some, None, Result, Ok, Err}
use Rattle.read_sheet.specs.declared.SheetError.{SheetError}
use Rattle.read_sheet.specs.declared.SheetError.TheVariants.{Full, Refused}
use Rattle.read_sheet.specs.Header.{header_read}
use Rattle.read_sheet.specs.Lines.{put_readings, right_fields, line_as, line_read}
use Rattle.read_sheet.specs.SheetRead.{answer_of, if_right, right_lines, put_lines, header_of, is_full, lines_after, sheet_read}
use Rattle.read_sheet.proofs.HeaderLaws.{wrong-header, right-header}
use Rattle.read_sheet.proofs.RightFields.{right-line}
use Rattle.read_sheet.proofs.LinesRead.{line-size-at, Split, split-count, split-before, split-here, split-more}
use Rattle.read_sheet.proofs.PutLines.{one-more-line, lines-length, no-more-lines, line-and-more}

-- tests
or-true : (s : Bool) → (s || true) ≡ true
or-true true = refl
or-true false = refl

-- what reading a line answers
line-none : (o : Option (List (Option ℤ))) (n : ℕ) → None ≡ line_as o n → o ≡ none
line-none none n e = refl
line-none (some v) n e = absurd (let c : ◌≡◌ {A = ℕ} 0 1 = cc in omega arith)

line-some : (o : Option (List (Option ℤ))) (n next : ℕ) → Some next ≡ line_as o n → (v : List (Option ℤ)) × (o ≡ some v) × (next ≡ n)
line-some none n next e = absurd (let c : ◌≡◌ {A = ℕ} 0 1 = cc in omega arith)
line-some (some v) n next e = let q : next ≡ n = cc in (v, refl, q)

module _ (rows : List ℤ) (sheet : List ℕ) where
  abbrev cs : List ℕ
  cs = channels rows 1

  abbrev at-fault : ℕ → Bool
  at-fault = sheet_line_wrong (ltb max_sheet (length sheet)) cs (lines sheet)

  -- the header is looked at where the sheet is not too long
  pub header_of_lem : length sheet ≤ max_sheet → header_of rows sheet ≡ header_read rows sheet
  header_of_lem h = ap (λ (t : Bool). if_else t (header_read rows sheet) none) (le-leb (length sheet) max_sheet h)

  -- the first line at fault
  refused-by : (L : ℕ) → L < 2 + length (lines sheet) → ((i : ℕ) → i < L → at-fault i ≡ false) → at-fault L ≡ true → sheet_fault rows sheet ≡ some (10, L)
  unfolding sheet_fault
  refused-by L l f t = ap (Option.map (λ L. (10, L))) (lowest-some at-fault (2 + length (lines sheet)) L l f t)

  module _ (values : List ℤ) (marks : List ℕ) where
    -- what is given, by the header, by whether there is no room, and by the answer
    pub read_is : (header : Option (ℕ × ℕ)) → header_of rows sheet ≡ header → is_full header (length values) (length marks) ≡ false → (answer : Result ℕ SheetError) → answer_of (sheet_fault rows sheet) (length (tail (lines sheet))) ≡ answer
        → (vss : List (List (Option ℤ))) → lines_after header sheet ≡ vss → (answer, put_lines value_of 0 vss values, put_lines reading_mark 0 vss marks) ≡ sheet_read rows sheet values marks
    unfolding sheet_read
    read_is header e f answer a vss v = rw (e, f, a, v) refl

    -- without a header nothing is put
    unread : (L : ℕ) → header_of rows sheet ≡ none → sheet_fault rows sheet ≡ some (10, L) → (Err (Refused L), values, marks) ≡ sheet_read rows sheet values marks
    unfolding put_lines
    unread L e f = read_is none e refl (Err (Refused L)) (ap (λ (o : Option Refusal). answer_of o (length (tail (lines sheet)))) f) [] refl

    pub too_long : max_sheet < length sheet → (Err (Refused 0), values, marks) ≡ sheet_read rows sheet values marks
    too_long h =
        unread 0 (ap (λ (t : Bool). if_else t (header_read rows sheet) none) (lt-leb (length sheet) max_sheet h))
        (refused-by 0 (omega arith) (λ i l. absurd (omega arith)) (lt-ltb max_sheet (length sheet) h))

    module _ (short : length sheet ≤ max_sheet) where
      in_size : at-fault 0 ≡ false
      in_size = le-ltb max_sheet (length sheet) short

      pub header-at-fault : header_read rows sheet ≡ none → (Err (Refused 1), values, marks) ≡ sheet_read rows sheet values marks
      header-at-fault e = unread 1 (header_of_lem short ∙ e) (refused-by 1 (omega arith) before (ap not (wrong-header rows sheet e)))
        where
          before : (i : ℕ) → i < 1 → at-fault i ≡ false
          before zero l = in_size
          before (suc i) l = absurd (omega arith)

      -- no room for the channels of the header
      no_room : (count first : ℕ) → header_read rows sheet ≡ some (count, first) → is_full (some (count, first)) (length values) (length marks) ≡ true → (Err Full, values, marks) ≡ sheet_read rows sheet values marks
      unfolding sheet_read
      no_room count first e f = let h = header_of_lem short ∙ e in rw (h, f) refl

      pub values-full : (count first : ℕ) → header_read rows sheet ≡ some (count, first) → length values / 128 < count → (Err Full, values, marks) ≡ sheet_read rows sheet values marks
      values-full count first e h = no_room count first e (ap (λ (t : Bool). not (t && leb count (length marks / 128))) (lt-leb count (length values / 128) h))

      pub marks-full : (count first : ℕ) → header_read rows sheet ≡ some (count, first) → count ≤ length values / 128 → length marks / 128 < count → (Err Full, values, marks) ≡ sheet_read rows sheet values marks
      marks-full count first e g h =
          no_room count first e (ap₂ (λ (s t : Bool). not (s && t)) (le-leb count (length values / 128) g) (lt-leb count (length marks / 128) h))

-- The loop ----------------------------------------------------------------------------------------------------------------------

module _ (rows : List ℤ) (sheet : List ℕ) (values₀ : List ℤ) (marks₀ : List ℕ) (count first : ℕ) where
  -- `line` lines of values are read and kept, and the next begins at `at`
  pub record Passed (values : List ℤ) (marks : List ℕ) (line at : ℕ) : Type 0 where
    pub short : length sheet ≤ max_sheet
    pub header_is : header_read rows sheet ≡ some (count, first)
    pub values-room : count ≤ length values₀ / 128
    pub marks-room : count ≤ length marks₀ / 128
    pub done : List (List (Option ℤ))
    pub so-many : length done ≡ line
    pub few : line ≤ max_lines
    pub lines_left : Split (values_of count) (lines (drop first sheet)) done (lines (drop at sheet))
    pub right-left : right_lines count max_lines (drop first sheet) ≡ done ++ right_lines count (max_lines - line) (drop at sheet)
    pub values-kept : values ≡ put_lines value_of 0 done values₀
    pub marks-kept : marks ≡ put_lines reading_mark 0 done marks₀

  pub nothing-passed : length sheet ≤ max_sheet → header_read rows sheet ≡ some (count, first) → count ≤ length values₀ / 128 → count ≤ length marks₀ / 128 → Passed values₀ marks₀ 0 first
  unfolding put_lines
  nothing-passed h e v m =
      record {
        short = h;
        header_is = e;
        values-room = v;
        marks-room = m;
        done = [];
        so-many = refl;
        few = omega arith;
        lines_left = refl;
        right-left = refl;
        values-kept = refl;
        marks-kept = refl;
      }

  module _ (values : List ℤ) (marks : List ℕ) (line at : ℕ) (h : Passed values marks line at) where
    abbrev ls : List (List ℕ)
    ls = lines (drop first sheet)

    so-wide : count ≡ length (channels rows 1)
    so-wide = (right-header rows sheet count first h.header_is).0

    header-first : lines sheet ≡ sheet_header (channels rows 1) ∷ ls
    header-first = (right-header rows sheet count first h.header_is).1

    pub values_length : length values ≡ length values₀
    values_length = ap length h.values-kept ∙ lines-length value_of 0 h.done values₀

    pub marks-length : length marks ≡ length marks₀
    marks-length = ap length h.marks-kept ∙ lines-length reading_mark 0 h.done marks₀

    -- what is given in the end, if these lines are put
    given : (answer : Result ℕ SheetError) → answer_of (sheet_fault rows sheet) (length (tail (lines sheet))) ≡ answer → (vss : List (List (Option ℤ))) → right_lines count max_lines (drop first sheet) ≡ vss
        → (values' : List ℤ) (marks' : List ℕ) → values' ≡ put_lines value_of 0 vss values₀ → marks' ≡ put_lines reading_mark 0 vss marks₀ → (answer, values', marks') ≡ sheet_read rows sheet values₀ marks₀
    given answer a vss v values' marks' i j =
        ap₂ (λ (x : List ℤ) (y : List ℕ). (answer, x, y)) i j
        ∙ read_is rows sheet values₀ marks₀ (some (count, first)) (header_of_lem rows sheet h.short ∙ h.header_is)
        (ap₂ (λ (s t : Bool). not (s && t)) (le-leb count (length values₀ / 128) h.values-room) (le-leb count (length marks₀ / 128) h.marks-room))
        answer a vss v

    by_lines : (L : ℕ) → sheet_line_wrong (ltb max_sheet (length sheet)) (channels rows 1) (lines sheet) L ≡ sheet_line_wrong (ltb max_sheet (length sheet)) (channels rows 1) (sheet_header (channels rows 1) ∷ ls) L
    by_lines L = ap (λ (l : List (List ℕ)). sheet_line_wrong (ltb max_sheet (length sheet)) (channels rows 1) l L) header-first

    -- no line so far is at fault
    right-so-far : (L : ℕ) → L < suc (suc line) → sheet_line_wrong (ltb max_sheet (length sheet)) (channels rows 1) (lines sheet) L ≡ false
    right-so-far L l = by_lines L ∙ go L l
      where
        read : (i : ℕ) → i < line → not (is_some (values_of (length (channels rows 1)) (get_or ls i []))) ≡ false
        read i l =
            let m = h.so-many in
            ap (λ (o : Option (List (Option ℤ))). not (is_some o))
            (ap (λ (k : ℕ). values_of k (get_or ls i [])) (sym so-wide) ∙ split-before (values_of count) ls (lines (drop at sheet)) h.done h.lines_left i (omega arith))

        go : (L : ℕ) → L < suc (suc line) → sheet_line_wrong (ltb max_sheet (length sheet)) (channels rows 1) (sheet_header (channels rows 1) ∷ ls) L ≡ false
        go zero l = le-ltb max_sheet (length sheet) h.short
        go (suc zero) l = ap not (same_refl (sheet_header (channels rows 1)))
        go (suc (suc i)) l =
            let f = h.few in
            and_none (leb (suc (suc i)) (suc (length ls))) (leb max_lines i || not (is_some (values_of (length (channels rows 1)) (get_or ls i []))))
            (or-none (leb max_lines i) (not (is_some (values_of (length (channels rows 1)) (get_or ls i [])))) (lt-leb max_lines i (omega arith)) (read i (omega arith)))

    module _ (l : at < length sheet) where
      abbrev here : List ℕ
      here = first_line (drop at sheet)

      left : Split (values_of count) ls h.done (here ∷ lines (drop (at + line_size (drop at sheet)) sheet))
      left = h.lines_left ∙ ap (λ (rest : List (List ℕ)). map some h.done ++ map (values_of count) rest) (lines_at sheet at l)

      more : line < length ls
      more = let n = split-count (values_of count) ls (here ∷ lines (drop (at + line_size (drop at sheet)) sheet)) h.done left in let m = h.so-many in omega arith

      fault-here : (leb max_lines line || not (is_some (values_of (length (channels rows 1)) (get_or ls line [])))) ≡ true → answer_of (sheet_fault rows sheet) (length (tail (lines sheet))) ≡ Err (Refused (line + 2))
      fault-here e =
          let two : suc (suc line) ≡ line + 2 = omega arith in
          let size : length (lines sheet) ≡ suc (length ls) = ap length header-first in
          ap (λ (o : Option Refusal). answer_of o (length (tail (lines sheet))))
          (refused-by rows sheet (suc (suc line)) (omega (arith, more)) right-so-far
          (by_lines (suc (suc line)) ∙ ap₂ (λ (s t : Bool). s && t) (le-leb (suc (suc line)) (suc (length ls)) (omega (arith, more))) e))
          ∙ ap (λ (n : ℕ). Err (Refused n)) two

      -- "line 130 at fault if it exists"
      pub one-line-too-many : line ≡ 128 → (Err (Refused 130), values, marks) ≡ sheet_read rows sheet values₀ marks₀
      unfolding right_lines
      one-line-too-many e =
          let n : line + 2 ≡ 130 = omega arith in
          let none_left : max_lines - line ≡ 0 = omega arith in
          given (Err (Refused 130))
          (fault-here (ap (λ (t : Bool). t || not (is_some (values_of (length (channels rows 1)) (get_or ls line [])))) (le-leb max_lines line (omega arith))) ∙ ap (λ (n : ℕ). Err (Refused n)) n)
          h.done
          (h.right-left ∙ ap (λ (k : ℕ). h.done ++ right_lines count k (drop at sheet)) none_left ∙ append-nil h.done)
          values marks h.values-kept h.marks-kept

      module _ (answer : std.Option ℕ) (values' : List ℤ) (marks' : List ℕ) (r : (answer, values', marks') ≡ line_read count line at (drop at sheet) values marks) (fit : line ≡ 128 → ⊥) where
        answered : answer ≡ line_as (values_of count here) (at + line_size (drop at sheet))
        answered = ap (λ (w : std.Option ℕ × List ℤ × List ℕ). w.0) r

        -- the line is put, and the others after it if it is right
        right-here : right_lines count max_lines (drop first sheet) ≡ h.done ++ (right_fields count (drop at sheet) ∷ if_right (values_of count here) (right_lines count (max_lines - (line + 1)) (drop (at + line_size (drop at sheet)) sheet)))
        right-here =
            let few = h.few in
            let m : max_lines - line ≡ suc (max_lines - (line + 1)) = omega (arith, fit) in
            h.right-left
            ∙ ap (λ (k : ℕ). h.done ++ right_lines count k (drop at sheet)) m
            ∙ ap {B = List (List (Option ℤ))} (λ vss. h.done ++ vss) (line-and-more count (max_lines - (line + 1)) sheet at l)

        line-put : {A : Type 0} (kept : Option ℤ → A) (now then now' : List A) → now ≡ put_lines kept 0 h.done then → now' ≡ put_readings kept line 0 (right_fields count (drop at sheet)) now
            → now' ≡ put_lines kept 0 (h.done ++ (right_fields count (drop at sheet) ∷ [])) then
        line-put kept now then now' i j =
            let n : line ≡ 0 + length h.done = omega (arith, h.so-many) in
            j
            ∙ ap₂ (λ (k : ℕ) (l : List _). put_readings kept k 0 (right_fields count (drop at sheet)) l) n i
            ∙ one-more-line kept 0 h.done (right_fields count (drop at sheet)) then

        values-put : values' ≡ put_lines value_of 0 (h.done ++ (right_fields count (drop at sheet) ∷ [])) values₀
        values-put = line-put value_of values values₀ values' h.values-kept (ap (λ (w : std.Option ℕ × List ℤ × List ℕ). w.1) r)

        marks-put : marks' ≡ put_lines reading_mark 0 (h.done ++ (right_fields count (drop at sheet) ∷ [])) marks₀
        marks-put = line-put reading_mark marks marks₀ marks' h.marks-kept (ap (λ (w : std.Option ℕ × List ℤ × List ℕ). w.2) r)

        pub line-at-fault : answer ≡ None → (Err (Refused (line + 2)), values', marks') ≡ sheet_read rows sheet values₀ marks₀
        line-at-fault e =
            let o : values_of count here ≡ none = line-none (values_of count here) (at + line_size (drop at sheet)) (sym e ∙ answered) in
            let q : values_of (length (channels rows 1)) (get_or ls line []) ≡ none =
            ap₂ (λ (k i : ℕ). values_of k (get_or ls i [])) (sym so-wide) (sym h.so-many)
            ∙ split-here (values_of count) ls (lines (drop (at + line_size (drop at sheet)) sheet)) here h.done left
            ∙ o
            in
            given (Err (Refused (line + 2)))
            (fault-here (ap (λ (o : Option (List (Option ℤ))). leb max_lines line || not (is_some o)) q ∙ or-true (leb max_lines line)))
            (h.done ++ (right_fields count (drop at sheet) ∷ []))
            (right-here ∙ ap (λ (o : Option (List (Option ℤ))). h.done ++ (right_fields count (drop at sheet) ∷ if_right o (right_lines count (max_lines - (line + 1)) (drop (at + line_size (drop at sheet)) sheet)))) o)
            values' marks' values-put marks-put

        module _ (next : ℕ) (e : answer ≡ Some next) where
          it : (v : List (Option ℤ)) × (values_of count here ≡ some v) × (next ≡ at + line_size (drop at sheet))
          it = line-some (values_of count here) (at + line_size (drop at sheet)) next (sym e ∙ answered)

          pub goes-forward : at < next
          goes-forward = omega (arith, it.2, line-size-at sheet at l)

          pub line-passed : Passed values' marks' (line + 1) next
          line-passed =
              let v = it.0 in
              let few = h.few in
              let right = right-line count (drop at sheet) v it.1 in
              record {
                short = h.short;
                header_is = h.header_is;
                values-room = h.values-room;
                marks-room = h.marks-room;
                done = h.done ++ (v ∷ []);
                so-many = length-append h.done (v ∷ []) ∙ ap (λ (n : ℕ). n + 1) h.so-many;
                few = omega (arith, fit);
                lines_left =
                    split-more (values_of count) ls (lines (drop (at + line_size (drop at sheet)) sheet)) here h.done v left it.1
                    ∙ ap (λ (n : ℕ). map some (h.done ++ (v ∷ [])) ++ map (values_of count) (lines (drop n sheet))) (sym it.2);
                right-left =
                    right-here
                    ∙ ap₂ (λ (vs : List (Option ℤ)) (o : Option (List (Option ℤ))). h.done ++ (vs ∷ if_right o (right_lines count (max_lines - (line + 1)) (drop (at + line_size (drop at sheet)) sheet)))) right it.1
                    ∙ sym (append_assoc h.done (v ∷ []) (right_lines count (max_lines - (line + 1)) (drop (at + line_size (drop at sheet)) sheet)))
                    ∙ ap (λ (n : ℕ). (h.done ++ (v ∷ [])) ++ right_lines count (max_lines - (line + 1)) (drop n sheet)) (sym it.2);
                values-kept = values-put ∙ ap (λ (vs : List (Option ℤ)). put_lines value_of 0 (h.done ++ (vs ∷ [])) values₀) right;
                marks-kept = marks-put ∙ ap (λ (vs : List (Option ℤ)). put_lines reading_mark 0 (h.done ++ (vs ∷ [])) marks₀) right;
              }

    -- after the last line
    module _ (l : length sheet ≤ at) where
      all : Split (values_of count) ls h.done []
      unfolding lines
      all = h.lines_left ∙ ap (λ (s : List ℕ). map some h.done ++ map (values_of count) (lines s)) (drop_of_length-le sheet l)

      count-lines : length ls ≡ line
      count-lines = let n = split-count (values_of count) ls [] h.done all in let m = h.so-many in omega arith

      no-fault : sheet_fault rows sheet ≡ none
      unfolding sheet_fault
      no-fault =
          ap (Option.map (λ L. (10, L)))
          (none-lowest (sheet_line_wrong (ltb max_sheet (length sheet)) (channels rows 1) (lines sheet)) (2 + length (lines sheet))
          (λ L m. let size : length (lines sheet) ≡ suc (length ls) = ap length header-first in go L (omega (arith, count-lines)) (eqb L (suc (suc line))) refl))
        where
          -- past the last line there is none to be at fault
          past : leb (suc (suc line)) (suc (length ls)) ≡ false
          past = lt-leb (suc (suc line)) (suc (length ls)) (omega (arith, count-lines))

          go : (L : ℕ) → L < suc (suc (suc line)) → (t : Bool) → eqb L (suc (suc line)) ≡ t → sheet_line_wrong (ltb max_sheet (length sheet)) (channels rows 1) (lines sheet) L ≡ false
          go L m true e =
              ap (sheet_line_wrong (ltb max_sheet (length sheet)) (channels rows 1) (lines sheet)) (eqb-true L (suc (suc line)) e)
              ∙ by_lines (suc (suc line))
              ∙ ap (λ (t : Bool). t && (leb max_lines line || not (is_some (values_of (length (channels rows 1)) (get_or ls line []))))) past
          go L m false e = let n = eqb-false L (suc (suc line)) e in right-so-far L (omega (arith, n))

      pub all-passed : (Ok line, values, marks) ≡ sheet_read rows sheet values₀ marks₀
      all-passed =
          given (Ok line)
          (ap₂ (λ (o : Option Refusal) (n : ℕ). answer_of o n) no-fault (ap (λ (m : List (List ℕ)). length (tail m)) header-first ∙ count-lines))
          h.done
          (h.right-left
          ∙ ap (λ (s : List ℕ). h.done ++ right_lines count (max_lines - line) s) (drop_of_length-le sheet l)
          ∙ ap {B = List (List (Option ℤ))} (λ vss. h.done ++ vss) (no-more-lines count (max_lines - line))
          ∙ append-nil h.done)
          values marks h.values-kept h.marks-kept
