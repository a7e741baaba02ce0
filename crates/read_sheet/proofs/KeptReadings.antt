-- What a sheet gives, for whoever uses it, by its answer: the refusal; or the number of lines and the readings, which the two lists keep. With room for the channels it is never full.
use mathlib.Core.Path.{◌≡◌, refl, sym, ap, ap₂, ◌∙◌}
use mathlib.Core.Bool.{Bool, true, false, not, ◌&&◌, ◌||◌}
use mathlib.Core.List.{List, [], ◌∷◌, ◌++◌, append-nil, map, tail}
use mathlib.Core.Option
use mathlib.Core.Option.{Option, none, some}
use Prim.Native.Nat.{ℕ, zero, suc, ◌+◌, ◌*◌, ◌/◌, ◌≤◌, ◌<◌}
use native.Mathlib.Decide.{dec_lt}
use native.Mathlib.Omega.{arith}
use lib.IntN.{ℤ, pos}
use lib.ListN.{length, get_or, get_elem?, drop, length-append, length-map, get_or-append, get_or-map}
use lib.Seq.{get_or_at}
use lib.Dec.{leb, ltb, eqb, leb-suc-suc}
use borrow.Author.Tests.{ltb-true, ltb-false, lt-ltb, le-ltb, le-leb, leb-true, leb-false, eqb-true, eqb-false, not-false}
use Rattle.meaning.specs.Limits.{max_sheet, max_lines}
use Rattle.meaning.specs.Basics.{if_else, is_some, lowest}
use Rattle.meaning.specs.Refusals.{Refusal}
use Rattle.meaning.specs.Lines.{lines, same}
use Rattle.meaning.specs.Declarations.{channels, host_channels}
use Rattle.meaning.specs.Values.{Message}
use Rattle.meaning.specs.Buffers.{mark, number_in}
use Rattle.meaning.specs.Sheet.{sheet_header, values_of, sheet_line_wrong, sheet_fault, column, columns, readings}
use Rattle.meaning.specs.TableBytes.{line_at}
use Rattle.meaning.proofs.NoFault.{lowest-none, none-mapped}
use Rattle.machine.specs.Held.{KeptReadings}
use Rattle.machine.proofs.Declared.{channels-length}
use Rattle.read_sheet.specs.Fields.{value_of, reading_mark}
use Rattle.std.specs.Prelude.{Result, Ok, Err}
use Rattle.read_sheet.specs.declared.SheetError.{SheetError}
use Rattle.read_sheet.specs.declared.SheetError.TheVariants.{Full, Refused}
use Rattle.read_sheet.specs.Header.{header_as, header_read}
use Rattle.read_sheet.specs.SheetRead.{answer_of, put_lines, header_of, is_full, lines_after, sheet_read}
use Rattle.read_sheet.proofs.HeaderLaws.{right-header}
use Rattle.read_sheet.proofs.LinesRead.{values-count, split-before}
use Rattle.read_sheet.proofs.PutLines.{lines-length, line-there, all_lines}
use Rattle.read_sheet.proofs.SheetSteps.{header_of_lem}

-- Columns -----------------------------------------------------------------------------------------------------------------------

length-columns : (rows : List (List (Option ℤ))) (k : ℕ) → length (columns rows k) ≡ k
unfolding columns
length-columns rows zero = refl
length-columns rows (suc k) = let e = length-columns rows k in length-append (columns rows k) (column rows k ∷ []) ∙ omega arith

column-is : (rows : List (List (Option ℤ))) (k j : ℕ) → j < k → get_or (columns rows k) j [] ≡ column rows j
unfolding columns
column-is rows zero j h = absurd (omega arith)
column-is rows (suc k) j h = go (eqb j k) refl (λ l. column-is rows k j l)
  where
    go : (t : Bool) → eqb j k ≡ t → (j < k → get_or (columns rows k) j [] ≡ column rows j) → get_or (columns rows k ++ (column rows k ∷ [])) j [] ≡ column rows j
    go true e r =
        let q = eqb-true j k e in
        let p : length (columns rows k) ≡ j = length-columns rows k ∙ sym q in
        get_or_at (columns rows k) (column rows k) [] [] j p ∙ ap (column rows) (sym q)
    go false e r =
        let m = eqb-false j k e in
        let l = length-columns rows k in
        let less : j < k = omega (arith, m) in
        get_or-append (columns rows k) (column rows k ∷ []) [] j (omega arith) ∙ r less

-- Entries -----------------------------------------------------------------------------------------------------------------------

-- a list has an entry below its length
entry-there : (l : List Message) (n : ℕ) → is_some (get_elem? l n) ≡ ltb n (length l)
entry-there [] n = sym (le-ltb n 0 (omega arith))
entry-there (x ∷ l) zero = sym (lt-ltb 0 (length (x ∷ l)) (omega arith))
entry-there (x ∷ l) (suc n) = entry-there l n ∙ sym (leb-suc-suc (suc n) (length l))

-- an entry is what stands at its place
entry-is : (l : List Message) (n : ℕ) (m : Message) → get_elem? l n ≡ some m → get_or l n none ≡ m
entry-is [] n m e = absurd (let z : ◌≡◌ {A = ℕ} 0 1 = cc in omega arith)
entry-is (x ∷ l) zero m e = cc
entry-is (x ∷ l) (suc n) m e = entry-is l n m e

-- a reading's value and mark, as a lent buffer shows them
value-shown : (m : Message) → value_of m ≡ number_in m
value-shown none = refl
value-shown (some z) = refl

mark-shown : (m : Message) → reading_mark m ≡ mark m
mark-shown none = refl
mark-shown (some z) = refl

-- lines that are all read
all-some : (f : List ℕ → Option (List Message)) (ls : List (List ℕ)) → ((i : ℕ) → i < length ls → is_some (f (get_or ls i [])) ≡ true) → map f ls ≡ map some (map (λ l. Option.get_or (f l) []) ls)
all-some f [] h = refl
all-some f (l ∷ ls) h = ap₂ (λ (o : Option (List Message)) (os : List (Option (List Message))). o ∷ os) (go (f l) (h 0 (omega arith))) (all-some f ls (λ i m. h (suc i) (omega arith)))
  where
    go : (o : Option (List Message)) → is_some o ≡ true → o ≡ some (Option.get_or o [])
    go none e = absurd (let z : ◌≡◌ {A = ℕ} 0 1 = cc in omega arith)
    go (some v) e = refl

-- The answers -------------------------------------------------------------------------------------------------------------------

module _ (rows : List ℤ) (sheet : List ℕ) (values : List ℤ) (marks : List ℕ) where
  abbrev k : ℕ
  k = length (channels rows 1)

  abbrev ls : List (List ℕ)
  ls = tail (lines sheet)

  -- the header is that of the role 1 channels
  header-right : (count first : ℕ) → header_of rows sheet ≡ some (count, first) → header_read rows sheet ≡ some (count, first)
  header-right count first e = go (leb (length sheet) max_sheet) e
    where
      go : (t : Bool) → if_else t (header_read rows sheet) none ≡ some (count, first) → header_read rows sheet ≡ some (count, first)
      go true e = e
      go false e = absurd (let z : ◌≡◌ {A = ℕ} 0 1 = cc in omega arith)

  -- with room for them it is answered by the refusal or by the lines
  pub with-room : 128 * host_channels 1 rows ≤ length values → 128 * host_channels 1 rows ≤ length marks → (sheet_read rows sheet values marks).0 ≡ answer_of (sheet_fault rows sheet) (length ls)
  unfolding sheet_read
  with-room v m = rw (go (header_of rows sheet) refl) refl
    where
      go : (header : Option (ℕ × ℕ)) → header_of rows sheet ≡ header → is_full header (length values) (length marks) ≡ false
      go none e = refl
      go (some (count, first)) e =
          let w = (right-header rows sheet count first (header-right count first e)).0 in
          ap₂ (λ (s t : Bool). not (s && t)) (le-leb count (length values / 128) (omega (arith, channels-length rows 1))) (le-leb count (length marks / 128) (omega (arith, channels-length rows 1)))

  pub never-full : 128 * host_channels 1 rows ≤ length values → 128 * host_channels 1 rows ≤ length marks → (sheet_read rows sheet values marks).0 ≡ Err Full → ⊥
  never-full v m e = go (sheet_fault rows sheet) (sym (with-room v m) ∙ e)
    where
      go : (o : Option Refusal) → answer_of o (length ls) ≡ Err Full → ⊥
      go none e = let z : ◌≡◌ {A = ℕ} 0 1 = cc in omega arith
      go (some f) e = let z : ◌≡◌ {A = ℕ} 0 1 = cc in omega arith

  -- a refusal is the sheet's
  pub refused-read : (L : ℕ) → (sheet_read rows sheet values marks).0 ≡ Err (Refused L) → sheet_fault rows sheet ≡ some (10, L)
  unfolding sheet_read sheet_fault
  refused-read L e = go (is_full (header_of rows sheet) (length values) (length marks)) e
    where
      fault : Option ℕ
      fault = lowest (sheet_line_wrong (ltb max_sheet (length sheet)) (channels rows 1) (lines sheet)) (2 + length (lines sheet))

      found : (o : Option ℕ) → answer_of (Option.map (λ L. (10, L)) o) (length ls) ≡ Err (Refused L) → Option.map {B = Refusal} (λ L. (10, L)) o ≡ some (10, L)
      found none e = absurd (let z : ◌≡◌ {A = ℕ} 0 1 = cc in omega arith)
      found (some n) e = let q : n ≡ L = cc in ap {B = Option Refusal} (λ (n : ℕ). some (10, n)) q

      go : (t : Bool) → (if_else {A = Result ℕ SheetError × List ℤ × List ℕ} t (Err Full, values, marks) (answer_of (sheet_fault rows sheet) (length ls), put_lines value_of 0 (lines_after (header_of rows sheet) sheet) values, put_lines reading_mark 0 (lines_after (header_of rows sheet) sheet) marks)).0 ≡ Err (Refused L)
          → sheet_fault rows sheet ≡ some (10, L)
      go true e = absurd (let z : ◌≡◌ {A = ℕ} 0 1 = cc in omega arith)
      go false e = found fault e

  -- lines of values: there was room and no refusal, and the lines after the header are put in place
  record Answered (n : ℕ) : Type 0 where
    roomy : is_full (header_of rows sheet) (length values) (length marks) ≡ false
    no-fault : sheet_fault rows sheet ≡ none
    count-is : n ≡ length ls
    values-are : (sheet_read rows sheet values marks).1 ≡ put_lines value_of 0 (lines_after (header_of rows sheet) sheet) values
    marks-are : (sheet_read rows sheet values marks).2 ≡ put_lines reading_mark 0 (lines_after (header_of rows sheet) sheet) marks

  answered : (n : ℕ) → (sheet_read rows sheet values marks).0 ≡ Ok n → Answered n
  unfolding sheet_read
  answered n e = go (is_full (header_of rows sheet) (length values) (length marks)) refl (sheet_fault rows sheet) refl e
    where
      put : Option Refusal → Result ℕ SheetError × List ℤ × List ℕ
      put o = (answer_of o (length ls), put_lines value_of 0 (lines_after (header_of rows sheet) sheet) values, put_lines reading_mark 0 (lines_after (header_of rows sheet) sheet) marks)

      go : (t : Bool) → is_full (header_of rows sheet) (length values) (length marks) ≡ t → (o : Option Refusal) → sheet_fault rows sheet ≡ o → (if_else t (Err Full, values, marks) (put o)).0 ≡ Ok n → Answered n
      go true f o g q = absurd (let z : ◌≡◌ {A = ℕ} 0 1 = cc in omega arith)
      go false f (some r) g q = absurd (let z : ◌≡◌ {A = ℕ} 0 1 = cc in omega arith)
      go false f none g q =
          record {
            roomy = f;
            no-fault = g;
            count-is = let c : length ls ≡ n = cc in sym c;
            values-are = ap (λ (t : Bool). (if_else t (Err Full, values, marks) (put (sheet_fault rows sheet))).1) f;
            marks-are = ap (λ (t : Bool). (if_else t (Err Full, values, marks) (put (sheet_fault rows sheet))).2) f;
          }

  module _ (n : ℕ) (e : (sheet_read rows sheet values marks).0 ≡ Ok n) where
    pub accepted-read : sheet_fault rows sheet ≡ none
    accepted-read = (answered n e).no-fault

    right-line : (L : ℕ) → L < 2 + length (lines sheet) → sheet_line_wrong (ltb max_sheet (length sheet)) (channels rows 1) (lines sheet) L ≡ false
    unfolding sheet_fault
    right-line =
        lowest-none (sheet_line_wrong (ltb max_sheet (length sheet)) (channels rows 1) (lines sheet)) (2 + length (lines sheet))
        (none-mapped (λ L. (10, L)) (lowest (sheet_line_wrong (ltb max_sheet (length sheet)) (channels rows 1) (lines sheet)) (2 + length (lines sheet))) accepted-read)

    -- the header, and how many bytes it has
    abbrev first : ℕ
    first = length (sheet_header (channels rows 1))

    header_is : header_read rows sheet ≡ some (k, first)
    unfolding header_read
    header_is = ap (λ (t : Bool). header_as t (channels rows 1)) (not-false (same (line_at (lines sheet) 1) (sheet_header (channels rows 1))) (right-line 1 (omega arith)))

    header-found : header_of rows sheet ≡ some (k, first)
    header-found = header_of_lem rows sheet (ltb-false max_sheet (length sheet) (right-line 0 (omega arith))) ∙ header_is

    lines_after_lem : lines (drop first sheet) ≡ ls
    lines_after_lem = ap tail (sym (right-header rows sheet k first header_is).1)

    -- each line is among those allowed, and is read
    line_read : (i : ℕ) → i < length ls → (i < max_lines) × (is_some (values_of k (get_or ls i [])) ≡ true)
    line_read i h = go (lines sheet) (right-line (suc (suc i))) h
      where
        both : (s t : Bool) → (s || not t) ≡ false → (s ≡ false) × (t ≡ true)
        both false true q = (refl, refl)
        both false false q = absurd (let z : ◌≡◌ {A = ℕ} 0 1 = cc in omega arith)
        both true t q = absurd (let z : ◌≡◌ {A = ℕ} 0 1 = cc in omega arith)

        go : (all : List (List ℕ)) → (suc (suc i) < 2 + length all → sheet_line_wrong (ltb max_sheet (length sheet)) (channels rows 1) all (suc (suc i)) ≡ false) → i < length (tail all)
            → (i < max_lines) × (is_some (values_of k (get_or (tail all) i [])) ≡ true)
        go [] w h = absurd (omega arith)
        go (l ∷ rest) w h =
            let there : leb (suc (suc i)) (suc (length rest)) ≡ true = le-leb (suc (suc i)) (suc (length rest)) (omega arith) in
            let (s, t) = both (leb max_lines i) (is_some (values_of k (get_or rest i []))) (sym (ap (λ (t : Bool). t && (leb max_lines i || not (is_some (values_of k (get_or rest i []))))) there) ∙ w (omega arith)) in
            (leb-false max_lines i s, t)

    few : length ls ≤ 128
    few = go (dec_lt 128 (length ls))
      where
        go : Dec (128 < length ls) → length ls ≤ 128
        go (yes h) = absurd (let m = (line_read 128 h).0 in omega arith)
        go (no h) = omega arith

    pub few-lines : n ≤ 128
    few-lines = omega (arith, few, (answered n e).count-is)

    -- the readings of each line
    abbrev vss : List (List (Option ℤ))
    vss = map (λ l. Option.get_or (values_of k l) []) ls

    all_read : map (values_of k) ls ≡ map some vss
    all_read = all-some (values_of k) ls (λ i h. (line_read i h).1)

    vss-length : length vss ≡ length ls
    vss-length = length-map ls (λ l. Option.get_or (values_of k l) [])

    lines-put : lines_after (header_of rows sheet) sheet ≡ vss
    lines-put =
        ap (λ (h : Option (ℕ × ℕ)). lines_after h sheet) header-found
        ∙ all_lines k max_lines (drop first sheet) vss (ap (map (values_of k)) lines_after_lem ∙ all_read) (omega (arith, vss-length, few))

    -- each has one for each channel
    wide : (i : ℕ) → i < length vss → length (get_or vss i []) ≡ k
    wide i h = values-count k (get_or ls i []) (get_or vss i []) (split-before (values_of k) ls [] vss (all_read ∙ sym (append-nil (map some vss))) i h)

    column-of : (p : ℕ) → p < host_channels 1 rows → get_or (readings rows sheet) p [] ≡ column vss p
    unfolding readings
    column-of p h = column-is vss k p (omega (arith, channels-length rows 1))

    -- below the number of lines there is a reading, or an absent one
    left_below : (p m : ℕ) → p < host_channels 1 rows → is_some (get_elem? (get_or (readings rows sheet) p []) m) ≡ ltb m n
    left_below p m h =
        entry-there (get_or (readings rows sheet) p []) m
        ∙ ap (ltb m) (ap length (column-of p h) ∙ length-map vss (λ (v : List (Option ℤ)). get_or v p none) ∙ vss-length ∙ sym (answered n e).count-is)

    rooms : (k ≤ length values / 128) × (k ≤ length marks / 128)
    rooms = go (leb k (length values / 128)) refl (leb k (length marks / 128)) refl (sym (ap (λ (h : Option (ℕ × ℕ)). is_full h (length values) (length marks)) header-found) ∙ (answered n e).roomy)
      where
        go : (s : Bool) → leb k (length values / 128) ≡ s → (t : Bool) → leb k (length marks / 128) ≡ t → not (s && t) ≡ false → (k ≤ length values / 128) × (k ≤ length marks / 128)
        go true f true g q = (leb-true k (length values / 128) f, leb-true k (length marks / 128) g)
        go true f false g q = absurd (let z : ◌≡◌ {A = ℕ} 0 1 = cc in omega arith)
        go false f t g q = absurd (let z : ◌≡◌ {A = ℕ} 0 1 = cc in omega arith)

    -- a reading is kept at its place
    kept_at : {A : Type 0} (kept : Option ℤ → A) (l : List A) (d : A) → k ≤ length l / 128 → (p m : ℕ) → p < host_channels 1 rows → (v : Message) → get_elem? (get_or (readings rows sheet) p []) m ≡ some v
        → get_or (put_lines kept 0 (lines_after (header_of rows sheet) sheet) l) (p * 128 + m) d ≡ kept v
    kept_at kept l d r p m h v i =
        let below : m < n = ltb-true m n (sym (left_below p m h) ∙ ap is_some i) in
        let there : m < length vss = omega (arith, vss-length, (answered n e).count-is) in
        let w = wide m there in
        let q : m ≡ 0 + m = omega arith in
        ap (λ (us : List (List (Option ℤ))). get_or (put_lines kept 0 us l) (p * 128 + m) d) lines-put
        ∙ ap (λ (j : ℕ). get_or (put_lines kept 0 vss l) (p * 128 + j) d) q
        ∙ line-there kept 0 vss l m p d (omega (arith, vss-length, few)) there (omega (arith, channels-length rows 1)) (omega (arith, channels-length rows 1))
        ∙ ap kept (sym (get_or-map (λ (v : List (Option ℤ)). get_or v p none) vss m []) ∙ ap (λ (c : List (Option ℤ)). get_or c m none) (sym (column-of p h)) ∙ entry-is (get_or (readings rows sheet) p []) m v i)

    pub kept-readings : KeptReadings rows (readings rows sheet) (sheet_read rows sheet values marks).1 (sheet_read rows sheet values marks).2 n
    kept-readings =
        let A = answered n e in
        let vs = ap length A.values-are ∙ lines-length value_of 0 (lines_after (header_of rows sheet) sheet) values in
        let ms = ap length A.marks-are ∙ lines-length reading_mark 0 (lines_after (header_of rows sheet) sheet) marks in
        record {
          numbers_fit = omega (arith, rooms.0, channels-length rows 1);
          marks-fit = omega (arith, rooms.1, channels-length rows 1);
          left = left_below;
          number = λ p m h v i. ap (λ (l : List ℤ). get_or l (p * 128 + m) (pos 0)) A.values-are ∙ kept_at value_of values (pos 0) rooms.0 p m h v i ∙ value-shown v;
          marked = λ p m h v i. ap (λ (l : List ℕ). get_or l (p * 128 + m) 0) A.marks-are ∙ kept_at reading_mark marks 0 rooms.1 p m h v i ∙ mark-shown v;
        }
