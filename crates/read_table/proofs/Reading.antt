-- A table's lines one after another: what is known while they are read, and what each line gives.
use mathlib.Core.Path.{◌≡◌, refl, sym, ap, ap₂, ◌∙◌}
use mathlib.Core.Bool.{Bool, true, false, not, ◌&&◌, ◌||◌, false≢true}
use mathlib.Core.List.{List, [], ◌∷◌, ◌++◌, map, tail, append_assoc, append-nil, flatten}
use mathlib.Core.Option
use mathlib.Core.Option.{Option, none, some, some-injective, none-ne-some}
use Prim.Native.Nat.{ℕ, zero, suc, ◌+◌, ◌-◌, ◌*◌, ◌/◌, ◌≤◌, ◌<◌, min}
use native.Mathlib.Numerals.{add-one}
use native.Mathlib.Omega.{arith}
use lib.IntN.{ℤ}
use lib.ListN.{length, get_or, take, drop, length-append, length-drop, drop_of_length-le}
use lib.Seq.{drop-cons, drop-drop, get_or-drop, take_at}
use lib.Dec.{eqb, leb, ltb}
use borrow.Author.Tests.{le-leb, lt-leb, le-ltb, lt-ltb, eq-eqb, ne_eqb}
use Rattle.meaning.specs.Limits.{max_rows}
use Rattle.meaning.specs.Rows.{row_count}
use Rattle.meaning.specs.Basics.{if_else, is_some, lowest_from, lowest}
use Rattle.meaning.specs.Lines.{lines, line_size, same}
use Rattle.meaning.specs.TableBytes.{header, read_row, overlong, malformed, one_too_many, refusal_at, bytes_fault, rows_of}
use Rattle.meaning.proofs.NoFault.{and_none, or-none}
use Rattle.meaning.proofs.FirstLine.{lines-first}
use Rattle.meaning.specs.Refusals.{Refusal}
use Rattle.read_table.specs.Fields.{first_line, row_from_line}
use Rattle.std.specs.Prelude.{Result, Ok, Err}
use Rattle.read_table.specs.declared.TableError.{TableError}
use Rattle.read_table.specs.declared.TableError.TheVariants.{Full, Refused}
use Rattle.read_table.specs.TableRead.{rows_to_read, rows_unless_refused, past, table_read}
use Rattle.read_table.proofs.LineRow.{row-numbers, row-none}
use Rattle.meaning.proofs.RowLaws.{row-form}
use Rattle.read_table.proofs.RowStored.{row-pasted}
use borrow.Rule.Slice.PartMut.{put_mid}

-- the lines from a place of the bytes on
pub lines_at : (bytes : List ℕ) (at : ℕ) → at < length bytes → lines (drop at bytes) ≡ first_line (drop at bytes) ∷ lines (drop (at + line_size (drop at bytes)) bytes)
lines_at bytes at h = go (drop at bytes) (drop-cons bytes at 0 h) ∙ ap (λ (s : List ℕ). first_line (drop at bytes) ∷ lines s) (drop-drop (line_size (drop at bytes)) at bytes)
  where
    go : (s : List ℕ) → s ≡ get_or bytes at 0 ∷ drop (suc at) bytes → lines s ≡ first_line s ∷ lines (drop (line_size s) s)
    go [] e = absurd (let z : ◌≡◌ {A = ℕ} 0 1 = cc in omega arith)
    go (b ∷ bs) e = lines-first b bs

-- the numbers of some lines
abbrev rows_in : List (List ℕ) → List ℤ
rows_in ls = flatten (map (λ l. Option.get_or (read_row l) []) ls)

-- whether line L is at fault
abbrev faulty : List ℕ → ℕ → Bool
faulty bytes L = malformed (overlong bytes) (lines bytes) L || one_too_many (lines bytes) L

-- so many lines have been read as rows: none of them is at fault, the rows so far are theirs and stand over the lent ones, and the others are those from a place on
pub record Reading (bytes : List ℕ) (lent held : List ℤ) (rows_read at : ℕ) : Type 0 where
  pub numbers : List ℤ
  pub held-is : held ≡ past numbers lent
  pub four-each : length numbers ≡ 4 * rows_read
  pub few : rows_read ≤ 1024
  pub fits : 4 * rows_read ≤ length lent
  pub lines_left : drop (suc rows_read) (lines bytes) ≡ lines (drop at bytes)
  pub rows_left : rows_of bytes ≡ numbers ++ rows_in (lines (drop at bytes))
  pub no-fault : bytes_fault bytes ≡ Option.map (refusal_at (overlong bytes) (lines bytes)) (lowest_from (faulty bytes) (suc (suc rows_read)) (suc (length (lines (drop at bytes)))))

-- the lowest number from a place on is not before it
not-before : (p : ℕ → Bool) (at k i : ℕ) → lowest_from p at k ≡ some i → at ≤ i
unfolding lowest_from
not-before p at zero i e = absurd (none-ne-some i e)
not-before p at (suc k) i e = go (p at) (not-before p (suc at) k i) e
  where
    go : (t : Bool) → (lowest_from p (suc at) k ≡ some i → suc at ≤ i) → if_else t (some at) (lowest_from p (suc at) k) ≡ some i → at ≤ i
    go true later h = let same : at ≡ i = some-injective at i h in omega arith
    go false later h = let after = later h in omega arith

-- Places at fault ------------------------------------------------------------------------------------------------------------------

-- the first line, if there is one
first-line : (bytes : List ℕ) → get_or (lines bytes) 0 [] ≡ first_line bytes
unfolding lines line_size
first-line [] = refl
first-line (b ∷ bs) = ap (λ (ls : List (List ℕ)). get_or ls 0 []) (lines-first b bs)

module _ (bytes : List ℕ) where
  abbrev refusal : ℕ → Refusal
  refusal L = refusal_at (overlong bytes) (lines bytes) L

  -- the first place at fault among k from L on is the first among all
  abbrev Searched : ℕ → ℕ → Type 0
  Searched L k = bytes_fault bytes ≡ Option.map refusal (lowest_from (faulty bytes) L k)

  passed : (L k : ℕ) → Searched L (suc k) → faulty bytes L ≡ false → Searched (suc L) k
  unfolding lowest_from
  passed L k s e = s ∙ ap (λ (t : Bool). Option.map refusal (if_else t (some L) (lowest_from (faulty bytes) (suc L) k))) e

  found : (L k : ℕ) → Searched L (suc k) → faulty bytes L ≡ true → bytes_fault bytes ≡ some (refusal L)
  unfolding lowest_from
  found L k s e = s ∙ ap (λ (t : Bool). Option.map refusal (if_else t (some L) (lowest_from (faulty bytes) (suc L) k))) e

  searched : Searched 0 (suc (suc (length (lines bytes))))
  unfolding bytes_fault lowest
  searched = let two : 2 + length (lines bytes) ≡ suc (suc (length (lines bytes))) = omega arith in rw two refl

  -- The beginning --------------------------------------------------------------------------------------------------------------------

  -- a refusal before the first row
  module _ (lent : List ℤ) where
    first-refused : (p : ℕ) → p - 2 ≡ 0 → bytes_fault bytes ≡ some (2, p) → (Err (Refused 2 p), lent) ≡ table_read bytes lent
    unfolding table_read
    first-refused p h e = let none-fit : min (length lent / 4) 0 ≡ 0 = omega arith in rw (e, h, none-fit, le-ltb (length lent / 4) 0 (omega arith)) refl

    pub overlong-refused : overlong bytes ≡ true → (Err (Refused 2 0), lent) ≡ table_read bytes lent
    overlong-refused e = first-refused 0 refl (found 0 (suc (length (lines bytes))) searched (rw e refl) ∙ rw e refl)

    module _ (short : overlong bytes ≡ false) where
      not-overlong : Searched 1 (suc (length (lines bytes)))
      not-overlong = passed 0 (suc (length (lines bytes))) searched (rw short refl)

      pub header_refused : same (first_line bytes) header ≡ false → (Err (Refused 2 1), lent) ≡ table_read bytes lent
      header_refused e = first-refused 1 refl (found 1 (length (lines bytes)) not-overlong (rw (first-line bytes, e) refl) ∙ rw (first-line bytes, e) refl)

      pub reading-starts : same (first_line bytes) header ≡ true → Reading bytes lent lent 0 (line_size bytes)
      unfolding rows_of lines line_size same
      reading-starts e = go bytes refl
        where
          go : (s : List ℕ) → s ≡ bytes → Reading bytes lent lent 0 (line_size bytes)
          go [] i = absurd (false≢true (ap (λ (s : List ℕ). same (first_line s) header) i ∙ e))
          go (b ∷ bs) i =
              let first : lines bytes ≡ first_line bytes ∷ lines (drop (line_size bytes) bytes) = rw (sym i) (lines-first b bs) in
              let sizes : length (lines bytes) ≡ suc (length (lines (drop (line_size bytes) bytes))) = ap length first in
              record {
                numbers = [];
                held-is = refl;
                four-each = refl;
                few = omega arith;
                fits = omega arith;
                lines_left = ap (drop 1) first;
                rows_left = ap (λ (ls : List (List ℕ)). rows_in (tail ls)) first;
                no-fault = rw (sym sizes) (passed 1 (length (lines bytes)) not-overlong (rw (first-line bytes, e) refl));
              }

-- The lines after the first -----------------------------------------------------------------------------------------------------------

module _ (bytes : List ℕ) (lent held : List ℤ) (n at : ℕ) (r : Reading bytes lent held n at) where
  -- how many lines there are
  sizes : length (lines bytes) - suc n ≡ length (lines (drop at bytes))
  sizes = sym (length-drop (suc n) (lines bytes)) ∙ ap length r.lines_left

  -- as many numbers are held as are lent
  pub held-long : length held ≡ length lent
  held-long = let four = r.four-each in let fits = r.fits in rw r.held-is (simp (length-append, length-drop) (omega arith))

  pub row_fits : (n ≡ length lent / 4 → ⊥) → 4 * n + 4 ≤ length held
  row_fits m = let fits = r.fits in let long = held-long in omega arith

  -- how many rows there are to read, and for how many there is room
  abbrev count : ℕ
  count = rows_to_read (bytes_fault bytes) (rows_of bytes)

  abbrev room : ℕ
  room = length lent / 4

  -- the rows so far are what is held where there is no room or no row for more
  stopped : (t : Result ℕ TableError) → min room count ≡ n → t ≡ if_else (ltb room count) (Err Full) (rows_unless_refused (bytes_fault bytes) count) → (t, held) ≡ table_read bytes lent
  unfolding table_read
  stopped t m e =
      let so_far : take (4 * n) (rows_of bytes) ≡ r.numbers = ap (take (4 * n)) r.rows_left ∙ take_at r.numbers _ (4 * n) r.four-each in
      rw (m, so_far, e, r.held-is) refl

  -- a refusal after them
  refused-here : (number place : ℕ) → bytes_fault bytes ≡ some (number, place) → if_else (eqb number 2) (place - 2) place ≡ n → (Err (Refused number place), held) ≡ table_read bytes lent
  refused-here number place e h =
      let fits = r.fits in
      let all : count ≡ n = ap (λ (o : Option Refusal). rows_to_read o (rows_of bytes)) e ∙ h in
      stopped (Err (Refused number place)) (omega arith) (rw (all, le-ltb room n (omega arith), e) refl)

  -- no line is left
  pub reading-ends : length bytes ≤ at → (Ok n, held) ≡ table_read bytes lent
  unfolding lines flatten lowest_from
  reading-ends h =
      let gone : lines (drop at bytes) ≡ [] = ap lines (drop_of_length-le bytes h) in
      let few = r.few in
      let left : length (lines bytes) - suc n ≡ 0 = sizes ∙ ap length gone in
      let none-there : leb (suc (suc n)) (length (lines bytes)) ≡ false = lt-leb (suc (suc n)) (length (lines bytes)) (omega arith) in
      let none-too-many : leb 1026 (length (lines bytes)) ≡ false = lt-leb 1026 (length (lines bytes)) (omega arith) in
      let fine : faulty bytes (suc (suc n)) ≡ false =
      or-none (malformed (overlong bytes) (lines bytes) (suc (suc n))) (one_too_many (lines bytes) (suc (suc n)))
      (ap (λ (t : Bool). t && not (is_some (read_row (get_or (lines bytes) (suc n) [])))) none-there)
      (and_none (eqb (suc (suc n)) 1026) (leb 1026 (length (lines bytes))) none-too-many) in
      let right : bytes_fault bytes ≡ none = passed bytes (suc (suc n)) 0 (rw gone at r.no-fault) fine in
      let numbers : rows_of bytes ≡ r.numbers = r.rows_left ∙ ap (λ (ls : List (List ℕ)). r.numbers ++ rows_in ls) gone ∙ append-nil r.numbers in
      let whole : row_count (rows_of bytes) ≡ n = (let size = ap length numbers in let four = r.four-each in omega arith) in
      let all : count ≡ n = ap (λ (o : Option Refusal). rows_to_read o (rows_of bytes)) right ∙ whole in
      let fits = r.fits in
      stopped (Ok n) (omega arith) (rw (all, le-ltb room n (omega arith), right) refl)

  module _ (h : at < length bytes) where
    -- the next line is the one at the place
    line : get_or (lines bytes) (suc n) [] ≡ first_line (drop at bytes)
    line =
        let same_place : suc n + 0 ≡ suc n = omega arith in
        ap (λ (m : ℕ). get_or (lines bytes) m []) (sym same_place)
        ∙ sym (get_or-drop (suc n) (lines bytes) 0 [])
        ∙ ap (λ (ls : List (List ℕ)). get_or ls 0 []) (r.lines_left ∙ lines_at bytes at h)

    there : suc (suc n) ≤ length (lines bytes)
    there = let one = ap length (lines_at bytes at h) in omega (arith, sizes)

    -- it is no row
    pub reading-malformed : row_from_line bytes at ≡ none → (Err (Refused 2 (n + 2)), held) ≡ table_read bytes lent
    reading-malformed e =
        let bad : malformed (overlong bytes) (lines bytes) (suc (suc n)) ≡ true = rw (line, row-none bytes at e, le-leb (suc (suc n)) (length (lines bytes)) there) refl in
        let place : suc (suc n) ≡ n + 2 = omega arith in
        let fault : bytes_fault bytes ≡ some (2, n + 2) =
        found bytes (suc (suc n)) (length (lines (drop at bytes))) r.no-fault (ap (λ (t : Bool). t || one_too_many (lines bytes) (suc (suc n))) bad)
        ∙ ap (λ (t : Bool). some (if_else {A = Refusal} t (2, suc (suc n)) (3, max_rows))) bad
        ∙ ap (λ (L : ℕ). some (2, L)) place in
        refused-here 2 (n + 2) fault (omega arith)

    -- it is a row
    module _ (row : List ℤ) (next : ℕ) (e : row_from_line bytes at ≡ some (row, next)) where
      row-read : read_row (first_line (drop at bytes)) ≡ some row
      row-read = (row-numbers bytes at next row e).0

      four-there : length row ≡ 4
      four-there = (row-form (first_line (drop at bytes)) row row-read).1.0

      ahead : lines (drop at bytes) ≡ first_line (drop at bytes) ∷ lines (drop next bytes)
      ahead = lines_at bytes at h ∙ ap (λ (m : ℕ). first_line (drop at bytes) ∷ lines (drop m bytes)) (row-numbers bytes at next row e).1

      well-formed : malformed (overlong bytes) (lines bytes) (suc (suc n)) ≡ false
      well-formed =
          and_none (leb (suc (suc n)) (length (lines bytes))) (not (is_some (read_row (get_or (lines bytes) (suc n) []))))
          (rw (line, row-read) refl)

      -- one too many
      pub reading-too-many : n ≡ 1024 → (Err (Refused 3 1024), held) ≡ table_read bytes lent
      reading-too-many m =
          let place = there in
          let over : one_too_many (lines bytes) (suc (suc n)) ≡ true = rw (eq-eqb (suc (suc n)) 1026 (omega arith), le-leb 1026 (length (lines bytes)) (omega arith)) refl in
          let fault : bytes_fault bytes ≡ some (3, 1024) =
          found bytes (suc (suc n)) (length (lines (drop at bytes))) r.no-fault (ap₂ (λ (s t : Bool). s || t) well-formed over)
          ∙ ap (λ (t : Bool). some (if_else {A = Refusal} t (2, suc (suc n)) (3, max_rows))) well-formed in
          refused-here 3 1024 fault (sym m)

      module _ (m : n ≡ 1024 → ⊥) where
        -- the rows so far and this one, before those that are left
        rows-ahead : rows_of bytes ≡ (r.numbers ++ row) ++ rows_in (lines (drop next bytes))
        unfolding flatten
        rows-ahead =
            r.rows_left
            ∙ ap (λ (ls : List (List ℕ)). r.numbers ++ rows_in ls) ahead
            ∙ ap (λ (o : Option (List ℤ)). r.numbers ++ (Option.get_or o [] ++ rows_in (lines (drop next bytes)))) row-read
            ∙ sym (append_assoc r.numbers row (rows_in (lines (drop next bytes))))

        -- no line is at fault up to this one
        no-fault-here : Searched bytes (suc (suc (suc n))) (length (lines (drop at bytes)))
        no-fault-here =
            let few = r.few in
            let fewer : one_too_many (lines bytes) (suc (suc n)) ≡ false = ap (λ (t : Bool). t && leb 1026 (length (lines bytes))) (ne_eqb (suc (suc n)) 1026 (λ p. omega arith)) in
            let fine : faulty bytes (suc (suc n)) ≡ false = or-none (malformed (overlong bytes) (lines bytes) (suc (suc n))) (one_too_many (lines bytes) (suc (suc n))) well-formed fewer in
            passed bytes (suc (suc n)) (length (lines (drop at bytes))) r.no-fault fine

        -- so this one is to be read
        one_more : n < count
        one_more = go (lowest_from (faulty bytes) (suc (suc (suc n))) (length (lines (drop at bytes)))) refl no-fault-here
          where
            pick : (t : Bool) (L : ℕ) → suc (suc (suc n)) ≤ L → n < rows_to_read (some (if_else {A = Refusal} t (2, L) (3, max_rows))) (rows_of bytes)
            pick true L i = omega arith
            pick false L i = let few = r.few in omega arith

            go : (o : Option ℕ) → lowest_from (faulty bytes) (suc (suc (suc n))) (length (lines (drop at bytes))) ≡ o → bytes_fault bytes ≡ Option.map (refusal bytes) o → n < count
            go none i f =
                let size = ap length rows-ahead in
                let four = r.four-each in
                let all : count ≡ row_count (rows_of bytes) = ap (λ (q : Option Refusal). rows_to_read q (rows_of bytes)) f in
                let parts = length-append (r.numbers ++ row) (rows_in (lines (drop next bytes))) in
                omega (arith, length-append r.numbers row, four-there)
            go (some L) i f = rw f (pick (malformed (overlong bytes) (lines bytes) L) L (not-before (faulty bytes) (suc (suc (suc n))) (length (lines (drop at bytes))) L i))

        -- there is no room for it
        pub reading-full : n ≡ length lent / 4 → (Err Full, held) ≡ table_read bytes lent
        reading-full f = let more = one_more in stopped (Err Full) (omega arith) (rw (lt-ltb room count (omega arith)) refl)

        -- it is stored
        pub reading-goes-on : (n ≡ length lent / 4 → ⊥) → Reading bytes lent (put_mid (4 * n) (4 * n + 4 - 4 * n) held row) (n + 1) next
        reading-goes-on f =
            let few = r.few in
            let four = r.four-each in
            let fits = r.fits in
            record {
              numbers = r.numbers ++ row;
              held-is = ap (λ (l : List ℤ). put_mid (4 * n) (4 * n + 4 - 4 * n) l row) r.held-is ∙ row-pasted r.numbers lent row (4 * n) (4 * n + 4 - 4 * n) (sym four) (omega (arith, four-there));
              four-each = simp length-append (omega (arith, four-there));
              few = omega arith;
              fits = omega arith;
              lines_left = ap (λ (i : ℕ). drop i (lines bytes)) (let p : suc (n + 1) ≡ suc n + 1 = omega arith in p) ∙ sym (drop-drop 1 (suc n) (lines bytes)) ∙ ap (drop 1) (r.lines_left ∙ ahead);
              rows_left = rows-ahead;
              no-fault = rw (add-one n, sym (ap length ahead)) no-fault-here;
            }
