-- What a caller knows of bytes that are read into lent rows: the refusal; or that their rows stand at the start; or that there was no room for them,
-- which is never so where there is room for 1,024.
use mathlib.Core.Path.{◌≡◌, refl, sym, ap, ◌∙◌}
use mathlib.Core.Bool.{Bool, true, false, ◌||◌}
use mathlib.Core.List.{List, [], ◌∷◌, flatten}
use mathlib.Core.Option.{Option, none, some, map}
use Prim.Native.Nat.{ℕ, ◌+◌, ◌*◌, ◌/◌, ◌≤◌, ◌<◌, min}
use native.Mathlib.Decide.{dec_lt}
use native.Mathlib.Omega.{arith}
use lib.IntN.{ℤ}
use lib.ListN.{length, take, length-append, length-take}
use lib.Seq.{take_at, take_all}
use lib.Dec.{T, ltb}
use borrow.Author.Tests.{le-leb, ltb-true, ltb-false}
use Rattle.meaning.specs.Limits.{max_rows}
use Rattle.meaning.specs.Basics.{if_else, lowest, Lowest}
use Rattle.meaning.specs.Lines.{lines}
use Rattle.meaning.specs.Refusals.{Refusal}
use Rattle.meaning.specs.Rows.{row_count}
use Rattle.meaning.specs.TableBytes.{overlong, malformed, one_too_many, refusal_at, bytes_fault, rows_of}
use Rattle.meaning.specs.PrintedForms.{Each, each_none, each_more, IsRow, flat}
use Rattle.meaning.specs.PrintedClaims.{TableForm, TableReads}
use Rattle.meaning.proofs.LowestLaws.{lowest-is}
use Rattle.meaning.proofs.TableLaws.{table-form, table-reads}
use Rattle.std.specs.Prelude.{Result, Ok, Err}
use Rattle.read_table.specs.declared.TableError.{TableError}
use Rattle.read_table.specs.declared.TableError.TheVariants.{Full, Refused}
use Rattle.read_table.specs.TableRead.{rows_to_read, rows_unless_refused, past, table_read}

flat-length : (rows : List (List ℤ)) → Each IsRow rows → length (flat rows) ≡ 4 * length rows
unfolding flatten
flat-length [] each_none = refl
flat-length (row ∷ rows) (each_more h g) = let one = h.0 in let more = flat-length rows g in omega (arith, length-append row (flatten rows))

-- four numbers to a row, and not too many rows, where nothing is refused
whole-rows : (bytes : List ℕ) → bytes_fault bytes ≡ none → (n : ℕ) × (length (rows_of bytes) ≡ 4 * n) × (n ≤ 1024)
unfolding TableForm TableReads
whole-rows bytes e =
    let f = (table-form bytes).0 e in
    (length f.0, ap length (ap rows_of f.1 ∙ table-reads f.0 f.4) ∙ flat-length f.0 f.4, f.3)

-- there are never more than 1,024 rows to read
module _ (bytes : List ℕ) where
  abbrev ls : List (List ℕ)
  ls = lines bytes

  abbrev fault : ℕ → Bool
  fault L = malformed (overlong bytes) ls L || one_too_many ls L

  too_many : 1026 ≤ length ls → T (fault 1026)
  too_many h = go (malformed (overlong bytes) ls 1026)
    where
      go : (t : Bool) → T (t || one_too_many ls 1026)
      go true = tt
      go false = rw (le-leb 1026 (length ls) h) tt

  before : (t : Bool) (L : ℕ) → L ≤ 1026 → rows_to_read (some (if_else {A = Refusal} t (2, L) (3, max_rows))) (rows_of bytes) ≤ 1024
  before true L h = omega arith
  before false L h = omega arith

  rows_few : rows_to_read (bytes_fault bytes) (rows_of bytes) ≤ 1024
  unfolding bytes_fault
  rows_few = go (lowest fault (2 + length ls)) refl (lowest-is fault (2 + length ls))
    where
      place : (L : ℕ) → L < 2 + length ls → ((j : ℕ) → j < L → ¬ T (fault j)) → Dec (1026 < L) → L ≤ 1026
      place L h lower (yes later) = absurd (lower 1026 later (too_many (omega arith)))
      place L h lower (no later) = omega arith

      go : (o : Option ℕ) → lowest fault (2 + length ls) ≡ o → Lowest (λ L. T (fault L)) (2 + length ls) o → rows_to_read (map (refusal_at (overlong bytes) ls) (lowest fault (2 + length ls))) (rows_of bytes) ≤ 1024
      go none i h =
          let w = whole-rows bytes (ap (map (refusal_at (overlong bytes) ls)) i) in
          let size = w.1 in
          let few = w.2 in
          rw i (omega arith)
      go (some L) i h = rw i (before (malformed (overlong bytes) ls L) L (place L h.0 h.2 (dec_lt 1026 L)))

-- rows of some bytes that are read: nothing is refused, and they stand at the start of the numbers held
pub record RowsRead (bytes : List ℕ) (held : List ℤ) (count : ℕ) : Type 0 where
  pub no-fault : bytes_fault bytes ≡ none
  pub few : count ≤ 1024
  pub fits : 4 * count ≤ length held
  pub size : 4 * count ≡ length (rows_of bytes)
  pub rows_are : take (4 * count) held ≡ rows_of bytes

module _ (bytes : List ℕ) (lent held : List ℤ) (t : Result ℕ TableError) (e : (t, held) ≡ table_read bytes lent) where
  abbrev count : ℕ
  count = rows_to_read (bytes_fault bytes) (rows_of bytes)

  abbrev room : ℕ
  room = length lent / 4

  told : t ≡ if_else (ltb room count) (Err Full) (rows_unless_refused (bytes_fault bytes) count)
  unfolding table_read
  told = ap (λ (p : Result ℕ TableError × List ℤ). p.0) e

  held-is : held ≡ past (take (4 * min room count) (rows_of bytes)) lent
  unfolding table_read
  held-is = ap (λ (p : Result ℕ TableError × List ℤ). p.1) e

  pub refused-read : (number place : ℕ) → t ≡ Err (Refused number place) → bytes_fault bytes ≡ some (number, place)
  refused-read number place i = go (ltb room count) (bytes_fault bytes) (sym i ∙ told)
    where
      go : (b : Bool) (o : Option Refusal) → Err (Refused number place) ≡ if_else b (Err Full) (rows_unless_refused o count) → o ≡ some (number, place)
      go true o h = absurd (let z : ◌≡◌ {A = ℕ} 0 1 = cc in omega arith)
      go false none h = absurd (let z : ◌≡◌ {A = ℕ} 0 1 = cc in omega arith)
      go false (some (n, p)) h = cc

  pub rows-read : (n : ℕ) → t ≡ Ok n → RowsRead bytes held n
  rows-read n i = go (ltb room count) refl (bytes_fault bytes) refl (sym i ∙ told)
    where
      go : (b : Bool) → ltb room count ≡ b → (o : Option Refusal) → bytes_fault bytes ≡ o → Ok n ≡ if_else b (Err Full) (rows_unless_refused o count) → RowsRead bytes held n
      go true j o k h = absurd (let z : ◌≡◌ {A = ℕ} 0 1 = cc in omega arith)
      go false j (some f) k h = absurd (let z : ◌≡◌ {A = ℕ} 0 1 = cc in omega arith)
      go false j none k h =
          let all : count ≡ n = cc in
          let room-is = ltb-false room count j in
          let w = whole-rows bytes k in
          let whole : count ≡ row_count (rows_of bytes) = ap (λ (o : Option Refusal). rows_to_read o (rows_of bytes)) k in
          let size : 4 * n ≡ length (rows_of bytes) = omega (arith, w.1) in
          let fit : min room count ≡ n = omega arith in
          let read : take (4 * min room count) (rows_of bytes) ≡ rows_of bytes = rw fit (take_all (4 * n) (rows_of bytes) (omega arith)) in
          let rows : take (4 * n) held ≡ rows_of bytes = ap (take (4 * n)) held-is ∙ rw read (take_at (rows_of bytes) _ (4 * n) (sym size)) in
          let taken = ap length rows in
          record { no-fault = k; few = omega (arith, w.1, w.2); fits = omega (arith, length-take (4 * n) held); size = size; rows_are = rows }

  pub never-full : 4096 ≤ length lent → t ≡ Err Full → ⊥
  never-full l i = go (ltb room count) refl (bytes_fault bytes) (sym i ∙ told)
    where
      go : (b : Bool) → ltb room count ≡ b → (o : Option Refusal) → Err Full ≡ if_else b (Err Full) (rows_unless_refused o count) → ⊥
      go true j o h = let more = ltb-true room count j in let few = rows_few bytes in omega arith
      go false j none h = let z : ◌≡◌ {A = ℕ} 0 1 = cc in omega arith
      go false j (some (n, p)) h = let z : ◌≡◌ {A = ℕ} 0 1 = cc in omega arith
