-- Refusals 2 and 3 are those of the lowest line at fault.
use mathlib.Core.Path.{◌≡◌, refl, sym, ap, subst, ◌∙◌}
use mathlib.Core.Logic.{inl, inr, ◌↔◌}
use mathlib.Core.Bool.{Bool, true, false, not, ◌||◌}
use mathlib.Core.List.{List, []}
use mathlib.Core.Option.{Option, none, some, map, none-ne-some, some-injective}
use Prim.Native.Nat.{ℕ, zero, suc, ◌+◌, ◌<◌, ◌≤◌}
use native.Mathlib.Omega.{arith}
use lib.IntN.{ℤ}
use lib.ListN.{length, get_or}
use Rattle.meaning.specs.Limits.{max_rows, max_table}
use Rattle.meaning.specs.Basics.{if_else, is_some, lowest}
use Rattle.meaning.specs.Refusals.{Refusal}
use Rattle.meaning.specs.Lines.{lines}
use Rattle.meaning.specs.TableBytes.{header, read_row, overlong, malformed, one_too_many, refusal_at, bytes_fault}
use Rattle.meaning.specs.ByteClaims.{LineIs, LowestLine, IsRowLine, NotAsAbove, MoreRows, FaultyLine, RefusedBytes, by_form, by_rows, BytesExactly}
use Rattle.meaning.proofs.Decides.{Decides, holding, failing, is_true, is_false, decides-iff, decides_and, decides_or, decides_not, decides-lt, decides-le, decides_eq}
use Rattle.meaning.proofs.LineIsLaws.{line_at}
use Rattle.meaning.proofs.LineFaults.{none-exactly, some-exactly, line-below, decides-first, decides-further}
use Rattle.meaning.proofs.NoFault.{none-mapped}
use Rattle.meaning.proofs.RowLaws.{row_reads, row-form}

-- a line is read as a row exactly if it is one, printed
decides-row : (l : List ℕ) → Decides (IsRowLine l) (is_some (read_row l))
decides-row l = go (read_row l) refl
  where
    go : (o : Option (List ℤ)) → read_row l ≡ o → Decides (IsRowLine l) (is_some o)
    go none e = failing (λ (row, r, q). none-ne-some row (sym e ∙ ap read_row q ∙ row_reads row r))
    go (some row) e = let (q, r) = row-form l row e in holding (row, r, q)

module _ (table : List ℕ) where
  decides-form : (n : ℕ) → Decides (NotAsAbove table n) (malformed (overlong table) (lines table) n)
  decides-form zero = decides-lt max_table (length table)
  decides-form (suc zero) = decides-first table header (λ e. let z : ◌≡◌ {A = ℕ} 11 0 = ap (λ (l : List ℕ). length l) e in omega arith)
  decides-form (suc (suc i)) = decides-further table (λ l. ¬ IsRowLine l) (λ l. not (is_some (read_row l))) (λ l. decides_not (decides-row l)) (suc i)

  decides-rows : (n : ℕ) → Decides (MoreRows table n) (one_too_many (lines table) n)
  decides-rows n = decides-iff to from (decides_and (decides_eq n (max_rows + 2)) (decides-le (max_rows + 2) (length (lines table))))
    where
      to : (n ≡ max_rows + 2) × (max_rows + 2 ≤ length (lines table)) → MoreRows table n
      to (e, h) = (e, subst (λ (k : ℕ). (line : List ℕ) × LineIs table k line) (sym e) (get_or (lines table) 1025 [], line_at 1025 table h))

      from : MoreRows table n → (n ≡ max_rows + 2) × (max_rows + 2 ≤ length (lines table))
      from (e, (l, k)) = (e, (line-below table 1025 l (subst (λ (m : ℕ). LineIs table m l) e k)).0)

  abbrev test : ℕ → Bool
  test n = malformed (overlong table) (lines table) n || one_too_many (lines table) n

  decides-fault : (n : ℕ) → Decides (FaultyLine table n) (test n)
  decides-fault n = decides_or (decides-form n) (decides-rows n)

  -- a line at fault is one of the first, or is there
  bound : (n : ℕ) → FaultyLine table n → n < 2 + length (lines table)
  bound zero f = omega arith
  bound (suc zero) f = omega arith
  bound (suc (suc i)) (inl (l, k, p)) = let h = (line-below table (suc i) l k).0 in omega arith
  bound (suc (suc i)) (inr (e, (l, k))) = let h = (line-below table (suc i) l k).0 in omega arith

  abbrev found : Option ℕ
  found = lowest test (2 + length (lines table))

  pass : (bytes_fault table ≡ none) ↔ ((n : ℕ) → ¬ FaultyLine table n)
  unfolding bytes_fault
  pass =
      let (to, from) = none-exactly (FaultyLine table) test (2 + length (lines table)) decides-fault bound in
      (λ e. to (none-mapped (refusal_at (overlong table) (lines table)) found e), λ f. ap (map (refusal_at (overlong table) (lines table))) (from f))

  lowest-line : (n : ℕ) → (found ≡ some n) ↔ LowestLine (FaultyLine table) n
  lowest-line = some-exactly (FaultyLine table) test (2 + length (lines table)) decides-fault bound

  -- the refusal of the line found
  refused : (number place n : ℕ) → LowestLine (FaultyLine table) n → (t : Bool) → Decides (NotAsAbove table n) t → if_else {A = Refusal} t (2, n) (3, max_rows) ≡ (number, place)
      → RefusedBytes table number place
  refused number place n low true (holding a) e = subst (λ (r : Refusal). RefusedBytes table r.0 r.1) e (by_form low a)
  refused number place n low false (failing a) e = subst (λ (r : Refusal). RefusedBytes table r.0 r.1) e (by_rows low a)

  to-refused : (number place : ℕ) → bytes_fault table ≡ some (number, place) → RefusedBytes table number place
  unfolding bytes_fault
  to-refused number place e = go found refl e
    where
      go : (o : Option ℕ) → found ≡ o → map (refusal_at (overlong table) (lines table)) o ≡ some (number, place) → RefusedBytes table number place
      go none f h = absurd (none-ne-some (number, place) h)
      go (some n) f h =
          refused number place n ((lowest-line n).0 f) (malformed (overlong table) (lines table) n) (decides-form n)
          (some-injective (refusal_at (overlong table) (lines table) n) (number, place) h)

  from-refused : (number place : ℕ) → RefusedBytes table number place → bytes_fault table ≡ some (number, place)
  unfolding bytes_fault
  from-refused number place (by_form {n} low a) =
      ap (map (refusal_at (overlong table) (lines table))) ((lowest-line n).1 low)
      ∙ ap (λ (t : Bool). some (if_else {A = Refusal} t (2, n) (3, max_rows))) (is_true (decides-form n) a)
  from-refused number place (by_rows {n} low a) =
      ap (map (refusal_at (overlong table) (lines table))) ((lowest-line n).1 low)
      ∙ ap (λ (t : Bool). some (if_else {A = Refusal} t (2, n) (3, max_rows))) (is_false (decides-form n) a)

pub bytes-exactly : BytesExactly
unfolding BytesExactly
bytes-exactly table = (pass table, λ number place. (to-refused table number place, from-refused table number place))
