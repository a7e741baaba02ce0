-- Refusal 10 is that of the lowest line at fault.
use mathlib.Core.Path.{◌≡◌, refl, sym, ap, subst, ◌∙◌}
use mathlib.Core.Logic.{◌⊎◌, inl, inr, ◌↔◌, ◌≢◌}
use mathlib.Core.Bool.{Bool, not, ◌||◌}
use mathlib.Core.List.{List, [], ◌∷◌, ◌++◌, map, append_assoc}
use mathlib.Core.Option
use mathlib.Core.Option.{Option, none, some, none-ne-some, some-injective}
use Prim.Native.Nat.{ℕ, zero, suc, ◌+◌, ◌<◌, ◌≤◌}
use native.Mathlib.Omega.{arith}
use native.Mathlib.Decide.{ℕ_discrete}
use lib.IntN.{ℤ, pos}
use lib.ListN.{length, length-append}
use lib.Dec.{ltb, leb}
use Rattle.meaning.specs.Limits.{max_sheet, max_lines}
use Rattle.meaning.specs.Texts.{line_feed, comma}
use Rattle.meaning.specs.Basics.{is_some, lowest}
use Rattle.meaning.specs.Refusals.{Refusal}
use Rattle.meaning.specs.Lines.{lines}
use Rattle.meaning.specs.Numerals.{decimal, printed}
use Rattle.meaning.specs.Declarations.{channels}
use Rattle.meaning.specs.Sheet.{joined, sheet_header, values_of, sheet_line_wrong, sheet_fault}
use Rattle.meaning.specs.PrintedForms.{written}
use Rattle.meaning.specs.ByteClaims.{LineIs, LowestLine, IsValueLine, Misread, SheetExactly}
use Rattle.meaning.proofs.Decides.{Decides, holding, failing, decides_or, decides-lt, decides-le}
use Rattle.meaning.proofs.LineFaults.{none-exactly, some-exactly, line-below, decides-first, decides-further}
use Rattle.meaning.proofs.NoFault.{none-mapped}
use Rattle.meaning.proofs.SheetLaws.{values-read, values-form, no-values}

-- the line of the channels, written
header-written : (cs : List ℕ) → sheet_header cs ≡ written (map (λ r. printed (pos r)) cs)
unfolding sheet_header joined written printed
header-written [] = refl
header-written (r ∷ []) = refl
header-written (r ∷ q ∷ qs) = append_assoc (decimal r) (comma ∷ joined (q ∷ qs)) (line_feed ∷ []) ∙ ap (λ (l : List ℕ). decimal r ++ (comma ∷ l)) (header-written (q ∷ qs))

header-some : (cs : List ℕ) → sheet_header cs ≢ []
unfolding sheet_header
header-some cs e = let h : ◌≡◌ {A = ℕ} (length (joined cs) + 1) 0 = sym (length-append (joined cs) (line_feed ∷ [])) ∙ ap (λ (l : List ℕ). length l) e in omega arith

-- a line is no line of values for k channels: there is no channel, or it is no such line, printed
decides-values : (k : ℕ) (l : List ℕ) → Decides ((k ≡ 0) ⊎ (¬ IsValueLine k l)) (not (is_some (values_of k l)))
decides-values k l = go (values_of k l) refl
  where
    some-channel : (k : ℕ) → ¬ (k ≡ 0) → 0 < k
    some-channel k h = omega arith

    no_line : (v : List (Option ℤ)) → values_of k l ≡ some v → ¬ ((k ≡ 0) ⊎ (¬ IsValueLine k l))
    no_line v e (inl z) = no-values l v (subst (λ (n : ℕ). values_of n l ≡ some v) z e)
    no_line v e (inr n) = let (q, r) = values-form k l v e in n (v, r, q)

    unread : values_of k l ≡ none → Dec (k ≡ 0) → (k ≡ 0) ⊎ (¬ IsValueLine k l)
    unread e (yes z) = inl z
    unread e (no z) = inr (λ (v, r, q). none-ne-some v (sym e ∙ ap (values_of k) q ∙ values-read k v (some-channel k z) r))

    go : (o : Option (List (Option ℤ))) → values_of k l ≡ o → Decides ((k ≡ 0) ⊎ (¬ IsValueLine k l)) (not (is_some o))
    go none e = holding (unread e (ℕ_discrete k 0))
    go (some v) e = failing (no_line v e)

module _ (rows : List ℤ) (sheet : List ℕ) where
  abbrev cs : List ℕ
  cs = channels rows 1

  abbrev test : ℕ → Bool
  test = sheet_line_wrong (ltb max_sheet (length sheet)) (channels rows 1) (lines sheet)

  decides-line : (n : ℕ) → Decides (Misread rows sheet n) (test n)
  decides-line zero = decides-lt max_sheet (length sheet)
  decides-line (suc zero) = subst (λ (h : List ℕ). Decides (¬ LineIs sheet 1 h) (test 1)) (header-written cs) (decides-first sheet (sheet_header cs) (header-some cs))
  decides-line (suc (suc i)) =
      decides-further sheet (λ l. (max_lines ≤ i) ⊎ ((length cs ≡ 0) ⊎ (¬ IsValueLine (length cs) l))) (λ l. leb max_lines i || not (is_some (values_of (length cs) l)))
      (λ l. decides_or (decides-le max_lines i) (decides-values (length cs) l)) (suc i)

  bound : (n : ℕ) → Misread rows sheet n → n < 2 + length (lines sheet)
  bound zero f = omega arith
  bound (suc zero) f = omega arith
  bound (suc (suc i)) (l, k, p) = let h = (line-below sheet (suc i) l k).0 in omega arith

  abbrev found : Option ℕ
  found = lowest test (2 + length (lines sheet))

  pass : (sheet_fault rows sheet ≡ none) ↔ ((n : ℕ) → ¬ Misread rows sheet n)
  unfolding sheet_fault
  pass =
      let (to, from) = none-exactly (Misread rows sheet) test (2 + length (lines sheet)) decides-line bound in
      (λ e. to (none-mapped (λ L. (10, L)) found e), λ f. ap (Option.map (λ L. (10, L))) (from f))

  lowest-line : (n : ℕ) → (found ≡ some n) ↔ LowestLine (Misread rows sheet) n
  lowest-line = some-exactly (Misread rows sheet) test (2 + length (lines sheet)) decides-line bound

  to-refused : (number place : ℕ) → sheet_fault rows sheet ≡ some (number, place) → (number ≡ 10) × LowestLine (Misread rows sheet) place
  unfolding sheet_fault
  to-refused number place e = go found refl e
    where
      go : (o : Option ℕ) → found ≡ o → Option.map {B = Refusal} (λ L. (10, L)) o ≡ some (number, place) → (number ≡ 10) × LowestLine (Misread rows sheet) place
      go none f h = absurd (none-ne-some (number, place) h)
      go (some n) f h =
          let r = some-injective (10, n) (number, place) h in
          (sym (ap (λ (x : Refusal). x.0) r), subst (LowestLine (Misread rows sheet)) (ap (λ (x : Refusal). x.1) r) ((lowest-line n).0 f))

  from-refused : (number place : ℕ) → (number ≡ 10) × LowestLine (Misread rows sheet) place → sheet_fault rows sheet ≡ some (number, place)
  unfolding sheet_fault
  from-refused number place (e, low) = ap (Option.map (λ L. (10, L))) ((lowest-line place).1 low) ∙ ap (λ (n : ℕ). some (n, place)) (sym e)

pub sheet-exactly : SheetExactly
unfolding SheetExactly
sheet-exactly rows sheet = (pass rows sheet, λ number place. (to-refused rows sheet number place, from-refused rows sheet number place))
