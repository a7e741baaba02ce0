-- Refusals 2, 3 and 10 as statements: what it is for a line of a table's bytes or of a sheet to be at fault, and that the lowest such line is
-- given. Nothing is read here: lines, rows and readings are told by their printed forms.
use Rattle.std.specs.Prelude.{◌≡◌, ◌⊎◌, ◌↔◌, ◌≢◌, List, [], ◌∷◌, ◌++◌, map, ℕ, zero, suc, ◌+◌, ◌*◌, ◌≤◌, ◌<◌, ℤ, pos, negsuc, length}
use Rattle.std.proofs.Math.Option.{Option, none, some}
use Rattle.meaning.specs.Basics.{Lowest}
use Rattle.meaning.specs.Limits.{max_rows, max_table, max_sheet, max_lines}
use Rattle.meaning.specs.Texts.{bytes, line_feed, hyphen, digit0}
use Rattle.meaning.specs.Numerals.{printed}
use Rattle.meaning.specs.Declarations.{channels}
use Rattle.meaning.specs.PrintedForms.{Each, written, reading_bytes, IsRow, IsValues}
use Rattle.meaning.specs.TableBytes.{bytes_fault}
use Rattle.meaning.specs.Sheet.{sheet_fault}

-- a text without a line feed
abbrev pub NoFeed : List ℕ → Type 0
NoFeed t = Each (λ b. b ≢ line_feed) t

-- "Each line ends with a line feed", "Lines count from 1": line n of some bytes; what stands after the last line feed is one more line
pub data LineIs : List ℕ → ℕ → List ℕ → Type 0 where
  line-ended : {bs : List ℕ} (t more : List ℕ) → NoFeed t → bs ≡ t ++ (line_feed ∷ more) → LineIs bs 1 (t ++ (line_feed ∷ []))
  line-unended : {bs : List ℕ} → NoFeed bs → bs ≢ [] → LineIs bs 1 bs
  line-later : {bs line : List ℕ} {n : ℕ} (t more : List ℕ) → NoFeed t → bs ≡ t ++ (line_feed ∷ more) → LineIs more n line → LineIs bs (suc n) line

-- "the lowest faulty line is given"
abbrev pub LowestLine : (ℕ → Type 0) → ℕ → Type 0
LowestLine Fault n = Lowest Fault (suc n) (some n)

-- Numbers ---------------------------------------------------------------------------------------------------------------------------

-- digits "in base ten" and the number that they stand for; "no leading zeros": more digits follow only where the number so far is not 0
pub data Digits : List ℕ → ℕ → Type 0 where
  first-digit : {d : ℕ} → d < 10 → Digits ((digit0 + d) ∷ []) d
  next-digit : {bs : List ℕ} {n d : ℕ} → Digits bs n → 0 < n → d < 10 → Digits (bs ++ ((digit0 + d) ∷ [])) (n * 10 + d)

-- a whole number as a field holds it: "no plus and no `-0`"
pub data Numeral : List ℕ → ℤ → Type 0 where
  without_sign : {bs : List ℕ} {n : ℕ} → Digits bs n → Numeral bs (pos n)
  with-minus : {bs : List ℕ} {n : ℕ} → Digits bs (suc n) → Numeral (hyphen ∷ bs) (negsuc n)

-- what is printed of a number is its one numeral
unfoldable pub PrintedNumeral : Type 0
PrintedNumeral = (bs : List ℕ) (z : ℤ) → Numeral bs z ↔ (bs ≡ printed z)

-- The table's bytes -------------------------------------------------------------------------------------------------------------

-- "one row of four whole numbers in that order, in base ten, from −2147483648 to 2147483647, with no leading zeros, no plus and no `-0`":
-- each number as it is printed, in its one form (`PrintedNumeral`), commas between them, a line feed at the end
abbrev pub IsRowLine : List ℕ → Type 0
IsRowLine line = (row : List ℤ) × IsRow row × (line ≡ written (map printed row))

module _ (table : List ℕ) where
  -- 2, "table bytes not as above": line 0 "if too long"; line 1 if it is not `kind,a,b,c`, also where it is missing ("a line that is missing
  -- counts as the one after the last"); a further line that is no row
  abbrev pub NotAsAbove : ℕ → Type 0
  NotAsAbove zero = max_table < length table
  NotAsAbove (suc zero) = ¬ LineIs table 1 (bytes "kind,a,b,c\n")
  NotAsAbove (suc (suc n)) = (line : List ℕ) × LineIs table (suc (suc n)) line × ¬ IsRowLine line

  -- 3, "more rows (in bytes, line 1,026 exists)"
  abbrev pub MoreRows : ℕ → Type 0
  MoreRows n = (n ≡ max_rows + 2) × ((line : List ℕ) × LineIs table n line)

  abbrev pub FaultyLine : ℕ → Type 0
  FaultyLine n = NotAsAbove n ⊎ MoreRows n

  -- "of 2 and 3 found in bytes the earlier line wins, on one line 2"; the place of 2 is the line, that of 3 is 1,024
  pub data RefusedBytes : ℕ → ℕ → Type 0 where
    by_form : {n : ℕ} → LowestLine FaultyLine n → NotAsAbove n → RefusedBytes 2 n
    by_rows : {n : ℕ} → LowestLine FaultyLine n → ¬ NotAsAbove n → RefusedBytes 3 max_rows

-- bytes are refused by 2 or 3 exactly so, and pass exactly if no line is at fault
unfoldable pub BytesExactly : Type 0
BytesExactly = (table : List ℕ)
    → ((bytes_fault table ≡ none) ↔ ((n : ℕ) → ¬ FaultyLine table n))
    × ((number place : ℕ) → (bytes_fault table ≡ some (number, place)) ↔ RefusedBytes table number place)

-- A sheet -----------------------------------------------------------------------------------------------------------------------

-- a line of values for k channels, "in that order. Numbers have the table's form"; "An empty field is an absent reading"
abbrev pub IsValueLine : ℕ → List ℕ → Type 0
IsValueLine k line = (v : List (Option ℤ)) × IsValues k v × (line ≡ written (map reading_bytes v))

module _ (rows : List ℤ) (sheet : List ℕ) where
  -- 10, "readings not as above": line 0 "if too long"; line 1 if it is not "a line of the role 1 channels in row order, joined by commas",
  -- also where it is missing; a further line that is past "at most 128 lines of values", that is none, or beside no such channel
  abbrev pub Misread : ℕ → Type 0
  Misread zero = max_sheet < length sheet
  Misread (suc zero) = ¬ LineIs sheet 1 (written (map (λ r. printed (pos r)) (channels rows 1)))
  Misread (suc (suc n)) =
      (line : List ℕ) × LineIs sheet (suc (suc n)) line
      × ((max_lines ≤ n) ⊎ ((length (channels rows 1) ≡ 0) ⊎ (¬ IsValueLine (length (channels rows 1)) line)))

-- a sheet is refused by 10 at the lowest such line, and passes exactly if there is none
unfoldable pub SheetExactly : Type 0
SheetExactly = (rows : List ℤ) (sheet : List ℕ)
    → ((sheet_fault rows sheet ≡ none) ↔ ((n : ℕ) → ¬ Misread rows sheet n))
    × ((number place : ℕ) → (sheet_fault rows sheet ≡ some (number, place)) ↔ ((number ≡ 10) × LowestLine (Misread rows sheet) place))
