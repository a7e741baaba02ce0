-- Input read line by line up to the line `=`: what was passed is the table's, and the rest holds what is left of it, and the sheet.
use mathlib.Core.Path.{◌≡◌, refl, sym, ap, ap₂, ◌∙◌}
use mathlib.Core.Bool.{Bool, true, false}
use mathlib.Core.List.{List, [], ◌∷◌, ◌++◌, append-nil, append_assoc}
use Prim.Native.Nat.{ℕ, suc, ◌+◌, ◌-◌, ◌≤◌, ◌<◌}
use native.Mathlib.Omega.{arith}
use lib.ListN.{length, take, drop, length-drop, drop_of_length-le}
use lib.Seq.{length-take-le, take-add, drop-drop}
use lib.Dec.{eqb}
use Rattle.meaning.specs.Basics.{if_else}
use Rattle.meaning.specs.Texts.{line_feed}
use Rattle.meaning.specs.Lines.{lines, line_size, same}
use Rattle.meaning.specs.Runner.{separator, table_part, sheet_part}
use Rattle.meaning.proofs.FirstLine.{lines-first}
use Rattle.meaning.proofs.LineLaws.{concat-lines}
use Rattle.read_table.proofs.ScanSteps.{size-within}
use Rattle.write_lines.specs.declared.Parts.{Parts}
use Rattle.write_lines.specs.Splitting.{parts_of, Splits}

-- the first line, and the lines of what is after it
some-line : (l : List ℕ) → 0 < length l → lines l ≡ take (line_size l) l ∷ lines (drop (line_size l) l)
some-line [] h = absurd (omega arith)
some-line (b ∷ bs) h = lines-first b bs

-- a line is not empty
pub some_size : (l : List ℕ) → 0 < length l → 0 < line_size l
unfolding line_size
some_size [] h = absurd (omega arith)
some_size (b ∷ bs) h = go (eqb b line_feed)
  where
    go : (t : Bool) → 0 < if_else t 1 (suc (line_size bs))
    go true = omega arith
    go false = omega arith

module _ (s : List ℕ) where
  -- what is left at a place
  abbrev left : ℕ → List ℕ
  left at = drop at s

  -- no line so far is the line `=`
  pub record Passed (at : ℕ) : Type 0 where
    pub inside : at ≤ length s
    pub table : table_part (lines s) ≡ take at s ++ table_part (lines (left at))
    pub sheet : sheet_part (lines s) ≡ sheet_part (lines (left at))

  pub passed_none : Passed 0
  passed_none = record { inside = omega arith; table = refl; sheet = refl }

  module _ (at end : ℕ) (h : at < length s) (e : end ≡ at + line_size (left at)) where
    some_left : 0 < length (left at)
    some_left = omega (arith, length-drop at s)

    pub line-inside : (at < end) × (end ≤ length s)
    line-inside = (omega (arith, some_size (left at) some_left), omega (arith, size-within (left at), length-drop at s))

    -- the line at the place
    abbrev here : List ℕ
    here = take (end - at) (left at)

    size : line_size (left at) ≡ end - at
    size = omega (arith, e)

    first : lines (left at) ≡ here ∷ lines (left end)
    first =
        some-line (left at) some_left
        ∙ ap₂ (λ (l m : List ℕ). l ∷ lines m) (ap (λ (n : ℕ). take n (left at)) size) (drop-drop (line_size (left at)) at s ∙ ap left (sym e))

    table-by : (t : Bool) → same here separator ≡ t → table_part (lines (left at)) ≡ if_else t [] (here ++ table_part (lines (left end)))
    unfolding table_part
    table-by t i = ap table_part first ∙ ap (λ (c : Bool). if_else c [] (here ++ table_part (lines (left end)))) i

    sheet-by : (t : Bool) → same here separator ≡ t → sheet_part (lines (left at)) ≡ if_else t (left end) (sheet_part (lines (left end)))
    unfolding sheet_part
    sheet-by t i =
        ap sheet_part first
        ∙ ap₂ (λ (c : Bool) (l : List ℕ). if_else c l (sheet_part (lines (left end)))) i (concat-lines (left end))

    up_to : at + (end - at) ≡ end
    up_to = omega (arith, line-inside.0)

    -- another line is passed
    pub passed-more : Passed at → same here separator ≡ false → Passed end
    passed-more p i =
        record {
          inside = line-inside.1;
          table = p.table
              ∙ ap {B = List ℕ} (λ l. take at s ++ l) (table-by false i)
              ∙ sym (append_assoc (take at s) here (table_part (lines (left end))))
              ∙ ap (λ (l : List ℕ). l ++ table_part (lines (left end))) (sym (take-add at (end - at) s) ∙ ap (λ (n : ℕ). take n s) up_to);
          sheet = p.sheet ∙ sheet-by false i;
        }

    -- the line `=` parts the input
    pub splits-at : Passed at → same here separator ≡ true → Splits s (record { end = at; start = end })
    splits-at p i =
        record {
          table = sym (p.table ∙ ap {B = List ℕ} (λ l. take at s ++ l) (table-by true i) ∙ append-nil (take at s));
          sheet = sym (p.sheet ∙ sheet-by true i);
          table-inside = p.inside;
          sheet-inside = line-inside.1;
        }

  -- without it all is the table
  pub splits-nowhere : (at : ℕ) → Passed at → length s ≤ at → Splits s (record { end = at; start = at })
  unfolding table_part sheet_part lines
  splits-nowhere at p h =
      let e : left at ≡ [] = drop_of_length-le s h in
      record {
        table = sym (p.table ∙ ap (λ (l : List ℕ). take at s ++ table_part (lines l)) e ∙ append-nil (take at s));
        sheet = sym (p.sheet ∙ ap (λ (l : List ℕ). sheet_part (lines l)) e ∙ sym e);
        table-inside = p.inside;
        sheet-inside = p.inside;
      }

-- the parts settle the places
parts_are : (s : List ℕ) (p : Parts) → Splits s p → p ≡ parts_of s
unfolding parts_of
parts_are s p h =
    let end : p.end ≡ length (table_part (lines s)) = sym (length-take-le p.end s h.table-inside) ∙ ap (λ (l : List ℕ). length l) h.table in
    let size : length (sheet_part (lines s)) ≡ length s - p.start = sym (ap (λ (l : List ℕ). length l) h.sheet) ∙ length-drop p.start s in
    let start : p.start ≡ length s - length (sheet_part (lines s)) = omega (arith, h.sheet-inside, size) in
    ap₂ (λ (m n : ℕ). record { end = m; start = n }) end start

pub split-is : (s : List ℕ) (p : Parts) → Splits s p → (p ≡ parts_of s) × Splits s p
split-is s p h = (parts_are s p h, h)
