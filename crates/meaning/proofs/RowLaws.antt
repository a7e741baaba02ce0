-- A line of a table is read as a row just if it is that row printed.
use mathlib.Core.Path.{◌≡◌, subst}
use mathlib.Core.Bool.{Bool, true, false}
use mathlib.Core.List.{List, [], ◌∷◌, map}
use mathlib.Core.Option.{Option, none, some, none-ne-some, some-injective}
use Prim.Native.Nat.{ℕ, zero, suc}
use native.Mathlib.Omega.{arith}
use lib.IntN.{ℤ, pos, negsuc}
use lib.Dec.{eqb, leb}
use Rattle.meaning.specs.Basics.{if_else}
use borrow.Author.Tests.{leb-true}
use Rattle.meaning.specs.Texts.{hyphen}
use Rattle.meaning.specs.Lines.{text}
use Rattle.meaning.specs.Numerals.{natural, unsigned, negative, number, printed}
use Rattle.meaning.specs.TableBytes.{read_row}
use Rattle.meaning.specs.PrintedForms.{written, In32, IsRow}
use Rattle.meaning.specs.PrintedClaims.{ReadsBack, OneForm}
use Rattle.meaning.proofs.NumeralLaws.{reads-back}
use Rattle.meaning.proofs.NumeralForm.{let_through, one_form}
use Rattle.meaning.proofs.LineLaws.{commas, printed-inner}
use Rattle.meaning.proofs.ReadLaws.{all-inner, text-written, line_reads, line-form}

-- a number that is read is one of 32 bits
unsigned-range : (o : Option ℕ) (z : ℤ) → unsigned o ≡ some z → In32 z
unsigned-range none z e = absurd (none-ne-some z e)
unsigned-range (some n) z e =
    let h = let_through (leb n 2147483647) (some (pos n)) z e in
    let l = leb-true n 2147483647 h.0 in
    subst In32 (some-injective (pos n) z h.1) (omega arith)

negative-range : (o : Option ℕ) (z : ℤ) → negative o ≡ some z → In32 z
negative-range none z e = absurd (none-ne-some z e)
negative-range (some zero) z e = absurd (none-ne-some z e)
negative-range (some (suc n)) z e =
    let h = let_through (leb n 2147483647) (some (negsuc n)) z e in
    let l = leb-true n 2147483647 h.0 in
    subst In32 (some-injective (negsuc n) z h.1) (omega arith)

pub number-range : (bs : List ℕ) (z : ℤ) → number bs ≡ some z → In32 z
unfolding number
number-range [] z e = absurd (none-ne-some z e)
number-range (b ∷ bs) z e = go (eqb b hyphen) e
  where
    go : (t : Bool) → if_else t (negative (natural bs)) (unsigned (natural (b ∷ bs))) ≡ some z → In32 z
    go true h = negative-range (natural bs) z h
    go false h = unsigned-range (natural (b ∷ bs)) z h

pub number-back : (z : ℤ) → In32 z → number (printed z) ≡ some z
unfolding ReadsBack
number-back z h = reads-back z h

pub number-form : (bs : List ℕ) (z : ℤ) → number bs ≡ some z → (bs ≡ printed z) × In32 z
unfolding OneForm
number-form bs z e = (one_form bs z e, number-range bs z e)

-- the line of a row
abbrev pub row_line : List ℤ → List ℕ
row_line row = written (map printed row)

pub row-text : (row : List ℤ) → text (row_line row) ≡ some (commas (map printed row))
row-text row = text-written (map printed row) (all-inner number printed In32 printed-inner number-back number-form row)

pub row_reads : (row : List ℤ) → IsRow row → read_row (row_line row) ≡ some row
unfolding read_row
row_reads [] h = absurd (let z : ◌≡◌ {A = ℕ} 0 4 = h.0 in omega arith)
row_reads (z ∷ zs) h = line_reads number printed In32 printed-inner number-back number-form 4 z zs h.0 h.1

pub row-form : (line : List ℕ) (row : List ℤ) → read_row line ≡ some row → (line ≡ row_line row) × IsRow row
unfolding read_row
row-form line row e = line-form number printed In32 printed-inner number-back number-form 4 line row e
