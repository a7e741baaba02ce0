-- An answer as a number, with what it leaves in a lent buffer.
use Rattle.std.specs.Prelude.{List, [], ◌∷◌, ◌++◌, ℕ, zero, suc, ℤ, length, drop, set, leb, eqb}
use Rattle.std.proofs.Math.Option.{Option, none, some}
use Rattle.meaning.specs.declared.Value.{Value}
use Rattle.meaning.specs.declared.Value.TheVariants.{Number, Missing}
use Rattle.meaning.specs.declared.Verdict.{Verdict}
use Rattle.meaning.specs.declared.Verdict.TheVariants.{Accepted, Rejected}
use Rattle.meaning.specs.Basics.{if_else}

-- 1 with the number at the start, if there is a number and room for it; else 0 with nothing changed
abbrev pub number_lent : Option ℤ → List ℤ → ℕ × List ℤ
number_lent none out = (0, out)
number_lent (some z) [] = (0, [])
number_lent (some z) (x ∷ out) = (1, z ∷ out)

-- a reason by its number; reason 0, of no operator or expression, is 256
abbrev pub reason_of : ℕ → ℕ
reason_of zero = 256
reason_of (suc k) = suc k

-- 0 with the value at the start, or the reason with nothing changed
abbrev pub value_lent : Value → List ℤ → ℕ × List ℤ
value_lent (Number x) out = (0, set out 0 x)
value_lent (Missing k) out = (reason_of k, out)

-- a text's length with the text at the start, if there is room for the longest; else 0 with nothing changed
abbrev pub text_lent : List ℕ → List ℕ → ℕ × List ℕ
text_lent t out = if_else (leb 11 (length out)) (length t, t ++ drop (length t) out) (0, out)

-- a refusal's number with its place at the start; 0 with nothing changed if there is none
abbrev pub verdict_lent : Verdict → List ℕ → ℕ × List ℕ
verdict_lent Accepted place = (0, place)
verdict_lent (Rejected number p) place = (number, set place 0 p)

-- a list in the place of a buffer of its length; a buffer of another length is left alone
abbrev pub copied : {A : Type 0} → List A → List A → List A
copied list out = if_else (eqb (length out) (length list)) list out
