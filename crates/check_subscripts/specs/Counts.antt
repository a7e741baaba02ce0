-- What is left to count where a constant subscript means no number of its array.
use Rattle.std.specs.Prelude.{ℕ}
use Rattle.meaning.specs.declared.Value.{Value}
use Rattle.meaning.specs.declared.Value.TheVariants.{Number, Missing}

-- how many of n numbers count where a constant subscript means none of them: "nothing if it is outside the array", "every number" if it has no value
abbrev pub without_place : ℕ → Value → ℕ
without_place n (Number x) = 0
without_place n (Missing k) = n
