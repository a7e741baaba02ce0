-- The reader run on the examples of the request: a, b, c and x are names.
use mathlib.Core.Path.{◌≡◌, refl}
use mathlib.Core.List.{List, [], ◌∷◌, map}
use mathlib.Core.Option.{Option, none, some}
use Prim.Native.Nat.{ℕ, zero, suc}
use lib.IntN.{pos, negsuc}
use Rattle.grammar.specs.Grammar.{both, either, Token, name, number, minus, not-word, given, arith, joins, round-open, round-close, square-open, square-close, Syn, literal, bare, at, monadic, dyadic}
use Rattle.grammar.specs.Machine.{wrap, finish, unless_given, if_first, link_operand, round_end, square_end, square_start, begin, follow, feed, step, reach, close, phrase}

abbrev a : List ℕ
a = 97 ∷ []

abbrev b : List ℕ
b = 98 ∷ []

abbrev c : List ℕ
c = 99 ∷ []

abbrev x : List ℕ
x = 120 ∷ []

-- some tokens, and the expression that they spell, or none
record Example : Type 0 where
  tokens : List Token
  read : Option Syn

abbrev spells : List Token → Option Syn → Example
spells ts o = record { tokens = ts; read = o }

abbrev examples : List Example
examples =
    -- x - 5
    spells (name x ∷ minus ∷ number (pos 5) ∷ []) (some (dyadic 1 (bare x) (literal (pos 5))))
    -- x -5: a name, then a number
    ∷ spells (name x ∷ number (negsuc 4) ∷ []) none
    -- x--5
    ∷ spells (name x ∷ minus ∷ number (negsuc 4) ∷ []) (some (dyadic 1 (bare x) (literal (negsuc 4))))
    -- - 5
    ∷ spells (minus ∷ number (pos 5) ∷ []) (some (monadic 0 (literal (pos 5))))
    -- - -5
    ∷ spells (minus ∷ number (negsuc 4) ∷ []) (some (monadic 0 (literal (negsuc 4))))
    -- - - 5
    ∷ spells (minus ∷ minus ∷ number (pos 5) ∷ []) none
    -- a AND b AND c
    ∷ spells (name a ∷ joins both ∷ name b ∷ joins both ∷ name c ∷ []) (some (dyadic 14 (bare a) (dyadic 14 (bare b) (bare c))))
    -- a OR b OR c
    ∷ spells (name a ∷ joins either ∷ name b ∷ joins either ∷ name c ∷ []) (some (dyadic 15 (bare a) (dyadic 15 (bare b) (bare c))))
    -- a AND b OR c
    ∷ spells (name a ∷ joins both ∷ name b ∷ joins either ∷ name c ∷ []) none
    -- a AND (b OR c)
    ∷ spells (name a ∷ joins both ∷ round-open ∷ name b ∷ joins either ∷ name c ∷ round-close ∷ []) (some (dyadic 14 (bare a) (dyadic 15 (bare b) (bare c))))
    -- a AND NOT b
    ∷ spells (name a ∷ joins both ∷ not-word ∷ name b ∷ []) none
    -- NOT a AND b
    ∷ spells (not-word ∷ name a ∷ joins both ∷ name b ∷ []) none
    -- (NOT a) AND b
    ∷ spells (round-open ∷ not-word ∷ name a ∷ round-close ∷ joins both ∷ name b ∷ []) (some (dyadic 14 (monadic 1 (bare a)) (bare b)))
    -- a + b + c
    ∷ spells (name a ∷ arith 0 ∷ name b ∷ arith 0 ∷ name c ∷ []) none
    -- a = b AND c
    ∷ spells (name a ∷ arith 8 ∷ name b ∷ joins both ∷ name c ∷ []) none
    -- GIVEN x
    ∷ spells (given ∷ name x ∷ []) (some (monadic 2 (bare x)))
    -- GIVEN a[b]
    ∷ spells (given ∷ name a ∷ square-open ∷ name b ∷ square-close ∷ []) (some (monadic 2 (at a (bare b))))
    -- GIVEN (x)
    ∷ spells (given ∷ round-open ∷ name x ∷ round-close ∷ []) none
    -- GIVEN 5
    ∷ spells (given ∷ number (pos 5) ∷ []) none
    -- NOT GIVEN x
    ∷ spells (not-word ∷ given ∷ name x ∷ []) none
    -- NOT (GIVEN x)
    ∷ spells (not-word ∷ round-open ∷ given ∷ name x ∷ round-close ∷ []) (some (monadic 1 (monadic 2 (bare x))))
    -- ((x))
    ∷ spells (round-open ∷ round-open ∷ name x ∷ round-close ∷ round-close ∷ []) (some (bare x))
    -- (x)[1]
    ∷ spells (round-open ∷ name x ∷ round-close ∷ square-open ∷ number (pos 1) ∷ square-close ∷ []) none
    -- a[b[1]]+(2*c)
    ∷ spells (name a ∷ square-open ∷ name b ∷ square-open ∷ number (pos 1) ∷ square-close ∷ square-close ∷ arith 0 ∷ round-open ∷ number (pos 2) ∷ arith 2 ∷ name c ∷ round-close ∷ []) (some (dyadic 0 (at a (at b (literal (pos 1)))) (dyadic 2 (literal (pos 2)) (bare c))))
    -- a[1][2]
    ∷ spells (name a ∷ square-open ∷ number (pos 1) ∷ square-close ∷ square-open ∷ number (pos 2) ∷ square-close ∷ []) none
    -- (a]
    ∷ spells (round-open ∷ name a ∷ square-close ∷ []) none
    -- ()
    ∷ spells (round-open ∷ round-close ∷ []) none
    -- no tokens
    ∷ spells [] none
    -- x +
    ∷ spells (name x ∷ arith 0 ∷ []) none
    ∷ []

examples-read : map (λ (e : Example). phrase e.tokens) examples ≡ map (λ (e : Example). e.read) examples
unfolding wrap finish unless_given if_first link_operand round_end square_end square_start begin follow feed step reach close phrase
examples-read = refl

-- a token n times before others
times : ℕ → Token → List Token → List Token
times zero t ts = ts
times (suc n) t ts = t ∷ times n t ts

-- 16,000 brackets round x
deep : phrase (times 16000 round-open (name x ∷ times 16000 round-close [])) ≡ some (bare x)
unfolding times wrap finish unless_given if_first link_operand round_end square_end square_start begin follow feed step reach close phrase
deep = refl
