-- Whether an operand is followed by an operator between operands, told from the sorts of its tokens and of those after it.
use Rattle.std.specs.Prelude.{Bool, true, false, List, [], ◌∷◌, ℕ, zero, suc}
use Rattle.read_marks.specs.Roles.{role_of}
use Rattle.read_marks.specs.declared.Role.{Role}
use Rattle.read_marks.specs.declared.Role.TheVariants.{Operand, RoundOpening, SquareOpening, Closing, Between, Other}

-- a token after an operand of which so many brackets are open: an answer, or by the tokens after it
abbrev pub past_token : Role → ℕ → (ℕ → Bool) → Bool
past_token Operand zero later = false
past_token Operand (suc d) later = later (suc d)
past_token RoundOpening zero later = false
past_token RoundOpening (suc d) later = later (suc (suc d))
past_token SquareOpening d later = later (suc d)
past_token Closing zero later = false
past_token Closing (suc d) later = later d
past_token Between zero later = true
past_token Between (suc d) later = later (suc d)
past_token Other zero later = false
past_token Other (suc d) later = later (suc d)

-- whether an operator follows once so many brackets are closed
unfoldable pub followed_past : ℕ → List ℕ → Bool
followed_past d [] = false
followed_past d (s ∷ ss) = past_token (role_of s) d (λ e. followed_past e ss)

-- an operand that begins with a token
abbrev pub follows_token : Role → List ℕ → Bool
follows_token Operand ss = followed_past 0 ss
follows_token RoundOpening ss = followed_past 1 ss
follows_token SquareOpening ss = false
follows_token Closing ss = false
follows_token Between ss = false
follows_token Other ss = false

-- whether an operator follows the operand that some tokens begin with; none does where no operand begins
unfoldable pub follows : List ℕ → Bool
follows [] = false
follows (s ∷ ss) = follows_token (role_of s) ss
