-- The tokens of an operand are passed over, so that what comes after it tells whether an operator follows.
use mathlib.Core.Path.{◌≡◌, refl, ap, ◌∙◌}
use mathlib.Core.Bool.{Bool, true, false}
use mathlib.Core.List.{List, [], ◌∷◌, ◌++◌, map, append_assoc}
use Prim.Native.Nat.{ℕ, suc}
use lib.IntN.{ℤ}
use Rattle.grammar.specs.Grammar.{Link, both, either, Token, name, number, given, joins, round-open, round-close, square-open, square-close, Syn, Before, minus-before, not-before, Between, minus-between, arith-between, alone, subscripted, element, numeral, bracketed, Phrase, plain, prefixed, asked, paired, chained, last-operand, more}
use Rattle.read_tokens.specs.Held.{token_sort}
use Rattle.read_marks.specs.declared.Role.{Role}
use Rattle.read_marks.specs.declared.Role.TheVariants as roles
use Rattle.read_marks.specs.Roles.{role_of}
use Rattle.read_marks.specs.Follows.{followed_past, follows}

-- the role of a token
abbrev pub token_role : Token → Role
token_role t = role_of (token_sort t)

-- whether an operator follows, of tokens
abbrev past : ℕ → List Token → Bool
past d ts = followed_past d (map token_sort ts)

abbrev pub followed : List Token → Bool
followed ts = follows (map token_sort ts)

-- an operator between operands, a link or another
abbrev pub Joining : Token → Type 0
Joining t = token_role t ≡ roles.Between

pub joining-link : (l : Link) → Joining (joins l)
unfolding role_of
joining-link both = refl
joining-link either = refl

pub joining-between : {t : Token} {k : ℕ} → Between t k → Joining t
unfolding role_of
joining-between minus-between = refl
joining-between arith-between = refl

-- what stands after an operand: nothing or a bracket that closes, or an operator between operands
pub data Ended : Bool → List Token → Type 0 where
  at-end : Ended false []
  at-round : {us : List Token} → Ended false (round-close ∷ us)
  at-square : {us : List Token} → Ended false (square-close ∷ us)
  at-operator : {t : Token} {us : List Token} → Joining t → Ended true (t ∷ us)

past-ended : {b : Bool} {us : List Token} → Ended b us → past 0 us ≡ b
unfolding followed_past role_of
past-ended at-end = refl
past-ended at-round = refl
past-ended at-square = refl
past-ended (at-operator j) = rw j refl

-- within brackets, tokens are passed over
abbrev Skips : List Token → Type 0
Skips ts = (d : ℕ) (us : List Token) → past (suc d) (ts ++ us) ≡ past (suc d) us

skips-infix : (t : Token) (ts vs : List Token) → Joining t → Skips ts → Skips vs → Skips (ts ++ (t ∷ vs))
unfolding followed_past
skips-infix t ts vs j p q d us = rw append_assoc (p d (t ∷ (vs ++ us)) ∙ rw j (q d us))

skips-prefix : (t : Token) (k : ℕ) (ts : List Token) → Before t k → Skips ts → Skips (t ∷ ts)
unfolding followed_past role_of
skips-prefix t k ts minus-before p d us = p d us
skips-prefix t k ts not-before p d us = p d us

skips-given : (ts : List Token) → Skips ts → Skips (given ∷ ts)
unfolding followed_past role_of
skips-given ts p d us = p d us

skips-name : (n : List ℕ) → Skips (name n ∷ [])
unfolding followed_past role_of
skips-name n d us = refl

skips-number : (z : ℤ) → Skips (number z ∷ [])
unfolding followed_past role_of
skips-number z d us = refl

skips-subscript : (n : List ℕ) (ts : List Token) → Skips ts → Skips (name n ∷ square-open ∷ (ts ++ (square-close ∷ [])))
unfolding followed_past role_of
skips-subscript n ts p d us = ap (past (suc (suc d))) (append_assoc ts (square-close ∷ []) us) ∙ p (suc d) (square-close ∷ us)

skips-bracket : (ts : List Token) → Skips ts → Skips (round-open ∷ (ts ++ (round-close ∷ [])))
unfolding followed_past role_of
skips-bracket ts p d us = ap (past (suc (suc d))) (append_assoc ts (round-close ∷ []) us) ∙ p (suc d) (round-close ∷ us)

skips : {ts : List Token} {e : Syn} → Phrase ts e → Skips ts
skips p = elim p as (λ ts e q. Skips ts) (λ ts e q. Skips ts) (λ ts e q. Skips ts) (λ l ts e q. Skips ts) [
  | alone {n} ↦ skips-name n
  | subscripted {n} {ts} {e} (q → h) ↦ skips-subscript n ts h
  | element (q → h) ↦ h
  | numeral {z} ↦ skips-number z
  | bracketed {ts} {e} (q → h) ↦ skips-bracket ts h
  | plain {ts} {e} (q → h) ↦ h
  | prefixed {t} {k} {ts} {e} b (q → h) ↦ skips-prefix t k ts b h
  | asked {ts} {e} (q → h) ↦ skips-given ts h
  | paired {t} {k} {ts} {us} {e} {f} (q → h) b (u → i) ↦ skips-infix t ts us (joining-between b) h i
  | chained {l} {ts} {us} {e} {f} (q → h) (c → i) ↦ skips-infix (joins l) ts us (joining-link l) h i
  | last-operand {l} {ts} {e} (q → h) ↦ h
  | more {l} {ts} {us} {e} {f} (q → h) (c → i) ↦ skips-infix (joins l) ts us (joining-link l) h i
]

-- an operator follows an operand exactly if it stands directly after it
abbrev pub Told : List Token → Type 0
Told ts = (b : Bool) (us : List Token) → Ended b us → followed (ts ++ us) ≡ b

pub told-alone : (n : List ℕ) → Told (name n ∷ [])
unfolding follows role_of
told-alone n b us x = past-ended x

pub told-number : (z : ℤ) → Told (number z ∷ [])
unfolding follows role_of
told-number z b us x = past-ended x

pub told-subscript : (n : List ℕ) {ts : List Token} {e : Syn} → Phrase ts e → Told (name n ∷ square-open ∷ (ts ++ (square-close ∷ [])))
unfolding follows followed_past role_of
told-subscript n {ts} p b us x = ap (past 1) (append_assoc ts (square-close ∷ []) us) ∙ skips p 0 (square-close ∷ us) ∙ past-ended x

pub told-bracket : {ts : List Token} {e : Syn} → Phrase ts e → Told (round-open ∷ (ts ++ (round-close ∷ [])))
unfolding follows followed_past role_of
told-bracket {ts} p b us x = ap (past 1) (append_assoc ts (round-close ∷ []) us) ∙ skips p 0 (round-close ∷ us) ∙ past-ended x
