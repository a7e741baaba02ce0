-- The tokens of an expression one by one: where an operand is wanted none has just been read, and a bracket that closes has been opened.
use mathlib.Core.Path.{sym, subst}
use mathlib.Core.Bool.{Bool, true, false}
use mathlib.Core.List.{List, [], ◌∷◌, ◌++◌, map, append_assoc, append-nil}
use Prim.Native.Nat.{ℕ, suc, ◌<◌}
use native.Mathlib.Omega.{arith}
use lib.IntN.{ℤ}
use Rattle.grammar.specs.Grammar.{Token, name, number, given, joins, round-open, round-close, square-open, square-close, Syn, Before, minus-before, not-before, alone, subscripted, element, numeral, bracketed, Phrase, plain, prefixed, asked, paired, chained, last-operand, more}
use Rattle.read_tokens.specs.Held.{token_sort}
use Rattle.read_marks.specs.declared.Role.{Role}
use Rattle.read_marks.specs.declared.Role.TheVariants.{Operand, RoundOpening, SquareOpening, Closing, Between, Other}
use Rattle.read_marks.specs.Roles.{role_of, had_after, depth_after}
use Rattle.read_marks.proofs.FollowLaws.{Joining, joining-link, joining-between}

-- whether a token of a role may stand: where an operand has been read or not, with so many open brackets
abbrev pub MayStand : Bool → ℕ → Role → Type 0
MayStand false d Operand = Unit {0}
MayStand false d RoundOpening = Unit {0}
MayStand false d SquareOpening = ⊥
MayStand false d Closing = ⊥
MayStand false d Between = Unit {0}
MayStand false d Other = Unit {0}
MayStand true d Operand = ⊥
MayStand true d RoundOpening = ⊥
MayStand true d SquareOpening = Unit {0}
MayStand true d Closing = 0 < d
MayStand true d Between = Unit {0}
MayStand true d Other = Unit {0}

-- each token of some sorts may stand
unfoldable pub Walks : Bool → ℕ → List ℕ → Type 0
Walks had d [] = Unit {0}
Walks had d (s ∷ ss) = MayStand had d (role_of s) × Walks (had_after (role_of s)) (depth_after (role_of s) d) ss

-- from where an operand is wanted to where it has been read
abbrev WalkTo : List Token → Type 0
WalkTo ts = (d : ℕ) (us : List Token) → Walks true d (map token_sort us) → Walks false d (map token_sort (ts ++ us))

walk-name : (n : List ℕ) → WalkTo (name n ∷ [])
unfolding Walks role_of
walk-name n d us w = (tt, w)

walk-number : (z : ℤ) → WalkTo (number z ∷ [])
unfolding Walks role_of
walk-number z d us w = (tt, w)

walk-subscript : (n : List ℕ) (ts : List Token) → WalkTo ts → WalkTo (name n ∷ square-open ∷ (ts ++ (square-close ∷ [])))
unfolding Walks role_of
walk-subscript n ts p d us w = (tt, (tt, subst (λ (l : List Token). Walks false (suc d) (map token_sort l)) (sym (append_assoc ts (square-close ∷ []) us)) (p (suc d) (square-close ∷ us) (omega arith, w))))

walk-bracket : (ts : List Token) → WalkTo ts → WalkTo (round-open ∷ (ts ++ (round-close ∷ [])))
unfolding Walks role_of
walk-bracket ts p d us w = (tt, subst (λ (l : List Token). Walks false (suc d) (map token_sort l)) (sym (append_assoc ts (round-close ∷ []) us)) (p (suc d) (round-close ∷ us) (omega arith, w)))

walk-prefix : (t : Token) (k : ℕ) (ts : List Token) → Before t k → WalkTo ts → WalkTo (t ∷ ts)
unfolding Walks role_of
walk-prefix t k ts minus-before p d us w = (tt, p d us w)
walk-prefix t k ts not-before p d us w = (tt, p d us w)

walk-given : (ts : List Token) → WalkTo ts → WalkTo (given ∷ ts)
unfolding Walks role_of
walk-given ts p d us w = (tt, p d us w)

walk-infix : (t : Token) (ts vs : List Token) → Joining t → WalkTo ts → WalkTo vs → WalkTo (ts ++ (t ∷ vs))
unfolding Walks
walk-infix t ts vs j p q d us w = subst (λ (l : List Token). Walks false d (map token_sort l)) (sym (append_assoc ts (t ∷ vs) us)) (p d (t ∷ (vs ++ us)) (rw j (tt, q d us w)))

walk-to : {ts : List Token} {e : Syn} → Phrase ts e → WalkTo ts
walk-to p = elim p as (λ ts e q. WalkTo ts) (λ ts e q. WalkTo ts) (λ ts e q. WalkTo ts) (λ l ts e q. WalkTo ts) [
  | alone {n} ↦ walk-name n
  | subscripted {n} {ts} {e} (q → h) ↦ walk-subscript n ts h
  | element (q → h) ↦ h
  | numeral {z} ↦ walk-number z
  | bracketed {ts} {e} (q → h) ↦ walk-bracket ts h
  | plain {ts} {e} (q → h) ↦ h
  | prefixed {t} {k} {ts} {e} b (q → h) ↦ walk-prefix t k ts b h
  | asked {ts} {e} (q → h) ↦ walk-given ts h
  | paired {t} {k} {ts} {us} {e} {f} (q → h) b (u → i) ↦ walk-infix t ts us (joining-between b) h i
  | chained {l} {ts} {us} {e} {f} (q → h) (c → i) ↦ walk-infix (joins l) ts us (joining-link l) h i
  | last-operand {l} {ts} {e} (q → h) ↦ h
  | more {l} {ts} {us} {e} {f} (q → h) (c → i) ↦ walk-infix (joins l) ts us (joining-link l) h i
]

pub phrase-walks : {ts : List Token} {e : Syn} → Phrase ts e → Walks false 0 (map token_sort ts)
unfolding Walks
phrase-walks {ts} p = subst (λ (l : List Token). Walks false 0 (map token_sort l)) (append-nil ts) (walk-to p 0 [] tt)
