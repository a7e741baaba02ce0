-- What the loop that marks tokens keeps.
use mathlib.Core.Path.{◌≡◌, refl, sym, subst}
use mathlib.Core.Bool.{Bool, true, false, false≢true}
use mathlib.Core.List.{List, ◌∷◌, map}
use mathlib.Core.Option.{Option, none, some}
use Prim.Native.Nat.{ℕ, zero, suc, ◌+◌, ◌≤◌, ◌<◌}
use native.Mathlib.Omega.{arith}
use lib.ListN.{length, get_or, drop, drop_of_length-le}
use lib.Seq.{drop-cons}
use Rattle.meaning.specs.Basics.{is_some}
use Rattle.grammar.specs.Grammar.{Syn}
use Rattle.grammar.specs.Machine.{phrase}
use Rattle.grammar.proofs.Sound.{sound}
use Rattle.read_tokens.specs.Held.{token_sort}
use Rattle.read_marks.specs.declared.Role.{Role}
use Rattle.read_marks.specs.declared.Role.TheVariants.{Operand, RoundOpening, SquareOpening, Closing, Between, Other}
use Rattle.read_marks.specs.Roles.{role_of, had_after, depth_after}
use Rattle.read_marks.specs.Marks.{PhraseSorts, Marked, starts_after, marks_after}
use Rattle.read_marks.proofs.WalkLaws.{MayStand, Walks, phrase-walks}
use Rattle.read_marks.proofs.PastSteps.{opened}
use Rattle.read_marks.proofs.MarkSteps.{Marking, marks_begin, marks-step, marks-end}

pub record MarkLoop (sorts : List ℕ) (k d : ℕ) (had : Bool) (starts marks : List ℕ) : Type 0 where
  pub marking : Marking sorts (drop k sorts) k d had starts marks
  pub low : d ≤ k

-- a bracket that closes has been opened
closing-open : (had : Bool) (d : ℕ) (r : Role) → MayStand had d r → r ≡ Closing → 0 < d
closing-open had d r m e = go had (subst (MayStand had d) e m)
  where
    go : (b : Bool) → MayStand b d Closing → 0 < d
    go false x = absurd x
    go true x = x

one_more : (r : Role) (d : ℕ) → depth_after r d ≤ suc d
one_more Operand d = omega arith
one_more RoundOpening d = omega arith
one_more SquareOpening d = omega arith
one_more Closing zero = omega arith
one_more Closing (suc d) = omega arith
one_more Between d = omega arith
one_more Other d = omega arith

-- the tokens of an expression may stand
sorts-walk : (sorts : List ℕ) → PhraseSorts sorts → Walks false 0 sorts
sorts-walk sorts (ts, same, h) = subst (Walks false 0) (sym same) (go (phrase ts) (λ e q. phrase-walks (sound ts e q)) h)
  where
    go : (o : Option Syn) → ((e : Syn) → o ≡ some e → Walks false 0 (map token_sort ts)) → is_some o ≡ true → Walks false 0 (map token_sort ts)
    go none f h = absurd (false≢true h)
    go (some e) f h = f e refl

pub mark-begin : (sorts starts marks : List ℕ) → PhraseSorts sorts → MarkLoop sorts 0 0 false starts marks
mark-begin sorts starts marks p = record { marking = marks_begin sorts starts marks (sorts-walk sorts p); low = omega arith }

module _ (sorts : List ℕ) (k d : ℕ) (had : Bool) (starts marks : List ℕ) (m : MarkLoop sorts k d had starts marks) where
  -- no token is left
  pub all-marked : length sorts ≤ k → Marked sorts marks
  all-marked h = marks-end sorts k d had starts marks (subst (λ (r : List ℕ). Marking sorts r k d had starts marks) (drop_of_length-le sorts h) m.marking)

  -- the operand that has been read begins with a token before
  pub start-before : had ≡ true → get_or starts d 0 < k
  start-before e = (m.marking.begun d (subst (λ (b : Bool). d < opened b d) (sym e) (omega arith))).0

  module _ (more : k < length sorts) where
    abbrev role : Role
    role = role_of (get_or sorts k 0)

    here : Marking sorts (get_or sorts k 0 ∷ drop (suc k) sorts) k d had starts marks
    here = subst (λ (r : List ℕ). Marking sorts r k d had starts marks) (drop-cons sorts k 0 more) m.marking

    pub bracket-open : role ≡ Closing → 0 < d
    unfolding Walks
    bracket-open e = closing-open had d role here.walks.0 e

    pub mark-again : (depth : ℕ) (read : Bool) (begun marked : List ℕ) → d < length starts → k < length marks
        → depth ≡ depth_after role d → read ≡ had_after role → begun ≡ starts_after had k d starts → marked ≡ marks_after had role k d starts marks
        → MarkLoop sorts (k + 1) depth read begun marked
    mark-again depth read begun marked h g e i p q =
        let s : suc k ≡ k + 1 = omega arith in
        let next = marks-step had sorts (get_or sorts k 0) (drop (suc k) sorts) k d starts marks h g here in
        record {
          marking = rw (s, sym e, sym i, sym p, sym q) at next;
          low = omega (arith, m.low, e, one_more role d);
        }
