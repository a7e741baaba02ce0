-- What a token does to the operands that are open.
use mathlib.Core.Path.{◌≡◌, refl, sym, ap, ◌∙◌}
use mathlib.Core.Bool.{Bool, true, false, false≢true}
use mathlib.Core.List.{List, ◌∷◌}
use Prim.Native.Nat.{ℕ, zero, suc, ◌-◌, ◌<◌}
use native.Mathlib.Omega.{arith}
use Rattle.meaning.specs.Basics.{if_else}
use Rattle.read_marks.specs.declared.Role.{Role}
use Rattle.read_marks.specs.declared.Role.TheVariants.{Operand, RoundOpening, SquareOpening, Closing, Between, Other}
use Rattle.read_marks.specs.Roles.{role_of, had_after, depth_after, is_between}
use Rattle.read_marks.specs.Follows.{past_token, followed_past, follows_token}
use Rattle.read_marks.proofs.WalkLaws.{MayStand}

-- how many operands are open: one for each open bracket, and the one that has just been read
abbrev pub opened : Bool → ℕ → ℕ
opened had d = if_else had (suc d) d

-- a bracket deeper or less, seen from below
below-depth : (r : Role) (d i x : ℕ) → d - i ≡ suc x → depth_after r (suc x) ≡ depth_after r d - i
below-depth Operand d i x e = sym e
below-depth RoundOpening d i x e = omega (arith, e)
below-depth SquareOpening d i x e = omega (arith, e)
below-depth Closing zero i x e = absurd (omega (arith, e))
below-depth Closing (suc d) i x e = omega (arith, e)
below-depth Between d i x e = sym e
below-depth Other d i x e = sym e

below-token : (r : Role) (x : ℕ) (later : ℕ → Bool) → past_token r (suc x) later ≡ later (depth_after r (suc x))
below-token Operand x later = refl
below-token RoundOpening x later = refl
below-token SquareOpening x later = refl
below-token Closing x later = refl
below-token Between x later = refl
below-token Other x later = refl

pub past-below : (s : ℕ) (rest : List ℕ) (d i : ℕ) → i < d → followed_past (d - i) (s ∷ rest) ≡ followed_past (depth_after (role_of s) d - i) rest
unfolding followed_past
past-below s rest d i h = go (d - i) refl
  where
    go : (x : ℕ) → d - i ≡ x → past_token (role_of s) x (λ e. followed_past e rest) ≡ followed_past (depth_after (role_of s) d - i) rest
    go zero e = absurd (omega (arith, e, h))
    go (suc x) e = below-token (role_of s) x (λ e. followed_past e rest) ∙ ap (λ (y : ℕ). followed_past y rest) (below-depth (role_of s) d i x e)

-- whether the operand at a token goes on after it
abbrev pub lasts : Role → Bool
lasts Operand = true
lasts RoundOpening = true
lasts SquareOpening = true
lasts Closing = false
lasts Between = false
lasts Other = false

pub opened_after : (r : Role) (had : Bool) (d : ℕ) → MayStand had d r → opened (had_after r) (depth_after r d) ≡ opened (lasts r) d
opened_after Operand had d m = refl
opened_after RoundOpening had d m = refl
opened_after SquareOpening had d m = refl
opened_after Closing false d m = absurd m
opened_after Closing true zero m = absurd (omega (arith, m))
opened_after Closing true (suc d) m = refl
opened_after Between had d m = refl
opened_after Other had d m = refl

-- what is said of the operand that begins at, or goes on to, a token
module _ (rest : List ℕ) (d : ℕ) where
  pub goes_on : (r : Role) → MayStand true d r → lasts r ≡ true → past_token r 0 (λ e. followed_past e rest) ≡ followed_past (depth_after r d - d) rest
  goes_on Operand m l = absurd m
  goes_on RoundOpening m l = absurd m
  goes_on SquareOpening m l = ap (λ (y : ℕ). followed_past y rest) (omega arith)
  goes_on Closing m l = absurd (false≢true l)
  goes_on Between m l = absurd (false≢true l)
  goes_on Other m l = absurd (false≢true l)

  pub begins : (r : Role) → MayStand false d r → lasts r ≡ true → follows_token r rest ≡ followed_past (depth_after r d - d) rest
  begins Operand m l = ap (λ (y : ℕ). followed_past y rest) (omega arith)
  begins RoundOpening m l = ap (λ (y : ℕ). followed_past y rest) (omega arith)
  begins SquareOpening m l = absurd m
  begins Closing m l = absurd m
  begins Between m l = absurd (false≢true l)
  begins Other m l = absurd (false≢true l)

  -- a token where no operand begins that goes on
  pub begins-none : (r : Role) → MayStand false d r → lasts r ≡ false → follows_token r rest ≡ false
  begins-none Operand m l = absurd (false≢true (sym l))
  begins-none RoundOpening m l = absurd (false≢true (sym l))
  begins-none SquareOpening m l = absurd m
  begins-none Closing m l = absurd m
  begins-none Between m l = refl
  begins-none Other m l = refl

  pub after_none : (r : Role) → MayStand true d r → follows_token r rest ≡ false
  after_none Operand m = absurd m
  after_none RoundOpening m = absurd m
  after_none SquareOpening m = refl
  after_none Closing m = refl
  after_none Between m = refl
  after_none Other m = refl

  -- where the operand ends
  pub ends_at : (r : Role) → MayStand true d r → lasts r ≡ false → past_token r 0 (λ e. followed_past e rest) ≡ is_between r
  ends_at Operand m l = absurd m
  ends_at RoundOpening m l = absurd m
  ends_at SquareOpening m l = absurd (false≢true (sym l))
  ends_at Closing m l = refl
  ends_at Between m l = refl
  ends_at Other m l = refl

-- an operator ends the operand before it
pub lasts-between : (r : Role) → is_between r ≡ true → lasts r ≡ false
lasts-between Operand e = absurd (false≢true e)
lasts-between RoundOpening e = absurd (false≢true e)
lasts-between SquareOpening e = absurd (false≢true e)
lasts-between Closing e = refl
lasts-between Between e = refl
lasts-between Other e = refl
