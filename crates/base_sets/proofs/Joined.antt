-- A set joined to another: to join the set of a list is to put that list in.
use mathlib.Core.Path.{◌≡◌, refl, sym, ap, ap₂, ◌∙◌}
use mathlib.Core.Bool.{Bool, true, false}
use mathlib.Core.List.{List, [], ◌∷◌}
use Prim.Native.Nat.{ℕ, zero, suc, ◌+◌, ◌*◌, ◌/◌, ◌%◌, ◌^◌}
use native.Mathlib.Omega.{arith}
use lib.ListN.{length, get_or, set, replicate}
use lib.Dec.{ltb}
use lib.Bits.{bit_or, or_zero_r}
use Rattle.meaning.specs.Basics.{if_else}
use Rattle.base_sets.specs.Sets.{with_one, with_all, set_union, no_numbers}
use Rattle.base_sets.proofs.Words.{or-words}
use Rattle.base_sets.proofs.Holds.{one-length, joined_at}

-- sets that hold nothing add nothing
pub nothing-joined : (ws : List ℕ) (n : ℕ) → set_union ws (replicate n 0) ≡ ws
unfolding set_union
nothing-joined [] n = refl
nothing-joined (w ∷ ws) zero = refl
nothing-joined (w ∷ ws) (suc n) = ap₂ (λ (v : ℕ) (vs : List ℕ). v ∷ vs) (or_zero_r w) (nothing-joined ws n)

-- a word more in the second
joined-set : (ws vs : List ℕ) (j w : ℕ) → length ws ≡ length vs → set_union ws (set vs j w) ≡ set (set_union ws vs) j (bit_or (get_or ws j 0) w)
unfolding set_union
joined-set [] vs j w e = refl
joined-set (u ∷ ws) [] j w e = absurd (omega arith)
joined-set (u ∷ ws) (v ∷ vs) zero w e = refl
joined-set (u ∷ ws) (v ∷ vs) (suc j) w e = ap (λ (us : List ℕ). bit_or u v ∷ us) (joined-set ws vs j w (omega arith))

joined-one : (ws vs : List ℕ) (s x : ℕ) → length ws ≡ length vs → set_union ws (with_one vs s x) ≡ with_one (set_union ws vs) s x
unfolding with_one
joined-one ws vs s x e = go (ltb x 256)
  where
    j : ℕ
    j = 4 * s + x / 64

    p : ℕ
    p = 2 ^ (x % 64)

    go : (b : Bool) → set_union ws (if_else b (set vs j (bit_or (get_or vs j 0) p)) vs) ≡ if_else b (set (set_union ws vs) j (bit_or (get_or (set_union ws vs) j 0) p)) (set_union ws vs)
    go true = joined-set ws vs j _ e ∙ ap (set (set_union ws vs) j) (sym (or-words (get_or ws j 0) (get_or vs j 0) p) ∙ ap (λ (w : ℕ). bit_or w p) (sym (joined_at ws vs e j)))
    go false = refl

joined-all : (ws vs l : List ℕ) → length ws ≡ length vs → set_union ws (with_all vs l) ≡ with_all (set_union ws vs) l
unfolding with_all
joined-all ws vs [] e = refl
joined-all ws vs (n ∷ l) e = joined-all ws (with_one vs (n % 4) (n / 4)) l (e ∙ sym (one-length vs (n % 4) (n / 4))) ∙ ap (λ (us : List ℕ). with_all us l) (joined-one ws vs (n % 4) (n / 4) e)

-- the set of a list joined to another is that list put in
pub joined-list : (ws l : List ℕ) → length ws ≡ 16 → set_union ws (with_all no_numbers l) ≡ with_all ws l
joined-list ws l e = joined-all ws no_numbers l e ∙ ap (λ (us : List ℕ). with_all us l) (nothing-joined ws 16)
