-- A read of the host, from one more than the channel's number.
use mathlib.Core.Path.{◌≡◌, refl, sym, ap, ◌∙◌}
use mathlib.Core.Bool.{Bool, true}
use mathlib.Core.List.{List}
use Prim.Native.Nat.{ℕ, zero, suc, ◌-◌}
use native.Mathlib.Omega.{arith}
use lib.ListN.{get_or}
use lib.Dec.{ltb}
use Rattle.meaning.specs.Basics.{if_else}
use Rattle.run_intents.specs.declared.Does.{Does}
use Rattle.run_intents.specs.declared.Does.TheVariants.{Waits, Reads}
use Rattle.run_intents.specs.Does.{on_host, host_read}

-- a note that is not 0 is of a host channel
on-host : (n : ℕ) (f : ℕ → Does) (d : Does) → (n ≡ 0 → ⊥) → f (n - 1) ≡ on_host n f d
on-host zero f d h = absurd (h refl)
on-host (suc n) f d h = let e : suc n - 1 ≡ n = omega arith in ap f e

pub read_left : (places : List ℕ) (lines n a : ℕ) (d : Does) → (n ≡ 0 → ⊥) → ltb (get_or places (n - 1) 0) lines ≡ true → Reads a (n - 1) ≡ on_host n (host_read places lines a) d
read_left places lines n a d h e = ap (λ (t : Bool). if_else t (Reads a (n - 1)) Waits) (sym e) ∙ on-host n (host_read places lines a) d h
