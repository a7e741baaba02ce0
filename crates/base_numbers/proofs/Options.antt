-- The code's `Option` and the one of the definitions: what one is, the other is.
use mathlib.Core.Path.{◌≡◌, refl, ap}
use mathlib.Core.Option.{Option, none, some, some-injective}
use Rattle.std.specs.Prelude.{Some, None}
use Rattle.base_numbers.specs.Reading.{option_of}

pub none-is : {A : Type 0} (o : Option A) → None ≡ option_of o → o ≡ none
none-is none e = refl
none-is (some x) e = cc

pub some-is : {A : Type 0} (o : Option A) (x : A) → Some x ≡ option_of o → o ≡ some x
some-is none x e = cc
some-is (some y) x e = cc

pub pair-is : {A B : Type 0} (x y : A) (p q : B) → ◌≡◌ {A = Option (A × B)} (some (x, p)) (some (y, q)) → (x ≡ y) × (p ≡ q)
pair-is {A} {B} x y p q e =
    let pair = some-injective (x, p) (y, q) e in
    (ap {A = A × B} (λ w. w.0) pair, ap {A = A × B} (λ w. w.1) pair)
