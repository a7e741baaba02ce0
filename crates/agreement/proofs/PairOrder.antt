-- The order of pairs: none goes before itself, nor two before each other; lists in order, one after the other.
use mathlib.Core.Path.{refl}
use mathlib.Core.Logic.{⊎_elim}
use mathlib.Core.List.Memᴰ
use mathlib.Core.List.{List, [], ◌∷◌, ◌++◌, Memᴰ}
use native.Mathlib.Omega.{arith}
use Rattle.meaning.specs.MemberPairs.{MemberPair, Earlier, by_number, by_row, by_first, by-second, InOrder}

pub not-both : {x y : MemberPair} → Earlier x y → Earlier y x → ⊥
not-both (by_number a) (by_number b) = omega arith
not-both (by_number a) (by_row b c) = omega arith
not-both (by_number a) (by_first b c d) = omega arith
not-both (by_number a) (by-second b c d e) = omega arith
not-both (by_row f a) (by_number b) = omega arith
not-both (by_row f a) (by_row b c) = omega arith
not-both (by_row f a) (by_first b c d) = omega arith
not-both (by_row f a) (by-second b c d e) = omega arith
not-both (by_first f g a) (by_number b) = omega arith
not-both (by_first f g a) (by_row b c) = omega arith
not-both (by_first f g a) (by_first b c d) = omega arith
not-both (by_first f g a) (by-second b c d e) = omega arith
not-both (by-second f g h a) (by_number b) = omega arith
not-both (by-second f g h a) (by_row b c) = omega arith
not-both (by-second f g h a) (by_first b c d) = omega arith
not-both (by-second f g h a) (by-second b c d e) = omega arith

pub in-order-append : (l m : List MemberPair) → InOrder l → InOrder m → ((x y : MemberPair) → Memᴰ x l → Memᴰ y m → Earlier x y) → InOrder (l ++ m)
in-order-append [] m h g f = g
in-order-append (x ∷ l) m h g f = (
  λ y i. ⊎_elim (h.0 y) (f x y (Memᴰ.head refl)) (Memᴰ.append_cases l i),
  in-order-append l m h.1 g (λ z y i. f z y (Memᴰ.tail i)),
)
