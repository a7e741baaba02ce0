-- A list laid over a lent one from a place on.
use Rattle.std.specs.Prelude.{List, ◌++◌, ℕ, ◌+◌, length, take, drop}

-- what stood there before and after it stays
unfoldable pub overlay : {A : Type 0} → List A → ℕ → List A → List A
overlay lent p xs = take p lent ++ (xs ++ drop (p + length xs) lent)
