-- Listed names chained by their keys: of each key the first name that has it, of each name the next one with the same key.
use Rattle.std.specs.Prelude.{◌≡◌, List, [], ◌∷◌, ℕ, suc, ◌+◌, ◌*◌, ◌%◌, ◌≤◌, ◌<◌, length, get_or, drop, eqb}
use Rattle.meaning.specs.Basics.{if_else}

-- how many keys there are
abbrev pub key_limit : ℕ
key_limit = 4096

-- the key of a name: its bytes as digits to the base 33, modulo the number of keys
unfoldable pub key_from : ℕ → List ℕ → ℕ
key_from k [] = k
key_from k (b ∷ bs) = key_from ((33 * k + b) % key_limit) bs

abbrev pub key_of : List ℕ → ℕ
key_of name = key_from 0 name

-- one more than the number of the first name with a key, the names numbered from i; 0 if none has it
unfoldable pub first_keyed : ℕ → ℕ → List (List ℕ) → ℕ
first_keyed key i [] = 0
first_keyed key i (n ∷ ns) = let later = first_keyed key (suc i) ns in if_else (eqb (key_of n) key) (suc i) later

-- the same among the names from number i on
abbrev pub keyed_from : List (List ℕ) → ℕ → ℕ → ℕ
keyed_from names key i = first_keyed key i (drop i names)

-- the names from number `at` on are chained
pub record IndexedFrom (names : List (List ℕ)) (at : ℕ) (heads nexts : List ℕ) : Type 0 where
  pub heads-counted : length heads ≡ key_limit
  pub nexts-long : length names ≤ length nexts
  pub headed : (key : ℕ) → key < key_limit → get_or heads key 0 ≡ keyed_from names key at
  pub chained : (i : ℕ) → at ≤ i → i < length names → get_or nexts i 0 ≡ keyed_from names (key_of (get_or names i [])) (suc i)

-- all are
abbrev pub Indexed : List (List ℕ) → List ℕ → List ℕ → Type 0
Indexed names heads nexts = IndexedFrom names 0 heads nexts
