-- Usage in a PAR as relations on the rows: "there is a row beneath the process such that", with no walk and no order.
use Rattle.std.specs.Prelude.{◌≡◌, ◌≢◌, ◌⊎◌, ℕ, ◌<◌, ℤ, pos}
use mathlib.Core.List.{List, [], ◌∷◌, Memᴰ}
use Rattle.meaning.specs.declared.Node.TheVariants.{Literal, Element, Monadic, Dyadic, Assignment, Input, Output}
use Rattle.meaning.specs.Rows.{kind_at}
use Rattle.meaning.specs.Declarations.{cells_at, elements_at}
use Rattle.meaning.specs.Nodes.{node_at}
use Rattle.meaning.specs.declared.Value.TheVariants.{Number}
use Rattle.meaning.specs.References.{of-a, of-b, Refers, Beneath}
use Rattle.meaning.specs.Values.{monadic_of, operate}

module _ (rows : List ℤ) where
  -- row r is the row of process p, or one beneath it: "with all beneath them"
  abbrev pub Within : ℕ → ℕ → Type 0
  Within p r = (r ≡ p) ⊎ Beneath rows p r

  -- the members of the PAR at row r: "a first member", and of each member "b next"
  pub data IsMember (r : ℕ) : ℕ → Type 0 where
    member-first : {m : ℕ} → kind_at rows r ≡ 31 → Refers rows r of-a m → IsMember r m
    member-next : {m n : ℕ} → IsMember r m → Refers rows m of-b n → IsMember r n

  -- "The components of a PAR are its members' processes": of two different members
  pub data Components (r p q : ℕ) : Type 0 where
    components : {m n : ℕ} → IsMember r m → IsMember r n → m ≢ n → Refers rows m of-a p → Refers rows n of-a q → Components r p q

  -- "made only of literals and operators": every row of it is a literal (10), a monadic (12) or a dyadic (13)
  abbrev pub Constant : ℕ → Type 0
  Constant b = (r : ℕ) → Within b r → Memᴰ (kind_at rows r) (10 ∷ 12 ∷ 13 ∷ [])

  -- literals and operators give the expression at row b the value x: "AND with a false first operand and OR with a true one don't look at the second"
  pub data HasValue : ℕ → ℤ → Type 0 where
    literal-value : {b : ℕ} {x : ℤ} → node_at rows b ≡ Literal x → HasValue b x
    monadic-value : {b op c : ℕ} {x y : ℤ} → node_at rows b ≡ Monadic op c → HasValue c x → monadic_of op x ≡ Number y → HasValue b y
    dyadic-value : {b op c d : ℕ} {x y z : ℤ} → node_at rows b ≡ Dyadic op c d → HasValue c x → HasValue d y → operate op x y ≡ Number z → HasValue b z
    and-false : {b c d : ℕ} → node_at rows b ≡ Dyadic 14 c d → HasValue c (pos 0) → HasValue b (pos 0)
    or-true : {b c d : ℕ} {x : ℤ} → node_at rows b ≡ Dyadic 15 c d → HasValue c x → x ≢ pos 0 → HasValue b (pos 1)

  -- the numbers of an array of n that the subscript at row b counts for: a constant "counts as its value", and for nothing if that is outside the
  -- array; "If it has no value it counts as every number of the name", as any other does
  pub data Counts (n b i : ℕ) : Type 0 where
    its-value : Constant b → HasValue b (pos i) → i < n → Counts n b i
    every-number : ((x : ℤ) → Constant b → ¬ HasValue b x) → i < n → Counts n b i

-- by a rule: `Rule n b i` says that the subscript at row b counts for number i of an array of n
module _ (rows : List ℤ) (Rule : ℕ → ℕ → ℕ → Type 0) where
  -- row r changes cell i of the variable v: an assignment, or an input with that target
  pub data Changes (r v i : ℕ) : Type 0 where
    changed-by-assignment : {b c : ℕ} → node_at rows r ≡ Assignment v b c → Rule (cells_at rows v) b i → Changes r v i
    changed-by-input : {a b c d : ℕ} → node_at rows r ≡ Input a b c → node_at rows c ≡ Element v d → Rule (cells_at rows v) d i → Changes r v i

  -- row r is an element of the variable v, with a subscript that counts for cell i
  pub data Stands (r v i : ℕ) : Type 0 where
    stands : {b : ℕ} → node_at rows r ≡ Element v b → Rule (cells_at rows v) b i → Stands r v i

  -- row r inputs from, outputs to element i of the channel c
  pub data Inputs (r c i : ℕ) : Type 0 where
    input-row : {b d : ℕ} → node_at rows r ≡ Input c b d → Rule (elements_at rows c) b i → Inputs r c i

  pub data Outputs (r c i : ℕ) : Type 0 where
    output_row : {b d : ℕ} → node_at rows r ≡ Output c b d → Rule (elements_at rows c) b i → Outputs r c i

  -- a cell is changed in, used in a process; a channel element is input from, output to in it
  abbrev pub Changed : ℕ → ℕ → ℕ → Type 0
  Changed p v i = (r : ℕ) × Within rows p r × Changes r v i

  abbrev pub Used : ℕ → ℕ → ℕ → Type 0
  Used p v i = Changed p v i ⊎ ((r : ℕ) × Within rows p r × Stands r v i)

  abbrev pub InputFrom : ℕ → ℕ → ℕ → Type 0
  InputFrom p c i = (r : ℕ) × Within rows p r × Inputs r c i

  abbrev pub OutputTo : ℕ → ℕ → ℕ → Type 0
  OutputTo p c i = (r : ℕ) × Within rows p r × Outputs r c i

  -- the PAR at row r has a clash that the refusal of this number names
  pub data ClashBy (r : ℕ) : ℕ → Type 0 where
    cell-clash : {p q v i : ℕ} → Components rows r p q → Changed p v i → Used q v i → ClashBy r 7
    input-clash : {p q c i : ℕ} → Components rows r p q → InputFrom p c i → InputFrom q c i → ClashBy r 8
    output-clash : {p q c i : ℕ} → Components rows r p q → OutputTo p c i → OutputTo q c i → ClashBy r 9

-- the rule is that of constants
abbrev pub Clash : List ℤ → ℕ → ℕ → Type 0
Clash rows = ClashBy rows (Counts rows)
