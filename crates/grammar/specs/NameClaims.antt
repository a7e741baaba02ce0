-- Names in order, as relations: which names a line uses, and what is at fault on a line (13).
use Rattle.std.specs.Prelude.{◌≡◌, true, false, ◌≢◌, List, ℕ, suc, ◌<◌, ℤ, pos, length}
use Rattle.std.proofs.Math.Option.{some}
use Rattle.std.proofs.Math.ListN.{get_elem?}
use Rattle.meaning.specs.Basics.{Lowest}
use Rattle.grammar.specs.Grammar.{Syn, bare, at, monadic, dyadic}
use Rattle.grammar.specs.Outline.{Declaration, variable, channel, source, sink, OutlineLine, declare, assign, input, output, while, test, guarded, allowed, Lined, lined}
use Rattle.grammar.specs.Names.{Sort, as-variable, as-input, as-output, Use, use_of, names_fault}

-- a use in an expression
pub data UsedIn : Syn → Use → Type 0 where
  bare-there : {n : List ℕ} → UsedIn (bare n) (use_of n true as-variable)
  with-subscript : {n : List ℕ} {e : Syn} → UsedIn (at n e) (use_of n false as-variable)
  in-subscript : {n : List ℕ} {e : Syn} {u : Use} → UsedIn e u → UsedIn (at n e) u
  in-operand : {k : ℕ} {e : Syn} {u : Use} → UsedIn e u → UsedIn (monadic k e) u
  in-first : {k : ℕ} {e f : Syn} {u : Use} → UsedIn e u → UsedIn (dyadic k e f) u
  in-second : {k : ℕ} {e f : Syn} {u : Use} → UsedIn f u → UsedIn (dyadic k e f) u

-- a use in an element
pub data ElementUsed (s : Sort) : Syn → Use → Type 0 where
  bare-element : {n : List ℕ} → ElementUsed s (bare n) (use_of n true s)
  element-at : {n : List ℕ} {e : Syn} → ElementUsed s (at n e) (use_of n false s)
  in-its-subscript : {n : List ℕ} {e : Syn} {u : Use} → UsedIn e u → ElementUsed s (at n e) u

-- a use in a line
pub data UsedOn : OutlineLine → Use → Type 0 where
  target-used : {a e : Syn} {u : Use} → ElementUsed as-variable a u → UsedOn (assign a e) u
  value-used : {a e : Syn} {u : Use} → UsedIn e u → UsedOn (assign a e) u
  input-used : {c a : Syn} {u : Use} → ElementUsed as-input c u → UsedOn (input c a) u
  input-target-used : {c a : Syn} {u : Use} → ElementUsed as-variable a u → UsedOn (input c a) u
  output-used : {c e : Syn} {u : Use} → ElementUsed as-output c u → UsedOn (output c e) u
  sent-used : {c e : Syn} {u : Use} → UsedIn e u → UsedOn (output c e) u
  while-used : {e : Syn} {u : Use} → UsedIn e u → UsedOn (while e) u
  test-used : {e : Syn} {u : Use} → UsedIn e u → UsedOn (test e) u
  guard-used : {e c a : Syn} {u : Use} → UsedIn e u → UsedOn (guarded e c a) u
  guard-input-used : {e c a : Syn} {u : Use} → ElementUsed as-input c u → UsedOn (guarded e c a) u
  guard-target-used : {e c a : Syn} {u : Use} → ElementUsed as-variable a u → UsedOn (guarded e c a) u
  allowed-used : {e : Syn} {u : Use} → UsedIn e u → UsedOn (allowed e) u

-- a declaration of a name, with its size
pub data Declares : Declaration → List ℕ → ℤ → Type 0 where
  a-variable : {z : ℤ} {n : List ℕ} → Declares (variable z n) n z
  a-channel : {z : ℤ} {n : List ℕ} → Declares (channel z n) n z
  a-source : {n : List ℕ} → Declares (source n) n (pos 1)
  a-sink : {z : ℤ} {n : List ℕ} → Declares (sink z n) n (pos 1)

-- what a declared name may be used as
pub data Serves : Declaration → Sort → Type 0 where
  variable-serves : {z : ℤ} {n : List ℕ} → Serves (variable z n) as-variable
  channel-gives : {z : ℤ} {n : List ℕ} → Serves (channel z n) as-input
  channel-takes : {z : ℤ} {n : List ℕ} → Serves (channel z n) as-output
  source-gives : {n : List ℕ} → Serves (source n) as-input
  sink-takes : {z : ℤ} {n : List ℕ} → Serves (sink z n) as-output

module _ (ls : List Lined) where
  -- line i + 1 is a declaration of a name
  abbrev pub DeclaredOn : ℕ → List ℕ → Declaration → ℤ → Type 0
  DeclaredOn i n d z = (l : ℕ) × (get_elem? ls i ≡ some (lined l (declare d))) × Declares d n z

  -- the first one
  pub record FirstOn (i : ℕ) (n : List ℕ) (d : Declaration) (z : ℤ) : Type 0 where
    pub declared : DeclaredOn i n d z
    pub none_before : (j : ℕ) → j < i → (c : Declaration) (y : ℤ) → ¬ DeclaredOn j n c y

  -- line i + 1 uses a name
  abbrev pub UsedAt : ℕ → Use → Type 0
  UsedAt i u = (l : ℕ) × ((x : OutlineLine) × (get_elem? ls i ≡ some (lined l x)) × UsedOn x u)

  -- "a name nowhere declared, declared again, of the wrong sort or role, or bare though its size is not one": of a name that is declared again the first declaration counts
  pub data Misnamed : ℕ → Type 0 where
    again : {i j : ℕ} {n : List ℕ} {c d : Declaration} {y z : ℤ} → j < i → DeclaredOn j n c y → DeclaredOn i n d z → Misnamed (suc i)
    nowhere : {i : ℕ} {u : Use} → UsedAt i u → ((j : ℕ) (d : Declaration) (z : ℤ) → ¬ DeclaredOn j u.named d z) → Misnamed (suc i)
    other-sort : {i j : ℕ} {u : Use} {d : Declaration} {z : ℤ} → UsedAt i u → FirstOn j u.named d z → ¬ Serves d u.sort → Misnamed (suc i)
    not-one : {i j : ℕ} {u : Use} {d : Declaration} {z : ℤ} → UsedAt i u → FirstOn j u.named d z → u.bare-name ≡ true → z ≢ pos 1 → Misnamed (suc i)

-- 13 is given at the lowest line on which names are not in order, and not at all if they are in order on every line
abbrev pub NamesExactly : Type 0
NamesExactly = (ls : List Lined) → Lowest (Misnamed ls) (suc (length ls)) (names_fault ls)
