-- What a line does to the levels, by number: the levels are bytes, the shallowest first.
use Rattle.std.specs.Prelude as does
use Rattle.std.specs.Prelude.{Some, None, eqb, Bool, true, false, List, [], ◌∷◌, map, ℕ, zero, suc, ◌+◌, ◌*◌, ◌<◌, get_or, ltb}
use Rattle.std.proofs.Math.Option.{Option, none, some}
use Rattle.meaning.specs.Basics.{if_else}
use Rattle.grammar.specs.Outline.{Expect, members, choices, options, nothing, one-process, one-member, heads}
use Rattle.grammar.specs.Classes.{Class, variable-line, other-declaration, leaf, input-line, member-lines, choice-lines, option-lines, while-line, test-line, guard-line, beneath_by_class, after_by_class}
use Rattle.read_levels.specs.declared.Step.{Step}
use Rattle.read_levels.specs.Kinds.{expect_number}

-- Tables ----------------------------------------------------------------------------------------------------------------------------

-- where nothing may stand
abbrev pub none_number : ℕ
none_number = 7

-- the number of what is expected beneath a line, if it may stand
abbrev pub beneath_number : Option Expect → ℕ
beneath_number none = none_number
beneath_number (some e) = expect_number e

-- what may be expected, by number
abbrev pub expects : List Expect
expects = members ∷ choices ∷ options ∷ nothing ∷ one-process ∷ one-member ∷ heads ∷ []

-- the classes by number, from 1
abbrev pub classes : List Class
classes = variable-line ∷ other-declaration ∷ leaf ∷ input-line ∷ member-lines ∷ choice-lines ∷ option-lines ∷ while-line ∷ test-line ∷ guard-line ∷ []

-- a row for what is expected: first no line, and then each class
abbrev pub row_of : (Expect → Class → ℕ) → Expect → List ℕ
row_of f e = none_number ∷ map (f e) classes

-- numbers by what is expected and by class
abbrev pub table_of : (Expect → Class → ℕ) → List (List ℕ)
table_of f = map (row_of f) expects

-- of a table, the number for what is expected and a class
abbrev pub table_at : List (List ℕ) → ℕ → ℕ → ℕ
table_at table e c = get_or (get_or table e []) c 0

-- what is expected beneath a line
unfoldable pub beneath_table : List (List ℕ)
beneath_table = table_of (λ e c. beneath_number (beneath_by_class e c))

-- what is expected after it
unfoldable pub after_table : List (List ℕ)
after_table = table_of (λ e c. expect_number (after_by_class e c))

-- Levels ----------------------------------------------------------------------------------------------------------------------------

-- the levels are numbers of what may be expected
abbrev pub Numbered : List ℕ → ℕ → Type 0
Numbered stack depth = (i : ℕ) → i < depth → get_or stack i 0 < none_number

-- whether each level from the deepest to a level may end
unfoldable pub ended_to : List ℕ → ℕ → ℕ → Bool
ended_to stack low zero = true
ended_to stack low (suc d) = let rest = ended_to stack low d in if_else (ltb d low) true (if_else (ltb (get_or stack d 0) (expect_number one-process)) rest false)

-- a line of a class where something is expected: its kind, and what is expected beneath it and after it; none if it may not stand there
abbrev pub step_for : ℕ → ℕ → does.Option Step
step_for e c =
    let step : Step = record { kind = 16 * e + c; beneath = table_at beneath_table e c; after = table_at after_table e c } in
    if_else (eqb (table_at beneath_table e c) none_number) None (Some step)

-- a line of a class at a level
unfoldable pub step_at : List ℕ → ℕ → ℕ → ℕ → does.Option Step
step_at stack depth l c = if_else (ltb l depth) (if_else (ended_to stack (suc l) depth) (step_for (get_or stack l 0) c) None) None
