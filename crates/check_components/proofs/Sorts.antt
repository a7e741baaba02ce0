-- What a process counts for in one sort: of its marks, those of that sort are the cells changed, the cells used, the elements input from, the elements output to.
use mathlib.Core.Path.{◌≡◌, refl, sym, ap, ap₂, ◌∙◌}
use mathlib.Core.Bool.{Bool, true, false, ◌||◌}
use mathlib.Core.List.{List, [], ◌++◌}
use Prim.Native.Nat.{ℕ, ◌+◌, ◌*◌, ◌<◌}
use native.Mathlib.Omega.{arith}
use Rattle.meaning.specs.Basics.{any_passes, among}
use Rattle.meaning.specs.Tree.{Expr, Target, ChannelInput, Action}
use Rattle.meaning.specs.Usage.{stands_in, changes_by, uses_by, inputs_by, changes, uses, input_elements, output_elements}
use Rattle.base_sets.specs.Sets.{in_sort}
use Rattle.check_components.specs.Marks.{target_cells, mark_expr, mark_target, mark_input}
use Rattle.base_sets.proofs.Bools.{or-none, among-append, sort-same, sort-other}

pub data Sort : Type 0 where
  changed used input_from output_to : Sort

-- its number, and its list
abbrev pub code : Sort → ℕ
code changed = 0
code used = 1
code input_from = 2
code output_to = 3

abbrev pub list_of : Sort → Action → List ℕ
list_of changed = changes
list_of used = uses
list_of input_from = input_elements
list_of output_to = output_elements

pub code_below : (s : Sort) → code s < 4
code_below changed = omega arith
code_below used = omega arith
code_below input_from = omega arith
code_below output_to = omega arith

-- what stands in an expression, a target, an input, choices and options in one sort
abbrev pub expr_in : Sort → Expr → List ℕ
expr_in changed e = []
expr_in used e = stands_in e
expr_in input_from e = []
expr_in output_to e = []

abbrev pub input_lists : Sort → ChannelInput → List ℕ
input_lists changed i = changes_by i
input_lists used i = uses_by i
input_lists input_from i = inputs_by i
input_lists output_to i = []

module _ (x : ℕ) where
  -- is number x of a sort among marks
  abbrev pub marked : Sort → List ℕ → Bool
  marked s l = among (4 * x + code s) l

  pub none_in : (t : ℕ) (s : Sort) (l : List ℕ) → t < 4 → (code s ≡ t → ⊥) → marked s (in_sort t l) ≡ false
  none_in t s l h n = sort-other (code s) t x l (code_below s) h n

  pub expr-sort : (s : Sort) (e : Expr) → marked s (mark_expr e) ≡ among x (expr_in s e)
  unfolding mark_expr any_passes
  expr-sort changed e = none_in 1 changed (stands_in e) (omega arith) (λ q. omega arith)
  expr-sort used e = sort-same 1 x (stands_in e)
  expr-sort input_from e = none_in 1 input_from (stands_in e) (omega arith) (λ q. omega arith)
  expr-sort output_to e = none_in 1 output_to (stands_in e) (omega arith) (λ q. omega arith)

  pub two : (s : Sort) (l m : List ℕ) {a b : Bool} → marked s l ≡ a → marked s m ≡ b → marked s (l ++ m) ≡ (a || b)
  two s l m p q = among-append (4 * x + code s) l m ∙ ap₂ (λ (a b : Bool). a || b) p q

  pub target-sort : (s : Sort) (t : Target) → (marked s (mark_target t) ≡ (marked s (in_sort 0 (target_cells t)) || (marked s (in_sort 1 (target_cells t)) || among x (expr_in s t.subscript))))
  unfolding mark_target
  target-sort s t = two s (in_sort 0 (target_cells t)) _ refl (two s (in_sort 1 (target_cells t)) (mark_expr t.subscript) refl (expr-sort s t.subscript))

  -- an input
  whole : (s : Sort) (i : ChannelInput) {a b c : Bool} → marked s (in_sort 0 (changes_by i)) ≡ a → marked s (in_sort 1 (changes_by i)) ≡ b → marked s (in_sort 2 (inputs_by i)) ≡ c
      → marked s (mark_input i) ≡ ((a || (b || among x (expr_in s i.target.subscript))) || (among x (expr_in s i.subscript) || c))
  unfolding mark_input
  whole s i p q r =
      two s (mark_target i.target) _
      (target-sort s i.target ∙ ap₂ (λ (a b : Bool). a || (b || among x (expr_in s i.target.subscript))) p q)
      (two s (mark_expr i.subscript) (in_sort 2 (inputs_by i)) (expr-sort s i.subscript) r)

  used-order : (c t u : Bool) → ((c || t) || (u || false)) ≡ (c || (u || t))
  used-order true t u = refl
  used-order false true true = refl
  used-order false true false = refl
  used-order false false true = refl
  used-order false false false = refl

  pub input-lists : (s : Sort) (i : ChannelInput) → marked s (mark_input i) ≡ among x (input_lists s i)
  unfolding any_passes
  input-lists changed i =
      whole changed i (sort-same 0 x (changes_by i)) (none_in 1 changed (changes_by i) (omega arith) (λ q. omega arith)) (none_in 2 changed (inputs_by i) (omega arith) (λ q. omega arith))
      ∙ or-none (among x (changes_by i) || false)
      ∙ or-none (among x (changes_by i))
  input-lists used i =
      whole used i (none_in 0 used (changes_by i) (omega arith) (λ q. omega arith)) (sort-same 1 x (changes_by i)) (none_in 2 used (inputs_by i) (omega arith) (λ q. omega arith))
      ∙ used-order (among x (changes_by i)) (among x (stands_in i.target.subscript)) (among x (stands_in i.subscript))
      ∙ sym
      (among-append x (changes_by i) (stands_in i.subscript ++ stands_in i.target.subscript)
      ∙ ap (λ (b : Bool). among x (changes_by i) || b) (among-append x (stands_in i.subscript) (stands_in i.target.subscript)))
  input-lists input_from i =
      whole input_from i (none_in 0 input_from (changes_by i) (omega arith) (λ q. omega arith)) (none_in 1 input_from (changes_by i) (omega arith) (λ q. omega arith)) (sort-same 2 x (inputs_by i))
  input-lists output_to i =
      whole output_to i (none_in 0 output_to (changes_by i) (omega arith) (λ q. omega arith)) (none_in 1 output_to (changes_by i) (omega arith) (λ q. omega arith)) (none_in 2 output_to (inputs_by i) (omega arith) (λ q. omega arith))
