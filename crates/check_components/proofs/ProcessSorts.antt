-- What a process counts for in one sort, from what its choices, options and members do.
use mathlib.Core.Path.{◌≡◌, refl, sym, ap, ap₂, ◌∙◌}
use mathlib.Core.Bool.{Bool, false, ◌||◌}
use mathlib.Core.List.{List, [], ◌∷◌, ◌++◌}
use mathlib.Core.Option.{Option, none, some}
use Prim.Native.Nat.{ℕ}
use native.Mathlib.Omega.{arith}
use Rattle.meaning.specs.Basics.{any_passes, among}
use Rattle.meaning.specs.Tree.{Expr, Target, ChannelInput, IfChoice, AltGuard, AltOption, Action, stop, skip, sequence, parallel, assign, input, output, conditional, loop, alternation, block, Process, node, Processes, empty, also}
use Rattle.meaning.specs.Usage.{counts_for, stands_in, stands_in_choices, uses_by, of_guard, of_guards, stands_in_guards, gather, gather_all}
use Rattle.base_sets.specs.Sets.{in_sort}
use Rattle.check_components.specs.Marks.{target_cells, mark_expr, mark_target, mark_input, mark_choices, mark_guard, mark_options, marks}
use Rattle.base_sets.proofs.Bools.{or_assoc, or-none, or_turn, among-append, sort-same}
use Rattle.check_components.proofs.Sorts.{Sort, changed, used, input_from, output_to, list_of, expr_in, input_lists, marked, none_in, expr-sort, two, target-sort, input-lists}

module _ (x : ℕ) where
  -- a sort of which no expression has a number
  abbrev Bare : Sort → Type 0
  Bare s = (e : Expr) → among x (expr_in s e) ≡ false

  -- a target
  abbrev target_in : Sort → Target → List ℕ
  target_in changed t = target_cells t
  target_in used t = target_cells t ++ stands_in t.subscript
  target_in input_from t = []
  target_in output_to t = []

  target-whole : (s : Sort) (t : Target) → marked x s (mark_target t) ≡ among x (target_in s t)
  unfolding any_passes
  target-whole changed t =
      target-sort x changed t
      ∙ ap₂ (λ (a b : Bool). a || (b || false)) (sort-same 0 x (target_cells t)) (none_in x 1 changed (target_cells t) (omega arith) (λ q. omega arith))
      ∙ or-none (among x (target_cells t))
  target-whole used t =
      target-sort x used t
      ∙ ap₂ (λ (a b : Bool). a || (b || among x (stands_in t.subscript))) (none_in x 0 used (target_cells t) (omega arith) (λ q. omega arith)) (sort-same 1 x (target_cells t))
      ∙ sym (among-append x (target_cells t) (stands_in t.subscript))
  target-whole input_from t =
      target-sort x input_from t
      ∙ ap₂ (λ (a b : Bool). a || (b || false)) (none_in x 0 input_from (target_cells t) (omega arith) (λ q. omega arith)) (none_in x 1 input_from (target_cells t) (omega arith) (λ q. omega arith))
  target-whole output_to t =
      target-sort x output_to t
      ∙ ap₂ (λ (a b : Bool). a || (b || false)) (none_in x 0 output_to (target_cells t) (omega arith) (λ q. omega arith)) (none_in x 1 output_to (target_cells t) (omega arith) (λ q. omega arith))

  -- choices
  choices-bare : (s : Sort) → Bare s → (ts : List IfChoice) → marked x s (mark_choices ts) ≡ false
  unfolding mark_choices any_passes
  choices-bare s h [] = refl
  choices-bare s h (t ∷ l) = two x s (mark_expr t.boolean) (mark_choices l) (expr-sort x s t.boolean ∙ h t.boolean) (choices-bare s h l)

  choices-used : (ts : List IfChoice) → marked x used (mark_choices ts) ≡ among x (stands_in_choices ts)
  unfolding mark_choices any_passes
  choices-used [] = refl
  choices-used (t ∷ l) = two x used (mark_expr t.boolean) (mark_choices l) (expr-sort x used t.boolean) (choices-used l) ∙ sym (among-append x (stands_in t.boolean) (stands_in_choices l))

  -- options
  input-sort : (s : Sort) (o : Option ChannelInput) → marked x s (of_guard mark_input o) ≡ among x (of_guard (input_lists s) o)
  unfolding any_passes
  input-sort s none = refl
  input-sort s (some i) = input-lists x s i

  guard-sort : (s : Sort) (g : AltGuard) → marked x s (mark_guard g) ≡ (among x (expr_in s g.boolean) || among x (of_guard (input_lists s) g.input))
  unfolding mark_guard
  guard-sort s g = two x s (mark_expr g.boolean) (of_guard mark_input g.input) (expr-sort x s g.boolean) (input-sort s g.input)

  options-bare : (s : Sort) → Bare s → (bs : List AltOption) → marked x s (mark_options bs) ≡ among x (of_guards (input_lists s) bs)
  unfolding mark_options any_passes
  options-bare s h [] = refl
  options-bare s h (b ∷ l) =
      two x s (mark_guard b.guard) (mark_options l) (guard-sort s b.guard ∙ ap (λ (a : Bool). a || among x (of_guard (input_lists s) b.guard.input)) (h b.guard.boolean)) (options-bare s h l)
      ∙ sym (among-append x (of_guard (input_lists s) b.guard.input) (of_guards (input_lists s) l))

  options-used : (bs : List AltOption) → marked x used (mark_options bs) ≡ among x (stands_in_guards bs ++ of_guards uses_by bs)
  unfolding mark_options any_passes
  options-used [] = refl
  options-used (b ∷ l) =
      let e = stands_in b.guard.boolean in
      let g = of_guard uses_by b.guard.input in
      two x used (mark_guard b.guard) (mark_options l) (guard-sort used b.guard) (options-used l ∙ among-append x (stands_in_guards l) (of_guards uses_by l))
      ∙ or_turn (among x e) (among x g) (among x (stands_in_guards l)) (among x (of_guards uses_by l))
      ∙ ap₂ (λ (a b : Bool). a || b) (sym (among-append x e (stands_in_guards l))) (sym (among-append x g (of_guards uses_by l)))
      ∙ sym (among-append x (e ++ stands_in_guards l) (g ++ of_guards uses_by l))

  no-outputs : (bs : List AltOption) → among x (of_guards (input_lists output_to) bs) ≡ false
  unfolding any_passes
  no-outputs [] = refl
  no-outputs (b ∷ l) = among-append x (of_guard (input_lists output_to) b.guard.input) (of_guards (input_lists output_to) l) ∙ ap₂ (λ (a b : Bool). a || b) (one b.guard.input) (no-outputs l)
    where
      one : (o : Option ChannelInput) → among x (of_guard (input_lists output_to) o) ≡ false
      one none = refl
      one (some i) = refl

  -- an action
  sent : (s : Sort) (c : List ℕ) (e f : Expr) {a : Bool} → marked x s (in_sort 3 c) ≡ a → marked x s (in_sort 3 c ++ (mark_expr e ++ mark_expr f)) ≡ (a || (among x (expr_in s e) || among x (expr_in s f)))
  sent s c e f p = two x s (in_sort 3 c) _ p (two x s (mark_expr e) (mark_expr f) (expr-sort x s e) (expr-sort x s f))

  assigned : (s : Sort) (t : Target) (f : Expr) → marked x s (mark_target t ++ mark_expr f) ≡ (among x (target_in s t) || among x (expr_in s f))
  assigned s t f = two x s (mark_target t) (mark_expr f) (target-whole s t) (expr-sort x s f)

  marks-sort : (s : Sort) (a : Action) → marked x s (marks a) ≡ among x (list_of s a)
  unfolding marks any_passes
  marks-sort changed stop = refl
  marks-sort changed skip = refl
  marks-sort changed sequence = refl
  marks-sort changed parallel = refl
  marks-sort changed (assign v e f) = assigned changed (record { name = v; subscript = e }) f ∙ or-none (among x (counts_for v.first v.size e))
  marks-sort changed (input i) = input-lists x changed i
  marks-sort changed (output c e f) = sent changed (counts_for c.first c.size e) e f (none_in x 3 changed (counts_for c.first c.size e) (omega arith) (λ q. omega arith))
  marks-sort changed (conditional ts) = choices-bare changed (λ e. refl) ts
  marks-sort changed (loop e b) = expr-sort x changed e
  marks-sort changed (alternation bs) = options-bare changed (λ e. refl) bs
  marks-sort changed (block v) = refl
  marks-sort used stop = refl
  marks-sort used skip = refl
  marks-sort used sequence = refl
  marks-sort used parallel = refl
  marks-sort used (assign v e f) =
      let c = counts_for v.first v.size e in
      assigned used (record { name = v; subscript = e }) f
      ∙ ap (λ (a : Bool). a || among x (stands_in f)) (among-append x c (stands_in e))
      ∙ or_assoc (among x c) (among x (stands_in e)) (among x (stands_in f))
      ∙ ap (λ (a : Bool). among x c || a) (sym (among-append x (stands_in e) (stands_in f)))
      ∙ sym (among-append x c (stands_in e ++ stands_in f))
  marks-sort used (input i) = input-lists x used i
  marks-sort used (output c e f) = sent used (counts_for c.first c.size e) e f (none_in x 3 used (counts_for c.first c.size e) (omega arith) (λ q. omega arith)) ∙ sym (among-append x (stands_in e) (stands_in f))
  marks-sort used (conditional ts) = choices-used ts
  marks-sort used (loop e b) = expr-sort x used e
  marks-sort used (alternation bs) = options-used bs
  marks-sort used (block v) = refl
  marks-sort input_from stop = refl
  marks-sort input_from skip = refl
  marks-sort input_from sequence = refl
  marks-sort input_from parallel = refl
  marks-sort input_from (assign v e f) = assigned input_from (record { name = v; subscript = e }) f
  marks-sort input_from (input i) = input-lists x input_from i
  marks-sort input_from (output c e f) = sent input_from (counts_for c.first c.size e) e f (none_in x 3 input_from (counts_for c.first c.size e) (omega arith) (λ q. omega arith))
  marks-sort input_from (conditional ts) = choices-bare input_from (λ e. refl) ts
  marks-sort input_from (loop e b) = expr-sort x input_from e
  marks-sort input_from (alternation bs) = options-bare input_from (λ e. refl) bs
  marks-sort input_from (block v) = refl
  marks-sort output_to stop = refl
  marks-sort output_to skip = refl
  marks-sort output_to sequence = refl
  marks-sort output_to parallel = refl
  marks-sort output_to (assign v e f) = assigned output_to (record { name = v; subscript = e }) f
  marks-sort output_to (input i) = input-lists x output_to i
  marks-sort output_to (output c e f) = sent output_to (counts_for c.first c.size e) e f (sort-same 3 x (counts_for c.first c.size e)) ∙ or-none (among x (counts_for c.first c.size e))
  marks-sort output_to (conditional ts) = choices-bare output_to (λ e. refl) ts
  marks-sort output_to (loop e b) = expr-sort x output_to e
  marks-sort output_to (alternation bs) = options-bare output_to (λ e. refl) bs ∙ no-outputs bs
  marks-sort output_to (block v) = refl

  -- a process with all beneath it
  mutual
    unfolding gather gather_all any_passes

    pub gather-sort : (s : Sort) (p : Process) → marked x s (gather p marks) ≡ among x (gather p (list_of s))
    gather-sort s (node a r ms) = two x s (marks a) (gather_all ms marks) (marks-sort s a) (all-sort s ms) ∙ sym (among-append x (list_of s a) (gather_all ms (list_of s)))

    pub all-sort : (s : Sort) (ms : Processes) → marked x s (gather_all ms marks) ≡ among x (gather_all ms (list_of s))
    all-sort s empty = refl
    all-sort s (also p ms) = two x s (gather p marks) (gather_all ms marks) (gather-sort s p) (all-sort s ms) ∙ sym (among-append x (gather p (list_of s)) (gather_all ms (list_of s)))
