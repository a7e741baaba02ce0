-- In a table within the limits everything that counts for a row has a number below 256.
use mathlib.Core.Path.{◌≡◌, refl, sym, subst}
use mathlib.Core.Bool.{Bool, true, false}
use mathlib.Core.List.{List, [], ◌∷◌}
use mathlib.Core.Option.{Option, none}
use Prim.Native.Nat.{ℕ, zero, suc, ◌-◌, ◌<◌, ◌≤◌}
use native.Mathlib.Decide.{dec_lt}
use native.Mathlib.Omega.{arith}
use lib.IntN.{ℤ, pos}
use lib.Dec.{ltb, eqb}
use Rattle.meaning.specs.Basics.{if_else}
use borrow.Author.Tests.{ltb-true}
use Rattle.meaning.specs.Rows.{row_count, field_at, natural_at, kind_at}
use Rattle.meaning.specs.Declarations.{declarations, Variable, variable_at, source_at, sink_at}
use Rattle.meaning.specs.Faults.{WithinLimits}
use Rattle.meaning.specs.Tree.{Expr, literal, element, monadic, given, dyadic, no_expr, Target, ChannelInput, IfChoice, AltGuard, AltOption, Action, stop, skip, sequence, parallel, assign, input, output, conditional, loop, alternation, block, Process, node, Processes, empty, and_process, Content, no_content, operation, content_of, content_at, of_expr, of_element, of_process, of_guarded, of_guard_row, of_link}
use Rattle.meaning.specs.Usage.{numbers_from, constant, counts_for, stands_in, of_guard, gather, gather_all}
use Rattle.base_layout.proofs.Parts.{part-past, higher_content}
use Rattle.base_layout.proofs.RowKinds.{each-kind, by_kind}
use Rattle.base_sets.specs.Sets.{in_sort}
use Rattle.check_components.specs.Marks.{target_cells, mark_expr, mark_target, mark_input, mark_choices, mark_guard, mark_options, marks, all_marks}
use Rattle.base_sets.proofs.SetLaws.{sort-append}
use Rattle.check_components.proofs.Links.{and-member}
use Rattle.check_usage.proofs.SmallNumbers.{Small, small-right, small-append, none-small, counts-small, variable-small, source-small, sink-small}

-- all that counts at a part
pub record PartSmall (p : Content) : Type 0 where
  pub expr : Small (mark_expr p.expr)
  pub target : Small (mark_target p.target)
  pub boolean : Small (mark_expr p.guard.boolean)
  pub input : Small (of_guard mark_input p.guard.input)
  pub process : Small (all_marks p.process)
  pub listed : Small (gather_all p.listed marks)
  pub tests : Small (mark_choices p.tests)
  pub options : Small (mark_options p.options)

-- what counts for nothing
no-expr : (x : ℤ) → Small (mark_expr (literal x))
unfolding mark_expr stands_in
no-expr x = none-small

missing-expr : Small (mark_expr no_expr)
unfolding mark_expr stands_in
missing-expr = none-small

no_target : Small (mark_target no_content.target)
unfolding mark_target mark_expr stands_in constant counts_for numbers_from
no_target = none-small

no-members : Small (gather_all empty marks)
unfolding gather_all
no-members = none-small

no-choices : Small (mark_choices [])
unfolding mark_choices
no-choices = none-small

no-options : Small (mark_options [])
unfolding mark_options
no-options = none-small

nothing : PartSmall no_content
nothing = record { expr = missing-expr; target = no_target; boolean = no-expr (pos 0); input = none-small; process = none-small; listed = no-members; tests = no-choices; options = no-options }

-- the forms of a part
from-expr : (e : Expr) → Small (mark_expr e) → PartSmall (of_expr e)
from-expr e h = record { expr = h; target = no_target; boolean = no-expr (pos 0); input = none-small; process = none-small; listed = no-members; tests = no-choices; options = no-options }

from-element : (v : Variable) (e : Expr) → Small (mark_expr (element v e)) → Small (mark_target (record { name = v; subscript = e })) → PartSmall (of_element v e)
from-element v e h g = record { expr = h; target = g; boolean = no-expr (pos 0); input = none-small; process = none-small; listed = no-members; tests = no-choices; options = no-options }

from-process : (a : Action) (r : ℕ) (ms : Processes) → Small (marks a) → Small (gather_all ms marks) → PartSmall (of_process (node a r ms))
unfolding gather
from-process a r ms h g = record { expr = missing-expr; target = no_target; boolean = no-expr (pos 0); input = none-small; process = small-append (marks a) (gather_all ms marks) h g; listed = no-members; tests = no-choices; options = no-options }

from-guarded : (a : Action) (r : ℕ) (i : Option ChannelInput) → Small (marks a) → Small (of_guard mark_input i) → PartSmall (of_guarded (node a r empty) i)
unfolding gather
from-guarded a r i h g = record { expr = missing-expr; target = no_target; boolean = no-expr (pos 1); input = g; process = small-append (marks a) (gather_all empty marks) h no-members; listed = no-members; tests = no-choices; options = no-options }

from-guard : (g : AltGuard) → Small (mark_expr g.boolean) → Small (of_guard mark_input g.input) → PartSmall (of_guard_row g)
from-guard g h i = record { expr = missing-expr; target = no_target; boolean = h; input = i; process = none-small; listed = no-members; tests = no-choices; options = no-options }

from-link : (ms : Processes) (ts : List IfChoice) (bs : List AltOption) → Small (gather_all ms marks) → Small (mark_choices ts) → Small (mark_options bs) → PartSmall (of_link ms ts bs)
from-link ms ts bs h i j = record { expr = missing-expr; target = no_target; boolean = no-expr (pos 0); input = none-small; process = none-small; listed = h; tests = i; options = j }

-- Parts from parts ----------------------------------------------------------------------------------------------------------------

module _ (rows : List ℤ) (limits : (r : ℕ) → r < declarations rows → WithinLimits rows r) where
  cells : (s : ℕ) → s < 4 → (a : ℕ) (e : Expr) → Small (in_sort s (counts_for (variable_at rows a).first (variable_at rows a).size e))
  cells s h a e = counts-small s h (variable_at rows a).first (variable_at rows a).size e (variable-small rows limits a)

  element-small : (a : ℕ) (e : Expr) → Small (mark_expr e) → Small (mark_expr (element (variable_at rows a) e))
  unfolding mark_expr stands_in
  element-small a e h =
      subst Small (sym (sort-append 1 (counts_for (variable_at rows a).first (variable_at rows a).size e) (stands_in e)))
      (small-append (in_sort 1 (counts_for (variable_at rows a).first (variable_at rows a).size e)) (in_sort 1 (stands_in e)) (cells 1 (omega arith) a e) h)

  dyadic-small : (op : ℕ) (e f : Expr) → Small (mark_expr e) → Small (mark_expr f) → Small (mark_expr (dyadic op e f))
  unfolding mark_expr stands_in
  dyadic-small op e f h g = subst Small (sym (sort-append 1 (stands_in e) (stands_in f))) (small-append (in_sort 1 (stands_in e)) (in_sort 1 (stands_in f)) h g)

  -- GIVEN's element counts as a target does, but is not changed
  given-small : (t : Target) → Small (mark_target t) → Small (mark_expr (given t.name t.subscript))
  unfolding mark_target mark_expr stands_in
  given-small t h = subst Small (sym (sort-append 1 (target_cells t) (stands_in t.subscript))) (small-right (in_sort 0 (target_cells t)) _ h)

  operation-small : (op : ℕ) (p : Content) → PartSmall p → Small (mark_expr (operation op p))
  unfolding mark_expr stands_in
  operation-small op p h = go (eqb op 2)
    where
      go : (t : Bool) → Small (mark_expr (if_else t (given p.target.name p.target.subscript) (monadic op p.expr)))
      go true = given-small p.target h.target
      go false = h.expr

  target_small : (a : ℕ) (e : Expr) → Small (mark_expr e) → Small (mark_target (record { name = variable_at rows a; subscript = e }))
  unfolding mark_target
  target_small a e h = small-append _ _ (cells 0 (omega arith) a e) (small-append _ _ (cells 1 (omega arith) a e) h)

  assign-small : (a : ℕ) (e f : Expr) → Small (mark_expr e) → Small (mark_expr f) → Small (marks (assign (variable_at rows a) e f))
  unfolding marks
  assign-small a e f h g = small-append _ _ (target_small a e h) g

  receive-small : (a : ℕ) (e : Expr) (t : Target) → Small (mark_expr e) → Small (mark_target t) → Small (mark_input (record { channel = source_at rows a; subscript = e; target = t }))
  unfolding mark_input
  receive-small a e t h g = small-append _ _ g (small-append _ _ h (counts-small 2 (omega arith) (source_at rows a).first (source_at rows a).size e (source-small rows limits a)))

  receives : (i : ChannelInput) → Small (mark_input i) → Small (marks (input i))
  unfolding marks
  receives i h = h

  send-small : (a : ℕ) (e f : Expr) → Small (mark_expr e) → Small (mark_expr f) → Small (marks (output (sink_at rows a) e f))
  unfolding marks
  send-small a e f h g = small-append _ _ (counts-small 3 (omega arith) (sink_at rows a).first (sink_at rows a).size e (sink-small rows limits a)) (small-append _ _ h g)

  plain : Small (marks stop) × Small (marks skip) × Small (marks sequence) × Small (marks parallel)
  unfolding marks
  plain = (none-small, none-small, none-small, none-small)

  choosing : (ts : List IfChoice) → Small (mark_choices ts) → Small (marks (conditional ts))
  unfolding marks
  choosing ts h = h

  looping : (e : Expr) (b : ℕ) → Small (mark_expr e) → Small (marks (loop e b))
  unfolding marks
  looping e b h = h

  selecting : (bs : List AltOption) → Small (mark_options bs) → Small (marks (alternation bs))
  unfolding marks
  selecting bs h = h

  holding : (v : Variable) → Small (marks (block v))
  unfolding marks
  holding v = none-small

  choice-small : (t : IfChoice) (l : List IfChoice) → Small (mark_expr t.boolean) → Small (mark_choices l) → Small (mark_choices (t ∷ l))
  unfolding mark_choices
  choice-small t l h g = small-append _ _ h g

  option-small : (b : AltOption) (l : List AltOption) → Small (mark_expr b.guard.boolean) → Small (of_guard mark_input b.guard.input) → Small (mark_options l) → Small (mark_options (b ∷ l))
  unfolding mark_options mark_guard
  option-small b l h g i = small-append _ _ (small-append _ _ h g) i

  member-small : (o : Option Process) (ms : Processes) → Small (all_marks o) → Small (gather_all ms marks) → Small (gather_all (and_process o ms) marks)
  member-small o ms h g = subst Small (sym (and-member o ms)) (small-append _ _ h g)

  -- a row, from higher rows
  module _ (r : ℕ) (h : r < row_count rows) (at : (b : ℕ) → PartSmall (higher_content rows r b)) where
    row_small : PartSmall (content_at rows r)
    row_small =
        let a = natural_at rows r 1 in
        let b = natural_at rows r 2 in
        let c = natural_at rows r 3 in
        by_kind rows r h PartSmall
        (each-kind (λ x. PartSmall (content_of rows r (higher_content rows r) x)) (kind_at rows r) (field_at rows r 1) a b c
        (λ q. from-expr _ (no-expr (field_at rows r 1)))
        (λ q. from-element _ _ (element-small a _ (at b).expr) (target_small a _ (at b).expr))
        (λ q. from-expr _ (operation-small a (higher_content rows r b) (at b)))
        (λ q. from-expr _ (dyadic-small a _ _ (at b).expr (at c).expr))
        (λ q. from-process stop r empty plain.0 no-members)
        (λ q. from-guarded skip r none plain.1 none-small)
        (λ q. from-process _ r empty (assign-small a _ _ (at b).expr (at c).expr) no-members)
        (λ q. from-guarded _ r _ (receives _ (receive-small a _ _ (at b).expr (at c).target)) (receive-small a _ _ (at b).expr (at c).target))
        (λ q. from-process _ r empty (send-small a _ _ (at b).expr (at c).expr) no-members)
        (λ q. from-process sequence r _ plain.2 (at a).listed)
        (λ q. from-process parallel r _ plain.3 (at a).listed)
        (λ q. from-process _ r _ (choosing _ (at a).tests) (at a).listed)
        (λ q. from-process _ r _ (looping _ b (at a).expr) (member-small (higher_content rows r b).process empty (at b).process no-members))
        (λ q. from-process _ r _ (selecting _ (at a).options) (at a).listed)
        (λ q. from-process _ r _ (holding _) (member-small (higher_content rows r b).process empty (at b).process no-members))
        (λ q. from-link _ [] [] (member-small (higher_content rows r a).process _ (at a).process (at b).listed) no-choices no-options)
        (λ q. from-link _ _ [] (member-small (higher_content rows r a).process _ (at a).process (at b).listed) (choice-small _ _ (at c).expr (at b).tests) no-options)
        (λ q. from-link _ [] _ (member-small (higher_content rows r a).process _ (at a).process (at b).listed) no-choices (option-small _ _ (at c).boolean (at c).input (at b).options))
        (λ q. from-guard _ (at a).expr (at b).input)
        nothing)

  -- from the table's end
  from_end : (k r : ℕ) → row_count rows - r ≤ k → PartSmall (content_at rows r)
  from_end zero r l = subst PartSmall (sym (part-past rows r (omega arith))) nothing
  from_end (suc k) r l = go (dec_lt r (row_count rows)) (λ b f. from_end k b f)
    where
      higher : (b : ℕ) (t : Bool) → ltb r b ≡ t → (r < b → PartSmall (content_at rows b)) → PartSmall (if_else t (content_at rows b) no_content)
      higher b true e f = f (ltb-true r b e)
      higher b false e f = nothing

      go : Dec (r < row_count rows) → ((b : ℕ) → row_count rows - b ≤ k → PartSmall (content_at rows b)) → PartSmall (content_at rows r)
      go (yes h) f = row_small r h (λ b. higher b (ltb r b) refl (λ g. f b (omega arith)))
      go (no h) f = subst PartSmall (sym (part-past rows r (omega arith))) nothing

  -- the process of each row
  pub process-small : (r : ℕ) → Small (all_marks (content_at rows r).process)
  process-small r = (from_end (row_count rows - r) r (omega arith)).process
