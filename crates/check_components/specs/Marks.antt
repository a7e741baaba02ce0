-- What an action, and a process with all beneath it, counts for as one list: cells changed (sort 0) and used (1), channel elements input from (2) and output to (3).
use Rattle.std.proofs.Math.Option.{Option, none, some}
use Rattle.std.specs.Prelude.{List, [], ◌∷◌, ◌++◌, ℕ}
use Rattle.meaning.specs.Tree.{Expr, Target, ChannelInput, IfChoice, AltGuard, AltOption, Action, stop, skip, sequence, parallel, assign, input, output, conditional, loop, alternation, block, Process, node}
use Rattle.meaning.specs.Usage.{counts_for, stands_in, inputs_by, of_guard, gather}
use Rattle.base_sets.specs.Sets.{in_sort}

abbrev pub target_cells : Target → List ℕ
target_cells t = counts_for t.name.first t.name.size t.subscript

-- the cells that stand in an expression
unfoldable pub mark_expr : Expr → List ℕ
mark_expr e = in_sort 1 (stands_in e)

-- a target is changed and used, and its subscript stands in it
unfoldable pub mark_target : Target → List ℕ
mark_target t = in_sort 0 (target_cells t) ++ (in_sort 1 (target_cells t) ++ mark_expr t.subscript)

unfoldable pub mark_input : ChannelInput → List ℕ
mark_input i = mark_target i.target ++ (mark_expr i.subscript ++ in_sort 2 (inputs_by i))

unfoldable pub mark_choices : List IfChoice → List ℕ
mark_choices [] = []
mark_choices (t ∷ l) = mark_expr t.boolean ++ mark_choices l

unfoldable pub mark_guard : AltGuard → List ℕ
mark_guard g = mark_expr g.boolean ++ of_guard mark_input g.input

unfoldable pub mark_options : List AltOption → List ℕ
mark_options [] = []
mark_options (b ∷ l) = mark_guard b.guard ++ mark_options l

unfoldable pub marks : Action → List ℕ
marks stop = []
marks skip = []
marks sequence = []
marks parallel = []
marks (assign v e f) = mark_target (record { name = v; subscript = e }) ++ mark_expr f
marks (input i) = mark_input i
marks (output c e f) = in_sort 3 (counts_for c.first c.size e) ++ (mark_expr e ++ mark_expr f)
marks (conditional ts) = mark_choices ts
marks (loop e b) = mark_expr e
marks (alternation bs) = mark_options bs
marks (block v) = []

-- of a process, if there is one: what its own action counts for, and what all of it does
abbrev pub own_marks : Option Process → List ℕ
own_marks none = []
own_marks (some (node a r ms)) = marks a

abbrev pub all_marks : Option Process → List ℕ
all_marks none = []
all_marks (some p) = gather p marks
