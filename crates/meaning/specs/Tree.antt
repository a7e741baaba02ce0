-- The tree of a table: expressions, and processes with their rows, built from higher rows. It is total: where a field names no higher row of the kind wanted, there is none.
use Rattle.std.proofs.Math.Option.{Option, none, some}
use Rattle.std.specs.Prelude.{List, [], ◌∷◌, ◌++◌, ℕ, ℤ, pos, eqb}
use Rattle.meaning.specs.declared.Node.{Node}
use Rattle.meaning.specs.declared.Node.TheVariants.{Literal, Element, Monadic, Dyadic, Stop, Skip, Assignment, Input, Output, Seq, Par, If, While, Alt, Block, Member, Choice, OptionRow, Guard, Other}
use Rattle.meaning.specs.Rows.{row_count}
use Rattle.meaning.specs.Declarations.{Variable, no_variable, Channel, variable_at, source_at, sink_at}
use Rattle.meaning.specs.Nodes.{node_at}
use Rattle.meaning.specs.HigherRows.{last_rows, at_row}
use Rattle.meaning.specs.Basics.{if_else}

-- an expression or boolean: kinds 10 to 13, or none; GIVEN, monadic operator 2, takes an element: its variable and subscript
pub data Expr : Type 0 where
  literal : ℤ → Expr
  element : Variable → Expr → Expr
  monadic : ℕ → Expr → Expr
  given : Variable → Expr → Expr
  dyadic : ℕ → Expr → Expr → Expr
  no_expr : Expr

-- an element of a variable, as the target of an input
pub record Target : Type 0 where
  pub name : Variable
  pub subscript : Expr

-- an input: its channel and subscript, and its target
pub record ChannelInput : Type 0 where
  pub channel : Channel
  pub subscript : Expr
  pub target : Target

-- a choice of an IF: its boolean, and the row of its process
pub record IfChoice : Type 0 where
  pub boolean : Expr
  pub process : ℕ

-- a guard: its boolean, the literal 1 for a bare input; its input, or none for SKIP
pub record AltGuard : Type 0 where
  pub boolean : Expr
  pub input : Option ChannelInput

-- an option of an ALT: its row, its guard, and the row of its process
pub record AltOption : Type 0 where
  pub row : ℕ
  pub guard : AltGuard
  pub process : ℕ

-- what a process does by itself, beside the processes that it starts; a block has a variable
pub data Action : Type 0 where
  stop skip sequence parallel : Action
  assign : Variable → Expr → Expr → Action
  input : ChannelInput → Action
  output : Channel → Expr → Expr → Action
  conditional : List IfChoice → Action
  loop : Expr → ℕ → Action
  alternation : List AltOption → Action
  block : Variable → Action

-- a process with its row and the processes directly beneath it: those of a SEQ's or PAR's members, of choices or options, a WHILE's body, a block's process
mutual
  pub data Process : Type 0 where
    node : Action → ℕ → Processes → Process

  pub data Processes : Type 0 where
    empty : Processes
    also : Process → Processes → Processes

-- the content of a row, as each of the things that a row may be; listed are the processes of a member, choice or option and of those after it
pub record Content : Type 0 where
  pub expr : Expr
  pub target : Target
  pub guard : AltGuard
  pub process : Option Process
  pub listed : Processes
  pub tests : List IfChoice
  pub options : List AltOption

abbrev pub no_target : Target
no_target = record { name = no_variable; subscript = no_expr }

-- a guard that is never true
abbrev pub no_guard : AltGuard
no_guard = record { boolean = literal (pos 0); input = none }

abbrev pub no_content : Content
no_content = record { expr = no_expr; target = no_target; guard = no_guard; process = none; listed = empty; tests = []; options = [] }

-- a process, if there is one, before others
abbrev pub and_process : Option Process → Processes → Processes
and_process none ms = ms
and_process (some p) ms = also p ms

-- a row that is an expression; an element, which may be a target; a process; an input or SKIP, which a guard may refer to
abbrev pub of_expr : Expr → Content
of_expr e = record { expr = e; target = no_target; guard = no_guard; process = none; listed = empty; tests = []; options = [] }

abbrev pub of_element : Variable → Expr → Content
of_element v e =
    record { expr = element v e; target = record { name = v; subscript = e }; guard = no_guard; process = none; listed = empty; tests = []; options = [] }

abbrev pub of_process : Process → Content
of_process p = record { expr = no_expr; target = no_target; guard = no_guard; process = some p; listed = empty; tests = []; options = [] }

abbrev pub of_guarded : Process → Option ChannelInput → Content
of_guarded p i =
    record { expr = no_expr; target = no_target; guard = record { boolean = literal (pos 1); input = i }; process = some p; listed = empty; tests = []; options = [] }

abbrev pub of_guard_row : AltGuard → Content
of_guard_row g = record { expr = no_expr; target = no_target; guard = g; process = none; listed = empty; tests = []; options = [] }

abbrev pub of_link : Processes → List IfChoice → List AltOption → Content
of_link ms ts bs = record { expr = no_expr; target = no_target; guard = no_guard; process = none; listed = ms; tests = ts; options = bs }

-- a monadic operation on what stands at the operand's row: "A monadic operator 2, GIVEN, takes an element as its operand"
abbrev pub operation : ℕ → Content → Expr
operation op p = if_else (eqb op 2) (given p.target.name p.target.subscript) (monadic op p.expr)

-- what stands at row r, from what stands at the rows that it refers to
module _ (rows : List ℤ) (r : ℕ) (at : ℕ → Content) where
  abbrev pub input_of : ℕ → ℕ → ℕ → ChannelInput
  input_of a b c = record { channel = source_at rows a; subscript = (at b).expr; target = (at c).target }

  abbrev pub content_of : Node → Content
  content_of (Literal x) = of_expr (literal x)
  content_of (Element a b) = of_element (variable_at rows a) (at b).expr
  content_of (Monadic a b) = of_expr (operation a (at b))
  content_of (Dyadic a b c) = of_expr (dyadic a (at b).expr (at c).expr)
  content_of Stop = of_process (node stop r empty)
  content_of Skip = of_guarded (node skip r empty) none
  content_of (Assignment a b c) = of_process (node (assign (variable_at rows a) (at b).expr (at c).expr) r empty)
  content_of (Input a b c) = let i = input_of a b c in of_guarded (node (input i) r empty) (some i)
  content_of (Output a b c) = of_process (node (output (sink_at rows a) (at b).expr (at c).expr) r empty)
  content_of (Seq a) = of_process (node sequence r (at a).listed)
  content_of (Par a) = of_process (node parallel r (at a).listed)
  content_of (If a) = of_process (node (conditional (at a).tests) r (at a).listed)
  content_of (While a b) = of_process (node (loop (at a).expr b) r (and_process (at b).process empty))
  content_of (Alt a) = of_process (node (alternation (at a).options) r (at a).listed)
  content_of (Block a b) = of_process (node (block (variable_at rows a)) r (and_process (at b).process empty))
  content_of (Member a b) = of_link (and_process (at a).process (at b).listed) [] []
  content_of (Choice a b c) = of_link (and_process (at a).process (at b).listed) (record { boolean = (at c).expr; process = a } ∷ (at b).tests) []
  content_of (OptionRow a b c) = of_link (and_process (at a).process (at b).listed) [] (record { row = r; guard = (at c).guard; process = a } ∷ (at b).options)
  content_of (Guard a b) = of_guard_row (record { boolean = (at a).expr; input = (at b).guard.input })
  content_of Other = no_content

-- what stands at each row, at row r, and at row r if it is not below `from`
unfoldable pub contents : List ℤ → List Content
contents rows = last_rows no_content (λ r at. content_of rows r at (node_at rows r)) (row_count rows) (row_count rows)

unfoldable pub content_at : List ℤ → ℕ → Content
content_at rows r = at_row no_content (λ r at. content_of rows r at (node_at rows r)) (row_count rows) r

-- a process, or STOP where there is none
abbrev pub or_stop : Option Process → Process
or_stop none = node stop 0 empty
or_stop (some p) = p

abbrev pub row_of : Process → ℕ
row_of (node a r ms) = r

-- the rows of some processes
abbrev pub process_rows : Processes → List ℕ
process_rows empty = []
process_rows (also p ms) = row_of p ∷ process_rows ms

abbrev pub action_of : Process → Action
action_of (node a r ms) = a

abbrev pub processes_in : Process → Processes
processes_in (node a r ms) = ms

-- every row of a process, and of several: the rows beneath a process are those of the processes directly beneath it
abbrev mutual
  pub rows_in : Process → List ℕ
  rows_in (node a r ms) = r ∷ rows_beneath ms

  pub rows_beneath : Processes → List ℕ
  rows_beneath empty = []
  rows_beneath (also p ms) = rows_in p ++ rows_beneath ms
