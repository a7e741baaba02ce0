-- Lines and their levels: the grammar of a text's lines as a relation, the reader that takes a line at a time, and the trees that the lines stand for.
use Rattle.std.specs.Prelude.{◌≡◌, Bool, true, false, ◌&&◌, List, [], ◌∷◌, ◌++◌, ℕ, suc, ℤ, length, eqb, ltb}
use Rattle.std.proofs.Math.Option.{Option, none, some}
use Rattle.meaning.specs.Basics.{if_else}
use Rattle.grammar.specs.Grammar.{Syn}

-- a declaration: a variable or channel with its size, an input or output of the host
pub data Declaration : Type 0 where
  variable channel : ℤ → List ℕ → Declaration
  source : List ℕ → Declaration
  sink : ℤ → List ℕ → Declaration

-- a line: a declaration, a process, a choice's boolean, or a guard; `c ? x` is a process or a guard by where it stands
pub data OutlineLine : Type 0 where
  declare : Declaration → OutlineLine
  skip stop : OutlineLine
  assign input output : Syn → Syn → OutlineLine
  seq par ifs alts : OutlineLine
  while : Syn → OutlineLine
  test : Syn → OutlineLine
  guarded : Syn → Syn → Syn → OutlineLine
  allowed : Syn → OutlineLine

-- a line with its level
pub data Lined : Type 0 where
  lined : ℕ → OutlineLine → Lined

-- what may stand at a level: processes, choices or options in any number; nothing; one process, which must come; one that must come, and then processes in any
-- number; declarations and then one process
pub data Expect : Type 0 where
  members choices options nothing one-process one-member heads : Expect

-- what may stand beneath a line that is a process
abbrev pub process_beneath : OutlineLine → Option Expect
process_beneath (declare d) = none
process_beneath skip = some nothing
process_beneath stop = some nothing
process_beneath (assign a e) = some nothing
process_beneath (input c a) = some nothing
process_beneath (output c e) = some nothing
process_beneath seq = some members
process_beneath par = some members
process_beneath ifs = some choices
process_beneath alts = some options
process_beneath (while e) = some one-process
process_beneath (test e) = none
process_beneath (guarded e c a) = none
process_beneath (allowed e) = none

abbrev pub choice : OutlineLine → Option Expect
choice (declare d) = none
choice skip = none
choice stop = none
choice (assign a e) = none
choice (input c a) = none
choice (output c e) = none
choice seq = none
choice par = none
choice ifs = none
choice alts = none
choice (while e) = none
choice (test e) = some one-process
choice (guarded e c a) = none
choice (allowed e) = none

abbrev pub guard_beneath : OutlineLine → Option Expect
guard_beneath (declare d) = none
guard_beneath skip = none
guard_beneath stop = none
guard_beneath (assign a e) = none
guard_beneath (input c a) = some one-process
guard_beneath (output c e) = none
guard_beneath seq = none
guard_beneath par = none
guard_beneath ifs = none
guard_beneath alts = none
guard_beneath (while e) = none
guard_beneath (test e) = none
guard_beneath (guarded e c a) = some one-process
guard_beneath (allowed e) = some one-process

abbrev pub is_declaration : OutlineLine → Bool
is_declaration (declare d) = true
is_declaration skip = false
is_declaration stop = false
is_declaration (assign a e) = false
is_declaration (input c a) = false
is_declaration (output c e) = false
is_declaration seq = false
is_declaration par = false
is_declaration ifs = false
is_declaration alts = false
is_declaration (while e) = false
is_declaration (test e) = false
is_declaration (guarded e c a) = false
is_declaration (allowed e) = false

-- request 05: a variable's declaration before a process at its level makes a block of that process
abbrev pub declares_variable : Declaration → Bool
declares_variable (variable z n) = true
declares_variable (channel z n) = false
declares_variable (source n) = false
declares_variable (sink z n) = false

abbrev pub starts_block : OutlineLine → Bool
starts_block (declare d) = declares_variable d
starts_block skip = false
starts_block stop = false
starts_block (assign a e) = false
starts_block (input c a) = false
starts_block (output c e) = false
starts_block seq = false
starts_block par = false
starts_block ifs = false
starts_block alts = false
starts_block (while e) = false
starts_block (test e) = false
starts_block (guarded e c a) = false
starts_block (allowed e) = false

-- what may stand beneath a line that is a process, or a declaration before one
abbrev pub member_beneath : OutlineLine → Option Expect
member_beneath x = if_else (starts_block x) (some nothing) (process_beneath x)

-- what may stand beneath a line, if it may stand where something is expected
unfoldable pub expected_beneath : Expect → OutlineLine → Option Expect
expected_beneath members x = member_beneath x
expected_beneath choices x = choice x
expected_beneath options x = guard_beneath x
expected_beneath nothing x = none
expected_beneath one-process x = member_beneath x
expected_beneath one-member x = member_beneath x
expected_beneath heads x = if_else (is_declaration x) (some nothing) (process_beneath x)

-- what is expected after it at the same level
unfoldable pub expected_after : Expect → OutlineLine → Expect
expected_after members x = if_else (starts_block x) one-member members
expected_after choices x = choices
expected_after options x = options
expected_after nothing x = nothing
expected_after one-process x = if_else (starts_block x) one-process nothing
expected_after one-member x = if_else (starts_block x) one-member members
expected_after heads x = if_else (is_declaration x) heads nothing

-- whether nothing more need come
unfoldable pub may_end : Expect → Bool
may_end members = true
may_end choices = true
may_end options = true
may_end nothing = true
may_end one-process = false
may_end one-member = false
may_end heads = false

-- lines as trees: each with the lines beneath it
mutual
  pub data Tree : Type 0 where
    node : OutlineLine → Trees → Tree

  pub data Trees : Type 0 where
    empty : Trees
    also : Tree → Trees → Trees

-- the lines at a level and beneath it where something is expected, and their trees
pub data Block : Expect → ℕ → List Lined → Trees → Type 0 where
  end : {e : Expect} {l : ℕ} → may_end e ≡ true → Block e l [] empty
  more : {e b : Expect} {l : ℕ} {x : OutlineLine} {ls ms : List Lined} {ps qs : Trees} → expected_beneath e x ≡ some b
      → Block b (suc l) ls ps → Block (expected_after e x) l ms qs → Block e l (lined l x ∷ (ls ++ ms)) (also (node x ps) qs)

-- what is expected at each level, the deepest first
abbrev pub Levels : Type 0
Levels = List Expect

-- a level with what is expected on it, and beneath it
abbrev pub placed : Expect → Levels → Option Expect → Option Levels
placed later k none = none
placed later k (some b) = some (b ∷ later ∷ k)

unfoldable pub place : Expect → Levels → OutlineLine → Option Expect → Option Levels
place e k x o = placed (expected_after e x) k o

-- a line ends every level beneath its own
unfoldable pub accept : Levels → ℕ → OutlineLine → Option Levels
accept [] l x = none
accept (e ∷ k) l x = if_else (eqb (length k) l) (place e k x (expected_beneath e x)) (if_else (may_end e) (accept k l x) none)

unfoldable pub accept_line : Option Levels → Lined → Option Levels
accept_line none y = none
accept_line (some k) (lined l x) = accept k l x

unfoldable pub accept_all : Option Levels → List Lined → Option Levels
accept_all o [] = o
accept_all o (y ∷ ys) = accept_all (accept_line o y) ys

unfoldable pub all_end : Levels → Bool
all_end [] = true
all_end (e ∷ k) = may_end e && all_end k

unfoldable pub levels_ended : Option Levels → Bool
levels_ended none = false
levels_ended (some k) = all_end k

abbrev pub outset : Option Levels
outset = some (heads ∷ [])

-- whether the lines are declarations and one process
unfoldable pub whole_text : List Lined → Bool
whole_text ls = levels_ended (accept_all outset ls)

-- the trees that the lines leave open at a level, built from the last line to the first
unfoldable pub grown : List Lined → ℕ → Trees
grown [] i = empty
grown (lined l x ∷ ls) i =
    let deeper = grown ls i in
    let beneath = grown ls (suc l) in
    let later = grown ls l in
    if_else (ltb i l) deeper (if_else (eqb i l) (also (node x beneath) later) empty)
