-- The two lent lists before and after a call, whatever their lengths.
use Rattle.std.specs.Prelude.{List, [], ℕ, length, ltb}
use Rattle.meaning.specs.Basics.{if_else}
use Rattle.meaning.specs.Limits.{max_budget}
use Rattle.meaning.specs.Buffers.{lent}
use Rattle.meaning.specs.Answers.{Result, refused, ran}
use Rattle.meaning.specs.Trace.{Shown, TraceLists}
use Rattle.run_turns.specs.Showing.{lists_lent, shown_from_place}

-- a list with nothing shown: 0 up to place 65,536; one that has no room for a trace is left as it is
unfoldable pub cleared : List ℕ → List ℕ
cleared l = if_else (ltb (length l) max_budget) l (lent max_budget 0 [] l)

-- the lists after a call with this result: a refusal leaves them; a run stores what its steps show, from the first place on
abbrev pub lists_left : Result → List Shown → TraceLists → TraceLists
lists_left (refused f) shown l = l
lists_left (ran r) shown l = shown_from_place 0 shown (lists_lent (cleared l.ready_counts) (cleared l.taken_rows))
