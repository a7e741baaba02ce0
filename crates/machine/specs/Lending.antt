-- What a call is lent, by its references: what they hold when it begins, and what it leaves behind them.
use Rattle.std.specs.Prelude.{List, ℕ}
use Rattle.std.specs.Borrow.{MutBor}
use denote.Triple.Both.{Both}
use Rattle.meaning.specs.Trace.{TraceLists}
use Rattle.machine.specs.Counts.{Kept, kept_of}

-- a parameter that is a reference, as an `ensures` names it: at the call's beginning and at its end
abbrev pub Lent : Type 0 → Type 0
Lent A = Both (MutBor (List A)) (MutBor (List A))

module _ (states left came : Lent ℕ) where
  -- the row states, the members left and the rows that have come to work, when the call begins
  abbrev pub lent_kept : Kept
  lent_kept = kept_of states.entry.now left.entry.now came.entry.now

  -- when it ends
  abbrev pub left_kept : Kept
  left_kept = kept_of states.exit.now left.exit.now came.exit.now

module _ (readied taken : Lent ℕ) where
  -- the two lists of a traced call when it begins
  abbrev pub lent_lists : TraceLists
  lent_lists = record { ready_counts = readied.entry.now; taken_rows = taken.entry.now }

  -- when it ends
  abbrev pub left_lists : TraceLists
  left_lists = record { ready_counts = readied.exit.now; taken_rows = taken.exit.now }
