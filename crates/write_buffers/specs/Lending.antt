-- The task and the seven buffers that a call is lent, by its references: what they hold when it begins, and what it leaves behind them.
use Rattle.std.specs.Prelude.{◌≡◌, List, ℕ, ℤ}
use Rattle.std.specs.Borrow.{Bor, MutBor}
use denote.Triple.Both.{Both}
use Rattle.meaning.specs.Buffers.{Buffers}
use Rattle.meaning.specs.Answers.{Task}
use Rattle.machine.specs.Lending.{Lent}
use Rattle.write_buffers.specs.declared.LentBuffers.{LentBuffers}

-- what seven references hold
abbrev pub buffers_at : MutBor (List ℤ) → MutBor (List ℕ) → MutBor (List ℕ) → MutBor (List ℕ) → MutBor (List ℤ) → MutBor (List ℕ) → MutBor (List ℕ) → Buffers
buffers_at cells marks states places numbers counts output_marks =
    record {
      cells = cells.now;
      marks = marks.now;
      states = states.now;
      places = places.now;
      numbers = numbers.now;
      counts = counts.now;
      output_marks = output_marks.now;
    }

-- what the seven references of a call's lent buffers hold
abbrev pub buffers_in : LentBuffers → Buffers
buffers_in b = buffers_at b.cells b.marks b.states b.places b.numbers b.counts b.output_marks

-- they are the same seven after a call as before it
pub record SameBuffers (before after : LentBuffers) : Type 0 where
  pub cells : after.cells.ghost_name ≡ before.cells.ghost_name
  pub marks : after.marks.ghost_name ≡ before.marks.ghost_name
  pub states : after.states.ghost_name ≡ before.states.ghost_name
  pub places : after.places.ghost_name ≡ before.places.ghost_name
  pub numbers : after.numbers.ghost_name ≡ before.numbers.ghost_name
  pub counts : after.counts.ghost_name ≡ before.counts.ghost_name
  pub output_marks : after.output_marks.ghost_name ≡ before.output_marks.ghost_name

-- the rows, the sheet and the choices that are lent, and the budget
abbrev pub lent_task : Both (Bor (List ℤ)) (Bor (List ℤ)) → Both (Bor (List ℕ)) (Bor (List ℕ)) → Both (Bor (List ℕ)) (Bor (List ℕ)) → ℕ → Task
lent_task rows sheet choices budget = record { rows = rows.entry.now; sheet = sheet.entry.now; choices = choices.entry.now; budget = budget }

module _ (cells : Lent ℤ) (marks states places : Lent ℕ) (numbers : Lent ℤ) (counts output_marks : Lent ℕ) where
  -- the seven buffers when the call begins
  abbrev pub lent_buffers : Buffers
  lent_buffers = buffers_at cells.entry marks.entry states.entry places.entry numbers.entry counts.entry output_marks.entry

  -- when it ends
  abbrev pub left_buffers : Buffers
  left_buffers = buffers_at cells.exit marks.exit states.exit places.exit numbers.exit counts.exit output_marks.exit
