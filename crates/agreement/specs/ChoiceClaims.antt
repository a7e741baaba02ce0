-- What is claimed of the list of choices.
use Rattle.std.specs.Prelude.{◌≡◌, ◌++◌, ℕ, replicate}
use Rattle.meaning.specs.Buffers.{Buffers}
use Rattle.meaning.specs.Answers.{Task, reply}

-- a task with so many zeros after its choices
abbrev pub with_zeros : ℕ → Task → Task
with_zeros n t = record { rows = t.rows; sheet = t.sheet; choices = t.choices ++ replicate n 0; budget = t.budget }

-- "When the list is used up, 0 is meant": zeros at its end change no answer and no buffer
abbrev pub ZeroIsMeant : Type 0
ZeroIsMeant = (t : Task) (n : ℕ) (b : Buffers) → reply (with_zeros n t) b ≡ reply t b
