-- Where the lines beneath a line and after it go, by numbers.
use Rattle.std.specs.Prelude.{◌&&◌, ℕ, ◌+◌, ◌-◌, eqb, leb}
use Rattle.meaning.specs.Basics.{if_else}
use Rattle.read_processes.specs.declared.Onward.{Onward}

-- the rows of a line's process among those that the line makes itself, by the number of what is expected
abbrev pub part_rows_at : ℕ → ℕ → ℕ
part_rows_at n own = if_else (eqb n 5) (own - 1) own

abbrev pub onward_to : ℕ → ℕ → Onward
onward_to beneath later = record { beneath = beneath; later = later }

-- where the lines beneath a line and after it go, by the numbers of what is expected and of its class, the rows that it makes itself, its row and the rows beneath it
abbrev pub onward_of : ℕ → ℕ → ℕ → ℕ → ℕ → Onward
onward_of n c own p b =
    if_else (eqb n 1) (onward_to (p + 1) (p + 1 + b))
    (if_else (eqb n 2) (onward_to (p + 1) (p + 1 + b))
    (if_else (eqb n 6 && leb c 2) (onward_to p p)
    (if_else (eqb c 1) (if_else (eqb n 0) (onward_to (p + 1) (p + 2)) (onward_to p (p + 1)))
    (onward_to (p + part_rows_at n own) (p + part_rows_at n own + b)))))
