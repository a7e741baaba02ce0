-- The tree of an accepted table holds each of its rows once.
use mathlib.Core.Logic.{⊎_elim}
use mathlib.Core.List.Memᴰ
use mathlib.Core.List.{List, ◌++◌}
use mathlib.Core.Path.{refl}
use Prim.Native.Nat.{ℕ}
use Rattle.meaning.specs.Rows.{row_count}
use Rattle.meaning.specs.Tree.{Process, node, Processes, empty, also, rows_in, rows_beneath}
use Rattle.meaning.specs.State.{program, whole}
use Rattle.agreement.specs.TreeClaims.{EachOnce, once-none, once_more, RowsOnce}
use Rattle.agreement.proofs.Frame.{Off}
use Rattle.agreement.proofs.Again.{Sound, SoundM}
use Rattle.agreement.proofs.TableFit.{fit}

-- two lists with nothing in common
append : {l m : List ℕ} → EachOnce l → EachOnce m → Off l m → EachOnce (l ++ m)
append once-none b o = b
append (once_more {x} {l} n a) b o =
    once_more (λ i. ⊎_elim n (o x (Memᴰ.head refl)) (Memᴰ.append_cases l i)) (append a b (λ y i. o y (Memᴰ.tail i)))

mutual
  process-once : (p : Process) (n : ℕ) → Sound p n → EachOnce (rows_in p)
  process-once (node k r ms) n s = once_more s.1 (members-once ms n s.2)

  members-once : (ms : Processes) (n : ℕ) → SoundM ms n → EachOnce (rows_beneath ms)
  members-once empty n s = once-none
  members-once (also p ms) n s = append (process-once p n s.0) (members-once ms n s.1) s.2

pub rows-once : RowsOnce
rows-once rows e = process-once (whole (program rows)) (row_count rows) (fit rows e).sound
