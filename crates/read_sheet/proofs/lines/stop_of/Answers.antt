-- By whether a field follows. Assumes nothing.
use mathlib.Core.Path.{◌≡◌, refl}
use Prim.Native.Nat.{ℕ, zero, suc}
use Rattle.meaning.specs.Texts.{comma}
use Rattle.read_table.specs.Fields.{stop_of}
use Rattle.read_sheet.proofs.lines.stop_of.Goals as goal

more : (n : ℕ) → (n ≡ 0 → ⊥) → comma ≡ stop_of n
more zero h = absurd (h refl)
more (suc n) h = refl

pub returns-else-after-eq0 : goal.returns-else-after-eq0
returns-else-after-eq0 c = more c.args.after c.if-after-eq0.false
