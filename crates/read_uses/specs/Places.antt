-- Where names are not in order, as the code says it.
use Rattle.std.specs.Prelude.{ℕ, Result, Ok, Err}
use Rattle.std.proofs.Math.Option.{Option, none, some}

-- nowhere, or at a line
abbrev pub place_of : Option ℕ → Result (Unit {0}) ℕ
place_of none = Ok tt
place_of (some n) = Err n
