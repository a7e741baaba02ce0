-- A place as the code answers it: a row at fault, or none. The definitions' options are another type than Rust's.
use Rattle.std.proofs.Math.Option as maybe
use Rattle.std.specs.Prelude.{ℕ, Option, Some, None}

abbrev pub place_of : maybe.Option ℕ → Option ℕ
place_of maybe.none = None
place_of (maybe.some r) = Some r
