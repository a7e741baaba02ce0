-- A printed number as the code holds it.
use Rattle.std.specs.Prelude.{List, ◌++◌, ℕ, ◌-◌}
use Rattle.std.proofs.Math.ListN as list
use Rattle.base_numbers.specs.declared.Text.{Text}

-- a text of at most 11 bytes, with zeros behind it
abbrev pub text_of : List ℕ → Text
text_of l = record { bytes = l ++ list.replicate (11 - list.length l) 0; length = list.length l }
