-- What stands at a row of a kind, from the rows that it refers to: an input and an option; and what an output would do.
use Rattle.std.specs.Prelude.{List, ℕ, ℤ}
use Rattle.meaning.specs.Rows.{natural_at}
use Rattle.meaning.specs.Declarations.{source_at, sink_at}
use Rattle.meaning.specs.Tree.{ChannelInput, AltOption, content_at}
use Rattle.meaning.specs.Values.{Message}
use Rattle.run_code.specs.Prepared.{referred_row}
use Rattle.run_intents.specs.declared.Does.{Does}
use Rattle.run_intents.specs.Does.{output_does}

module _ (rows : List ℤ) where
  -- the input of row r
  abbrev pub input_at : ℕ → ChannelInput
  input_at r = record { channel = source_at rows (natural_at rows r 1); subscript = (content_at rows (referred_row rows r 2)).expr; target = (content_at rows (referred_row rows r 3)).target }

  -- what the output of row r would do
  abbrev pub output_at : List Message → List ℕ → ℕ → Does
  output_at cells counts r = output_does cells counts (sink_at rows (natural_at rows r 1)) (content_at rows (referred_row rows r 2)).expr (content_at rows (referred_row rows r 3)).expr

  -- the option of row j
  abbrev pub option_at : ℕ → AltOption
  option_at j = record { row = j; guard = (content_at rows (referred_row rows j 3)).guard; process = referred_row rows j 1 }
