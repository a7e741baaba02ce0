-- What the code tells of a text: its lines as they are listed, or where it is at fault.
use Rattle.std.specs.Prelude.{◌≡◌, List, ℕ, ◌≤◌, length, Result, Ok, Err}
use Rattle.std.proofs.Math.Option.{Option, none, some}
use Rattle.grammar.specs.TextBytes.{max_text, grammar_fault}
use Rattle.grammar.specs.TextRows.{text_lines}
use Rattle.read_levels.specs.Listing.{Listing, TextListed, LevelsListed}

-- the lent lists have room for the lines and tokens of so many bytes
pub record Room (n : ℕ) (levels : List ℕ) (g : Listing) : Type 0 where
  pub kinds-long : n ≤ length g.kinds
  pub levels-long : n ≤ length levels
  pub ends-long : n ≤ length g.ends
  pub sorts-long : n ≤ length g.sorts
  pub even : length g.sorts ≡ length g.values
  pub short : length g.sorts ≤ max_text

-- where the text is at fault, as the code tells it
abbrev pub fault_of : Result ℕ ℕ → Option ℕ
fault_of (Ok n) = none
fault_of (Err l) = some l

-- what the code tells of a text, and the lists after it
pub record OutlineRead (text : List ℕ) (r : Result ℕ ℕ) (levels : List ℕ) (g : Listing) : Type 0 where
  pub place : grammar_fault text ≡ fault_of r
  pub listed : (n : ℕ) → r ≡ Ok n → TextListed text n g × LevelsListed (text_lines text) n levels
