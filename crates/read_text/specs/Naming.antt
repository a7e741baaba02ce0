-- What looking up the names of a text comes to.
use Rattle.std.specs.Prelude.{◌≡◌, List, ℕ, ◌≤◌, length, Result, Ok, Err}
use Rattle.std.proofs.Math.Option.{Option, none, some}
use Rattle.grammar.specs.Names.{names_fault}
use Rattle.grammar.specs.TextRows.{declarations, text_lines}
use Rattle.read_levels.specs.Listing.{Listing}
use Rattle.read_resolved.specs.Resolved.{TextResolved}

-- the line that is at fault, if one is
abbrev pub named_fault : Result ℕ ℕ → Option ℕ
named_fault (Ok n) = none
named_fault (Err l) = some l

-- the first line on which names are not in order; or else so many names are declared, and the names of the listed lines are resolved
pub record NamesRead (text : List ℕ) (count : ℕ) (g : Listing) (r : Result ℕ ℕ) : Type 0 where
  pub place : names_fault (text_lines text) ≡ named_fault r
  pub resolved : (n : ℕ) → r ≡ Ok n → (n ≡ length (declarations (text_lines text))) × TextResolved text count g

-- there is room for a declaration on every line
pub record NamesRoom (count : ℕ) (froms sizes roles nexts : List ℕ) : Type 0 where
  pub froms-long : count ≤ length froms
  pub sizes-long : count ≤ length sizes
  pub roles-long : count ≤ length roles
  pub nexts-long : count ≤ length nexts
  pub few : count ≤ 32768
