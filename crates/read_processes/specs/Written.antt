-- The rows of a text's process, and the rows where the forms of its lines begin.
use Rattle.std.specs.Prelude.{◌≡◌, List, [], ◌∷◌, ℕ, suc, ◌*◌, ◌≤◌, ℤ, length, get_or, set, take, replicate}
use Rattle.std.proofs.Math.Option.{none}
use Rattle.std.proofs.lemmas.List.Edits.{sets}
use Rattle.meaning.specs.Rows.{row_count}
use Rattle.base_top_down.specs.Forms.{rows_from}
use Rattle.grammar.specs.Outline.{heads, grown}
use Rattle.grammar.specs.TextBytes.{grammar_fault}
use Rattle.grammar.specs.TextRows.{declarations, trees_form, text_lines, text_rows}
use Rattle.read_levels.specs.Kinds.{kinds_of}
use Rattle.read_levels.specs.Listing.{Listing, listing, LevelsListed}
use Rattle.read_resolved.specs.Resolved.{declared_names, TextResolved}
use Rattle.read_layout.specs.Standing.{Standing, standing, open_rows}
use Rattle.read_layout.specs.Layout.{places_after}
use Rattle.read_expressions.specs.Overlay.{overlay}
use Rattle.read_sizes.specs.Sizes.{text_standings, beneaths, afters, rests, by_line, Measured}
use Rattle.read_rows.specs.declared.Spot.{Spot}
use Rattle.read_processes.specs.declared.Lines.{Lines}

-- the lists of a text's lines
abbrev pub lists_of : Lines → Listing
lists_of l = listing l.kinds.now l.ends.now l.sorts.now l.values.now

-- how many rows a text declares
abbrev pub declared_count : List ℕ → ℕ
declared_count text = length (declarations (text_lines text))

-- the rows of a text's process, after those of its declarations
abbrev pub process_rows : List ℕ → List ℤ
process_rows text = rows_from (declared_count text) (trees_form (declared_names text) (grown (text_lines text) 0) heads)

-- lent rows with them, stored one after the other
abbrev pub process_laid : List ℕ → List ℤ → List ℤ
process_laid text rows = sets rows (4 * declared_count text) (process_rows text)

-- where the next form at each level goes, before the first line
abbrev pub first_places : ℕ → List ℕ
first_places declared = set (replicate 1025 0) 0 declared

-- the row where the form of each line begins, by where the next form at each level goes
unfoldable pub starts_from : List (List ℕ) → List Standing → List ℕ → List ℕ
starts_from names [] places = []
starts_from names (standing e l x ∷ ys) places = get_or places l 0 ∷ starts_from names ys (places_after names e l x (open_rows ys (suc l)) places)

-- those of a text's lines
abbrev pub text_starts : List ℕ → List ℕ
text_starts text = starts_from (declared_names text) (text_standings text) (first_places (declared_count text))

-- where the form of line j goes
abbrev pub spot_at : List ℕ → List ℕ → List ℕ → List ℕ → ℕ → Spot
spot_at starts beneath after rest j = record { row = get_or starts j 0; beneath = get_or beneath j 0; later = get_or after j 0; rest = get_or rest j 0 }

-- a text of few rows, its lines listed with names by their rows, and how many it declares
pub record Ready (text : List ℕ) (declared count : ℕ) (levels : List ℕ) (g : Listing) : Type 0 where
  pub resolved : TextResolved text count g
  pub levelled : LevelsListed (text_lines text) count levels
  pub few : row_count (text_rows text) ≤ 1024
  pub counted : declared ≡ declared_count text

-- a text with the kinds and levels of its lines, the rows that each makes itself and the rows beneath it
pub record Placeable (text : List ℕ) (declared : ℕ) (kinds : List ℕ) (count : ℕ) (levels owns beneath : List ℕ) : Type 0 where
  pub of-grammar : grammar_fault text ≡ none
  pub few : row_count (text_rows text) ≤ 1024
  pub counted : declared ≡ declared_count text
  pub kinds-held : take count kinds ≡ kinds_of (text_lines text)
  pub measured : Measured kinds count levels owns (text_standings text)
  pub beneath-held : take count beneath ≡ beneaths (text_standings text)

-- a text whose lines are listed, with the rows where their forms begin, and the rows beneath and after each line
pub record Placed (text : List ℕ) (count : ℕ) (g : Listing) (starts beneath after rest : List ℕ) : Type 0 where
  pub resolved : TextResolved text count g
  pub few : row_count (text_rows text) ≤ 1024
  pub starts-held : take count starts ≡ text_starts text
  pub beneath-held : take count beneath ≡ beneaths (text_standings text)
  pub after-held : take count after ≡ afters (text_standings text)
  pub rest-held : take count rest ≡ rests (text_standings text)

-- Some text is so, and what is written for any that is ------------------------------------------------------------------------------

-- the lines of some text can be placed
abbrev pub SomePlaceable : ℕ → List ℕ → ℕ → List ℕ → List ℕ → List ℕ → Type 0
SomePlaceable declared kinds count levels owns beneath = (text : List ℕ) × Placeable text declared kinds count levels owns beneath

-- lent numbers, before and after the rows are stored where the forms of lines begin: those of any text whose lines can be placed so
abbrev pub StartsTold : ℕ → List ℕ → ℕ → List ℕ → List ℕ → List ℕ → List ℕ → List ℕ → Type 0
StartsTold declared kinds count levels owns beneath starts₀ starts = (text : List ℕ) → Placeable text declared kinds count levels owns beneath → starts ≡ by_line starts₀ (text_starts text)

-- the lines of some text are placed
abbrev pub SomePlaced : ℕ → Listing → List ℕ → List ℕ → List ℕ → List ℕ → Type 0
SomePlaced count g starts beneath after rest = (text : List ℕ) × Placed text count g starts beneath after rest

-- lent rows, before and after lines are written: those of the process of any text whose lines are placed so
abbrev pub RowsLaid : ℕ → Listing → List ℕ → List ℕ → List ℕ → List ℕ → List ℤ → List ℤ → Type 0
RowsLaid count g starts beneath after rest rows₀ rows = (text : List ℕ) → Placed text count g starts beneath after rest → rows ≡ process_laid text rows₀

-- some text is ready
abbrev pub SomeReady : ℕ → ℕ → List ℕ → Listing → Type 0
SomeReady declared count levels g = (text : List ℕ) × Ready text declared count levels g

-- lent rows, before and after its process is written: that of any text that is ready so
abbrev pub RowsWritten : ℕ → ℕ → List ℕ → Listing → List ℤ → List ℤ → Type 0
RowsWritten declared count levels g rows₀ rows = (text : List ℕ) → Ready text declared count levels g → rows ≡ overlay rows₀ (4 * declared) (process_rows text)
