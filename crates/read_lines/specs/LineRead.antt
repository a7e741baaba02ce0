-- A line of a text whose tokens are listed.
use Rattle.std.specs.Prelude as lines
use Rattle.std.specs.Prelude.{◌≡◌, Some, None, List, map, ℕ, ◌+◌, ◌≤◌, ◌<◌, ℤ, length, take, drop}
use Rattle.std.proofs.Math.Option.{Option, none, some}
use Rattle.meaning.specs.Lines as bytes
use Rattle.meaning.specs.Lines.{line_size}
use Rattle.grammar.specs.Grammar.{Token}
use Rattle.grammar.specs.LineBytes.{Written, written, line_from_bytes, lined_of}
use Rattle.grammar.specs.TextBytes.{text_line}
use Rattle.read_tokens.specs.Held.{token_sort, part, tokens_held}
use Rattle.read_lines.specs.LineParts.{line_from}
use Rattle.read_lines.specs.declared.Listed.{Listed}

-- the level and tokens that bytes without their line feed are
abbrev pub written_in : Option (List ℕ) → Option Written
written_in none = none
written_in (some t) = line_from_bytes t

-- a line's level and tokens: none without its line feed, or if its bytes are not spelt
abbrev pub line_written : List ℕ → Option Written
line_written line = written_in (bytes.text line)

-- the line of the grammar that a line is, by its level and tokens
abbrev pub TextLine : Type 0
TextLine = (line : List ℕ) → text_line line ≡ lined_of (line_written line)

-- the line at a place is spelt: its level, where it ends, and its tokens in the lists from a place on
pub record SpeltLine (text : List ℕ) (at first : ℕ) (r : Listed) (sorts : List ℕ) (values : List ℤ) : Type 0 where
  pub tokens : List Token
  pub is-written : line_written (line_from text at) ≡ some (written r.level tokens)
  pub next-is : r.next ≡ at + line_size (drop at text)
  pub inside : (at < r.next) × (r.next ≤ length text)
  pub counted : r.count ≡ first + length tokens
  pub few : r.count ≤ r.next
  pub sorts-held : part sorts first r.count ≡ map token_sort tokens
  pub values-held : tokens_held text (part sorts first r.count) (part values first r.count) ≡ map some tokens

-- the line at a place is read: the lists before a place are kept, and the line is spelt, or none is listed and it is none of the grammar
pub record LineRead (text : List ℕ) (at first : ℕ) (sorts : List ℕ) (values : List ℤ) (r : lines.Option Listed) (sorts' : List ℕ) (values' : List ℤ) : Type 0 where
  pub sorts-length : length sorts' ≡ length sorts
  pub values_length : length values' ≡ length values
  pub sorts-kept : take first sorts' ≡ take first sorts
  pub values-kept : take first values' ≡ take first values
  pub refused : r ≡ None → line_written (line_from text at) ≡ none
  pub read : (l : Listed) → r ≡ Some l → SpeltLine text at first l sorts' values'
