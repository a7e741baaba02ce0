-- The forms of a line's parts, told from its tokens before and after its first mark; names are the numbers of rows.
use Rattle.std.specs.Prelude.{◌≡◌, Bool, true, false, ◌||◌, List, map, ℕ, ◌+◌, ◌*◌, ◌≤◌, ◌<◌, ℤ, length, eqb}
use Rattle.std.proofs.Math.Option.{Option, none, some}
use Rattle.meaning.specs.Basics.{if_else, is_some, all_some}
use Rattle.base_top_down.specs.Forms.{Form, absent, number, row, form_size, rows_from}
use Rattle.grammar.specs.Grammar.{Token, Syn, literal, bare, at, monadic, dyadic}
use Rattle.grammar.specs.Outline.{Declaration, OutlineLine}
use Rattle.grammar.specs.Lines.{line_spelt}
use Rattle.grammar.specs.Names.{declaration_in}
use Rattle.grammar.specs.TextRows.{unused, bare_row}
use Rattle.read_tokens.specs.Sorts as sorts
use Rattle.read_tokens.specs.Held.{tokens_resolved}
use Rattle.read_classes.specs.Parts.{sort_of, Parting, part_at_mark}
use Rattle.read_layout.specs.Layout.{link_to}
use Rattle.read_expressions.specs.Overlay.{overlay}
use Rattle.read_expressions.specs.Expressions.{expression_in, form_in}

-- lent rows with those of a form, from row n on
abbrev pub with_form : Form → ℕ → List ℤ → List ℤ
with_form f n rows = overlay rows (4 * n) (rows_from n f)

-- the rows of a form fit in a table and in what is lent
abbrev pub FormFits : Form → ℕ → List ℤ → Type 0
FormFits f n rows = (n + form_size f ≤ 1024) × (4 * (n + form_size f) ≤ length rows)

-- rows written from row n on, up to row r: those of a form that refers to b rows beneath it
abbrev pub Laid : (Form → Form) → ℕ → ℕ → ℕ → List ℤ → List ℤ → Type 0
Laid F n b r rows out = (r ≡ n + form_size (F absent)) × (out ≡ with_form (F (number (link_to b (n + form_size (F absent))))) n rows)

-- Tokens ----------------------------------------------------------------------------------------------------------------------------

-- each sort is that of the token listed with it
abbrev pub SortsHeld : List ℕ → List ℤ → Type 0
SortsHeld ss vs = ss ≡ map sort_of (tokens_resolved ss vs)

-- the line that tokens spell
abbrev pub line_of_tokens : Option (List Token) → Option OutlineLine
line_of_tokens none = none
line_of_tokens (some ts) = line_spelt ts

-- the line that listed tokens spell
abbrev pub line_listed : List (Option Token) → Option OutlineLine
line_listed os = line_of_tokens (all_some os)

-- the declaration that a line is
abbrev pub declaration_of : Option OutlineLine → Option Declaration
declaration_of none = none
declaration_of (some x) = declaration_in x

-- the declaration that listed tokens spell
abbrev pub declaration_listed : List (Option Token) → Option Declaration
declaration_listed os = declaration_of (line_listed os)

-- Lines -----------------------------------------------------------------------------------------------------------------------------

-- the form of an element with another kind and a field c
abbrev pub as_kind : ℕ → Form → Form → Form
as_kind k absent f = absent
as_kind k (number z) f = absent
as_kind k (row j a b c) f = row k a b f

-- an assignment, input or output
abbrev pub exchange_form : ℕ → Parting → Form
exchange_form k p = as_kind k (form_in p.before) (form_in p.after)

-- WHILE, with what stands beneath it
abbrev pub while_form : Parting → Form → Form
while_form p b = row 33 (form_in p.after) b unused

-- a process with what stands beneath it, by the first mark of its line
unfoldable pub process_by : Parting → Form → Form
process_by p b =
    if_else (eqb p.sort sorts.skip) (bare_row 21)
    (if_else (eqb p.sort sorts.stop) (bare_row 20)
    (if_else (eqb p.sort sorts.seq) (row 30 b unused unused)
    (if_else (eqb p.sort sorts.par) (row 31 b unused unused)
    (if_else (eqb p.sort sorts.if) (row 32 b unused unused)
    (if_else (eqb p.sort sorts.alt) (row 34 b unused unused)
    (if_else (eqb p.sort sorts.while) (while_form p b)
    (if_else (eqb p.sort sorts.becomes) (exchange_form 22 p)
    (if_else (eqb p.sort sorts.asks) (exchange_form 23 p)
    (if_else (eqb p.sort sorts.tells) (exchange_form 24 p) absent)))))))))

-- its rows without those beneath it
abbrev pub size_by : Parting → ℕ
size_by p = form_size (process_by p absent)

-- lent rows with them from row n on; so many rows stand beneath it
abbrev pub part_laid : Parting → ℕ → ℕ → List ℤ → List ℤ
part_laid p n b rows = with_form (process_by p (number (link_to b (n + size_by p)))) n rows

-- what a guard waits for: an input, or SKIP
abbrev pub event_form : Parting → Form
event_form p = if_else (eqb p.sort sorts.asks) (exchange_form 23 p) (bare_row 21)

-- an expression and what is waited for where it holds
abbrev pub guarded_form : Parting → Form
guarded_form p = row 43 (form_in p.before) (event_form (part_at_mark p.after)) unused

-- a guard
unfoldable pub guard_by : Parting → Form
guard_by p = if_else (eqb p.sort sorts.ampersand) (guarded_form p) (event_form p)

-- What the parts must be ------------------------------------------------------------------------------------------------------------

-- whether an expression is an element
abbrev pub element_syn : Option Syn → Bool
element_syn none = false
element_syn (some (literal z)) = false
element_syn (some (bare n)) = true
element_syn (some (at n e)) = true
element_syn (some (monadic k e)) = false
element_syn (some (dyadic k e f)) = false

-- an element stands before a mark and an expression after it
abbrev pub Exchanges : Parting → Type 0
Exchanges p = (element_syn (expression_in p.before) ≡ true) × (is_some (expression_in p.after) ≡ true)

-- and their rows fit
abbrev pub ExchangeWritable : ℕ → Parting → ℕ → List ℤ → Type 0
ExchangeWritable k p n rows = Exchanges p × FormFits (exchange_form k p) n rows

-- an expression stands after WHILE, and the rows fit
abbrev pub WhileWritable : Parting → ℕ → List ℤ → Type 0
WhileWritable p n rows = (is_some (expression_in p.after) ≡ true) × FormFits (while_form p absent) n rows

-- whether a mark stands between an element and an expression
abbrev pub is_exchange : ℕ → Bool
is_exchange s = eqb s sorts.becomes || (eqb s sorts.asks || eqb s sorts.tells)

-- the parts of a process are what its mark asks for
pub record ProcessRead (p : Parting) : Type 0 where
  pub repeats : eqb p.sort sorts.while ≡ true → is_some (expression_in p.after) ≡ true
  pub exchanges : is_exchange p.sort ≡ true → Exchanges p

-- and its rows fit, with so many beneath it
pub record ProcessWritable (p : Parting) (n b : ℕ) (rows : List ℤ) : Type 0 where
  pub read : ProcessRead p
  pub few : n + size_by p + b ≤ 1024
  pub long : 4 * (n + size_by p) ≤ length rows

-- so of what a guard waits for
abbrev pub EventRead : Parting → Type 0
EventRead p = eqb p.sort sorts.asks ≡ true → Exchanges p

-- and its rows fit
abbrev pub EventWritable : Parting → ℕ → List ℤ → Type 0
EventWritable p n rows = EventRead p × FormFits (event_form p) n rows

-- of an expression with it
abbrev pub GuardedRead : Parting → Type 0
GuardedRead p = (is_some (expression_in p.before) ≡ true) × EventRead (part_at_mark p.after)

-- and their rows fit
abbrev pub GuardedWritable : Parting → ℕ → List ℤ → Type 0
GuardedWritable p n rows = GuardedRead p × FormFits (guarded_form p) n rows

-- and of a guard
pub record GuardRead (p : Parting) : Type 0 where
  pub guarded : eqb p.sort sorts.ampersand ≡ true → GuardedRead p
  pub alone : eqb p.sort sorts.ampersand ≡ false → EventRead p

-- and its rows fit
abbrev pub GuardWritable : Parting → ℕ → List ℤ → Type 0
GuardWritable p n rows = GuardRead p × FormFits (guard_by p) n rows

-- a declaration, and the row of its block fits
abbrev pub BlockWritable : List (Option Token) → ℕ → List ℤ → Type 0
BlockWritable os n rows = (is_some (declaration_listed os) ≡ true) × (n < 1024) × (4 * n + 4 ≤ length rows)
