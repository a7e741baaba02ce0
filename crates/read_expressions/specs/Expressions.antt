-- The expression that listed tokens spell, and its rows as a form; their names stand by their rows.
use Rattle.std.specs.Prelude.{◌≡◌, List, true, ℕ, ◌+◌, ◌*◌, ◌≤◌, ℤ, length}
use Rattle.std.proofs.Math.Option.{Option, none, some}
use Rattle.meaning.specs.Basics.{is_some, all_some}
use Rattle.base_top_down.specs.Forms.{Form, absent, form_size, rows_from}
use Rattle.grammar.specs.Grammar.{Token, Syn}
use Rattle.grammar.specs.Machine.{phrase}
use Rattle.grammar.specs.TextRows.{expression_form}
use Rattle.read_resolved.specs.Resolved.{row_names}
use Rattle.read_expressions.specs.Overlay.{overlay}

-- the expression that tokens spell, if there are tokens
abbrev pub phrase_of : Option (List Token) → Option Syn
phrase_of none = none
phrase_of (some ts) = phrase ts

-- the expression that listed tokens spell, if each is one
unfoldable pub expression_in : List (Option Token) → Option Syn
expression_in os = phrase_of (all_some os)

-- the form of an expression, if there is one
abbrev pub form_or : List (List ℕ) → Option Syn → Form
form_or names none = absent
form_or names (some e) = expression_form names e

-- its form
unfoldable pub form_in : List (Option Token) → Form
form_in os = form_or row_names (expression_in os)

-- how many rows stand up to the end of its rows, the first of them row n
abbrev pub end_of : List (Option Token) → ℕ → ℕ
end_of os n = n + form_size (form_in os)

-- lent rows with its rows in them
abbrev pub with_rows : List (Option Token) → ℕ → List ℤ → List ℤ
with_rows os n rows = overlay rows (4 * n) (rows_from n (form_in os))

-- listed tokens spell an expression whose rows, the first of them row n, fit in a table and in what is lent
abbrev pub Writable : List (Option Token) → ℕ → List ℤ → Type 0
Writable os n rows = (is_some (expression_in os) ≡ true) × (end_of os n ≤ 1024) × (4 * end_of os n ≤ length rows)

-- as many values as sorts, and room in the two lists that are scratch
abbrev pub Scratch : List ℕ → List ℤ → List ℕ → List ℕ → Type 0
Scratch sorts values marks stack =
    (length sorts ≡ length values) × (length sorts ≤ 32768) × (length sorts ≤ length marks) × (length sorts ≤ length stack)

-- their lengths stay
abbrev pub ScratchKept : List ℕ → List ℕ → List ℕ → List ℕ → Type 0
ScratchKept marks stack marks' stack' = (length marks' ≡ length marks) × (length stack' ≡ length stack)
