-- The bytes of a line without its line feed: two spaces for each level, then tokens.
use Rattle.std.specs.Prelude.{◌≡◌, ◌&&◌, ◌↔◌, List, [], ◌∷◌, ℕ, suc, eqb}
use Rattle.std.proofs.Math.Option.{Option, none, some}
use Rattle.meaning.specs.Basics.{if_else}
use Rattle.grammar.specs.Grammar.{Token}
use Rattle.grammar.specs.Scan.{space, start, Rendered, tokens}
use Rattle.grammar.specs.Tokens.{token_of, hang, needs_space}
use Rattle.grammar.specs.Outline.{OutlineLine, Lined, lined}
use Rattle.grammar.specs.Lines.{Spells, line_spelt}

-- bytes that spell tokens, and the tokens that bytes spell
abbrev pub Body : List Token → List ℕ → Type 0
Body ts bs = Rendered token_of hang needs_space start ts bs

abbrev pub body_of : List ℕ → Option (List Token)
body_of bs = tokens token_of hang needs_space bs

abbrev pub TokensExact : Type 0
TokensExact = (bs : List ℕ) (ts : List Token) → (Body ts bs → body_of bs ≡ some ts) × (body_of bs ≡ some ts → Body ts bs)

-- a line's level and tokens
pub data Written : Type 0 where
  written : ℕ → List Token → Written

pub data Indented : Written → List ℕ → Type 0 where
  here : {ts : List Token} {bs : List ℕ} → Body ts bs → Indented (written 0 ts) bs
  deeper : {l : ℕ} {ts : List Token} {bs : List ℕ} → Indented (written l ts) bs → Indented (written (suc l) ts) (space ∷ space ∷ bs)

abbrev pub at_zero : Option (List Token) → Option Written
at_zero none = none
at_zero (some ts) = some (written 0 ts)

abbrev pub down : Option Written → Option Written
down none = none
down (some (written l ts)) = some (written (suc l) ts)

-- the line that some bytes are
unfoldable pub line_from_bytes : List ℕ → Option Written
line_from_bytes [] = at_zero (body_of [])
line_from_bytes (b ∷ []) = at_zero (body_of (b ∷ []))
line_from_bytes (b ∷ c ∷ bs) = let rest = line_from_bytes bs in if_else (eqb b space && eqb c space) (down rest) (at_zero (body_of (b ∷ c ∷ bs)))

abbrev pub LineBytesExact : Type 0
LineBytesExact = (bs : List ℕ) (w : Written) → Indented w bs ↔ (line_from_bytes bs ≡ some w)

-- the bytes are a line of the grammar at a level
pub data IsLine : List ℕ → Lined → Type 0 where
  is-line : {l : ℕ} {ts : List Token} {x : OutlineLine} {bs : List ℕ} → Indented (written l ts) bs → Spells ts x → IsLine bs (lined l x)

abbrev pub at_level : ℕ → Option OutlineLine → Option Lined
at_level l none = none
at_level l (some x) = some (lined l x)

abbrev pub lined_of : Option Written → Option Lined
lined_of none = none
lined_of (some (written l ts)) = at_level l (line_spelt ts)

unfoldable pub line_of_bytes : List ℕ → Option Lined
line_of_bytes bs = lined_of (line_from_bytes bs)
