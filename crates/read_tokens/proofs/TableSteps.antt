-- A table looked through from a line on, and what a table means that has a line for each entry.
use mathlib.Core.Path.{◌≡◌, refl, ap, ◌∙◌}
use mathlib.Core.Bool.{Bool, true, false}
use mathlib.Core.List.{List, [], ◌∷◌, map}
use mathlib.Core.Option.{some}
use Rattle.std.specs.Prelude.{Option, Some, None}
use Prim.Native.Nat.{ℕ, suc, ◌+◌, ◌≤◌, ◌<◌}
use native.Mathlib.Numerals.{add-one}
use lib.ListN.{length, get_or, drop, drop_of_length-le}
use lib.Seq.{drop-cons}
use Rattle.meaning.specs.Basics.{if_else}
use Rattle.meaning.specs.Lines.{same}
use Rattle.grammar.specs.Tokens.{TokenEntry, token_spelt}
use Rattle.grammar.proofs.LinesSound.{split-and}
use Rattle.read_tokens.specs.Lexemes.{token_lexeme, lexeme_of}
use Rattle.read_tokens.specs.Table.{short, all_short, line_spelling, line_lexeme, lexeme_in}
use Rattle.read_tokens.specs.declared.Lexeme.{Lexeme}

module _ (t : List (List ℕ)) (s : List ℕ) (at : ℕ) where
  -- no line is left
  pub not_there : length t ≤ at → lexeme_in (drop at t) s ≡ None
  unfolding lexeme_in
  not_there h = rw (drop_of_length-le t h)

  module _ (h : at < length t) where
    -- the line has room for its spelling, and so has each after it
    pub line-short : all_short (drop at t) ≡ true → (short (get_or t at []) ≡ true) × (all_short (drop (at + 1) t) ≡ true)
    unfolding all_short
    line-short e = rw (add-one at) (split-and (short (get_or t at [])) (all_short (drop (suc at) t)) (rw (drop-cons t at [] h) at e))

    -- the line spells the bytes
    pub line-found : same s (line_spelling (get_or t at [])) ≡ true → lexeme_in (drop at t) s ≡ Some (line_lexeme (get_or t at []))
    unfolding lexeme_in
    line-found e = rw (drop-cons t at [] h, e)

    -- it does not
    pub line-passed : same s (line_spelling (get_or t at [])) ≡ false → lexeme_in (drop at t) s ≡ lexeme_in (drop (at + 1) t) s
    unfolding lexeme_in
    line-passed e = rw (add-one at, drop-cons t at [] h, e)

-- a spelling and its token
pub record Spelt : Type 0 where
  pub spelling : List ℕ
  pub lexeme : Lexeme

abbrev pub line_means : List ℕ → Spelt
line_means l = record { spelling = line_spelling l; lexeme = line_lexeme l }

abbrev pub entry_means : TokenEntry → Spelt
entry_means e = record { spelling = e.spelling; lexeme = token_lexeme e.token }

lexeme_among : List Spelt → List ℕ → Option Lexeme
lexeme_among [] s = None
lexeme_among (x ∷ xs) s = if_else (same s x.spelling) (Some x.lexeme) (lexeme_among xs s)

among-lines : (t : List (List ℕ)) (s : List ℕ) → lexeme_in t s ≡ lexeme_among (map line_means t) s
unfolding lexeme_in lexeme_among
among-lines [] s = refl
among-lines (l ∷ t) s = ap (λ (x : Option Lexeme). if_else (same s (line_spelling l)) (Some (line_lexeme l)) x) (among-lines t s)

among-entries : (es : List TokenEntry) (s : List ℕ) → lexeme_among (map entry_means es) s ≡ lexeme_of (token_spelt es s)
unfolding lexeme_among token_spelt
among-entries [] s = refl
among-entries (e ∷ es) s = go (same s e.spelling) (among-entries es s)
  where
    go : (b : Bool) → lexeme_among (map entry_means es) s ≡ lexeme_of (token_spelt es s)
        → if_else b (Some (token_lexeme e.token)) (lexeme_among (map entry_means es) s) ≡ lexeme_of (if_else b (some e.token) (token_spelt es s))
    go true i = refl
    go false i = i

-- a table with a line for each entry has the entries' tokens
pub table-means : (es : List TokenEntry) (t : List (List ℕ)) (s : List ℕ) → map line_means t ≡ map entry_means es → lexeme_in t s ≡ lexeme_of (token_spelt es s)
table-means es t s e = among-lines t s ∙ ap (λ (xs : List Spelt). lexeme_among xs s) e ∙ among-entries es s
