-- Listed lines: where their tokens stand, and the rows that they make.
use mathlib.Core.Path.{◌≡◌, refl, sym, ap, ap₂, ◌∙◌}
use mathlib.Core.List.{List, [], ◌∷◌}
use mathlib.Core.Option.{Option, none, some, none-ne-some}
use Prim.Native.Nat.{ℕ, zero, suc, ◌+◌, ◌-◌, ◌≤◌, ◌<◌}
use native.Mathlib.Omega.{arith}
use lib.ListN.{length, get_or, drop}
use lib.Seq.{drop-cons}
use Rattle.meaning.specs.Rows.{row_count}
use Rattle.grammar.specs.Grammar.{Token}
use Rattle.grammar.specs.Machine.{phrase, reach, close}
use Rattle.grammar.specs.Outline.{OutlineLine, Lined, lined, Expect, nothing, outset}
use Rattle.grammar.specs.Lines.{cut_at_mark, single, of_cut, line_spelt}
use Rattle.grammar.specs.TextBytes.{grammar_fault}
use Rattle.grammar.specs.TextRows.{text_lines, text_rows}
use Rattle.read_levels.specs.Kinds.{expectations}
use Rattle.read_levels.specs.Listing.{Listing, start_of, LinesListed}
use Rattle.read_levels.proofs.ListingLaws.{line-there, line_before, expects-counted, kind_at, span-at, start-within, rest-after, tokens-counted}
use Rattle.read_counts.specs.OwnRows.{own_rows, line_rows, sum_rows, owns_from, owns_of}
use Rattle.read_counts.specs.TokenRows.{rows_by_kind, declaration_rows}
use Rattle.read_counts.specs.ListedRows.{Spans, own_on, rows_on, each_line, all_lines, owns_listed, rows_listed}
use Rattle.read_counts.proofs.RowsCounted.{rows-counted}
use Rattle.read_counts.proofs.KindRows.{kind-rows}

-- no line is spelt without a token
some-token : (x : OutlineLine) → line_spelt [] ≡ some x → ⊥
unfolding line_spelt cut_at_mark of_cut single phrase reach close
some-token x e = none-ne-some x e

module _ {named : ℕ → Option Token} {f : Token → Token} {ls : List Lined} {count : ℕ} {g : Listing} (h : LinesListed named f ls count g) where
  -- each line has a token
  line-wide : (j : ℕ) → j < count → start_of g.ends j < get_or g.ends j 0
  line-wide j i =
      let (l, x, rest, e) = line-there h j i in
      let t = h.line j l x rest e in
      go x t.tokens t.spelt (tokens-counted t)
    where
      go : (x : OutlineLine) (ts : List Token) → line_spelt ts ≡ some x → length ts ≡ get_or g.ends j 0 - start_of g.ends j → start_of g.ends j < get_or g.ends j 0
      go x [] s n = absurd (some-token x s)
      go x (t ∷ ts) s n = omega (arith, n)

  -- so many tokens stand before a line
  tokens-before : (j : ℕ) → j ≤ count → j ≤ start_of g.ends j
  unfolding start_of
  tokens-before zero i = omega arith
  tokens-before (suc j) i = omega (arith, line-wide j (omega arith), tokens-before j (omega arith))

  pub spans-told : Spans count g.kinds g.ends g.sorts
  spans-told = record {
    kinds-long = h.kinds-long;
    ends-long = h.ends-long;
    few = omega (arith, tokens-before count (omega arith), start-within h count (omega arith), h.short);
    short = h.short;
    span = span-at h;
  }

  -- the rows that a line itself makes, and with the row of its declaration
  line-told : (j l : ℕ) (x : OutlineLine) (rest : List Lined) → drop j ls ≡ lined l x ∷ rest
      → (own_on g.kinds g.ends g.sorts j ≡ own_rows (get_or (expectations outset ls) j nothing) x) × (rows_on g.kinds g.ends g.sorts j ≡ line_rows (get_or (expectations outset ls) j nothing) x)
  line-told j l x rest e =
      let t = h.line j l x rest e in
      let k = kind_at h j l x rest e in
      let (u, v) = kind-rows (get_or (expectations outset ls) j nothing) x t.tokens t.spelt in
      let own : own_on g.kinds g.ends g.sorts j ≡ own_rows (get_or (expectations outset ls) j nothing) x = ap₂ rows_by_kind k t.sorts-held ∙ u in
      (own, ap₂ (λ (m n : ℕ). m + n) (ap (λ (n : ℕ). declaration_rows n) k ∙ v) own)

  -- what is expected where a line stands is before what is expected later
  expected-next : (j l : ℕ) (x : OutlineLine) (rest : List Lined) → drop j ls ≡ lined l x ∷ rest
      → drop j (expectations outset ls) ≡ get_or (expectations outset ls) j nothing ∷ drop (suc j) (expectations outset ls)
  expected-next j l x rest e = drop-cons (expectations outset ls) j nothing (omega (arith, line_before h j l x rest e, expects-counted h, h.counted))

  owns-from : (rest : List Lined) (j : ℕ) → drop j ls ≡ rest → each_line (own_on g.kinds g.ends g.sorts) (length rest) j ≡ owns_from (drop j (expectations outset ls)) rest
  unfolding each_line owns_from
  owns-from [] j e = go (drop j (expectations outset ls))
    where
      go : (es : List Expect) → [] ≡ owns_from es []
      go [] = refl
      go (e ∷ es) = refl
  owns-from (lined l x ∷ rest) j e =
      ap₂ (λ (n : ℕ) (ns : List ℕ). n ∷ ns) (line-told j l x rest e).0 (owns-from rest (suc j) (rest-after ls j (lined l x) rest e))
      ∙ sym (ap (λ (es : List Expect). owns_from es (lined l x ∷ rest)) (expected-next j l x rest e))

  -- the rows that each line itself makes
  pub owns-told : owns_listed count g.kinds g.ends g.sorts ≡ owns_of ls
  unfolding owns_listed
  owns-told = ap (λ (n : ℕ). each_line (own_on g.kinds g.ends g.sorts) n 0) h.counted ∙ owns-from ls 0 refl

  rows-from : (rest : List Lined) (j : ℕ) → drop j ls ≡ rest → all_lines (rows_on g.kinds g.ends g.sorts) (length rest) j ≡ sum_rows line_rows (drop j (expectations outset ls)) rest
  unfolding all_lines sum_rows
  rows-from [] j e = go (drop j (expectations outset ls))
    where
      go : (es : List Expect) → 0 ≡ sum_rows line_rows es []
      go [] = refl
      go (e ∷ es) = refl
  rows-from (lined l x ∷ rest) j e =
      ap₂ (λ (m n : ℕ). m + n) (line-told j l x rest e).1 (rows-from rest (suc j) (rest-after ls j (lined l x) rest e))
      ∙ sym (ap (λ (es : List Expect). sum_rows line_rows es (lined l x ∷ rest)) (expected-next j l x rest e))

-- the lines of a text make its rows
pub rows_told : {named : ℕ → Option Token} {f : Token → Token} {count : ℕ} {g : Listing} (text : List ℕ) → grammar_fault text ≡ none → LinesListed named f (text_lines text) count g
    → rows_listed count g.kinds g.ends g.sorts ≡ row_count (text_rows text)
unfolding rows_listed
rows_told {g = g} text q h =
    ap (λ (n : ℕ). all_lines (rows_on g.kinds g.ends g.sorts) n 0) h.counted
    ∙ rows-from h (text_lines text) 0 refl
    ∙ sym (rows-counted text q)
