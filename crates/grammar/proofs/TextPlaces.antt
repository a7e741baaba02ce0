-- The claims of a text, from those of its lines: the bytes of a line decide which line it is, and SKIP can be written at every level.
use mathlib.Core.Path.{◌≡◌, refl, sym, ap, subst, ◌∙◌}
use mathlib.Core.Bool.{Bool, true, false}
use mathlib.Core.Logic.{◌↔◌}
use mathlib.Core.List.{List, [], ◌∷◌, ◌++◌, map, flatten}
use mathlib.Core.Option
use mathlib.Core.Option.{Option, none, some, none-ne-some, some-injective}
use Prim.Native.Nat.{ℕ, zero, suc, ◌<◌, ◌≤◌}
use native.Mathlib.Omega.{arith}
use borrow.Author.Tests.{eqb-false, ltb-true, ltb-false}
use lib.Dec.{eqb}
use lib.ListN.{length}
use Rattle.meaning.specs.Basics.{if_else, all_some}
use Rattle.meaning.specs.Texts.{bytes, line_feed}
use Rattle.meaning.specs.Lines.{lines, ending, text, same}
use Rattle.meaning.specs.PrintedForms.{each_none, each_more}
use Rattle.meaning.specs.ByteClaims.{NoFeed}
use Rattle.meaning.proofs.LineLaws.{text-whole, whole-line, concat-lines}
use Rattle.meaning.proofs.LineIsLaws.{no-feed}
use Rattle.grammar.specs.Grammar.{Token, mark, a-skip}
use Rattle.grammar.specs.Outline.{OutlineLine, Lined, lined, Trees}
use Rattle.grammar.specs.Lines.{skips, word, line_spelt}
use Rattle.grammar.specs.Scan.{space, glue, items, read, tokens}
use Rattle.grammar.specs.Tokens.{token_spelt, words, all_word_bytes, is_word, or_name, token_of}
use Rattle.grammar.specs.Places.{Spelt, done, next, Document, Fault, fault_line, Lines}
use Rattle.grammar.specs.LineBytes.{Written, written, Indented, deeper, line_from_bytes, IsLine, is-line, at_level, lined_of, line_of_bytes}
use Rattle.grammar.specs.TextBytes.{max_text, IsTextLine, read_line, text_line, overlong, grammar_fault}
use Rattle.grammar.specs.OutlineClaims.{Text}
use Rattle.grammar.specs.TextRows.{or_none, text_lines}
use Rattle.grammar.specs.TextClaims.{OfGrammar, NotOfGrammar, too_long, at-line, GrammarExactly, OneReading}
use Rattle.grammar.proofs.LineRead.{line-complete, line-sound}
use Rattle.grammar.proofs.Indents.{line-bytes-exact}
use Rattle.grammar.proofs.Places.{read-unique, fault-exact}

line_read : {bs : List ℕ} {y : Lined} → IsLine bs y → line_of_bytes bs ≡ some y
unfolding line_of_bytes
line_read (is-line {l} {ts} {x} {bs} p s) = ap lined_of ((line-bytes-exact bs (written l ts)).0 p) ∙ ap (at_level l) (line-complete ts x s)

line-from : (bs : List ℕ) (y : Lined) → line_of_bytes bs ≡ some y → IsLine bs y
unfolding line_of_bytes
line-from bs y h = go (line_from_bytes bs) refl h
  where
    level : (l : ℕ) (ts : List Token) (o : Option OutlineLine) → Indented (written l ts) bs → line_spelt ts ≡ o → at_level l o ≡ some y → IsLine bs y
    level l ts none p q h = absurd (none-ne-some y h)
    level l ts (some x) p q h = subst (λ (z : Lined). IsLine bs z) (some-injective (lined l x) y h) (is-line p (line-sound ts x q))

    go : (o : Option Written) → line_from_bytes bs ≡ o → lined_of o ≡ some y → IsLine bs y
    go none q h = absurd (none-ne-some y h)
    go (some (written l ts)) q h = level l ts (line_spelt ts) ((line-bytes-exact bs (written l ts)).1 q) refl h

skip_read : line_from_bytes (bytes "SKIP") ≡ some (written 0 (mark a-skip ∷ []))
unfolding line_from_bytes tokens items glue read token_of is_word all_word_bytes token_spelt words same or_name
skip_read = refl

-- SKIP at a level
skip-line : (l : ℕ) → (bs : List ℕ) × Indented (written l (mark a-skip ∷ [])) bs
skip-line zero = (bytes "SKIP", (line-bytes-exact (bytes "SKIP") (written 0 (mark a-skip ∷ []))).1 skip_read)
skip-line (suc l) = let (bs, p) = skip-line l in (space ∷ space ∷ bs, deeper p)

-- what stands before a line feed has none
text-plain : (l t : List ℕ) → text l ≡ some t → NoFeed t
unfolding text
text-plain [] t e = absurd (none-ne-some t e)
text-plain (b ∷ l) t e = go (eqb b line_feed) refl (λ u. text-plain l u) e
  where
    none_after : (l : List ℕ) → ending l ≡ some t → NoFeed t
    none_after [] e = subst NoFeed (some-injective [] t e) each_none
    none_after (c ∷ l) e = absurd (none-ne-some t e)

    before : (o : Option (List ℕ)) → text l ≡ o → eqb b line_feed ≡ false → ((u : List ℕ) → text l ≡ some u → NoFeed u) → Option.map (λ u. b ∷ u) o ≡ some t → NoFeed t
    before none q i further e = absurd (none-ne-some t e)
    before (some u) q i further e = subst NoFeed (some-injective (b ∷ u) t e) (each_more (eqb-false b line_feed i) (further u q))

    go : (c : Bool) → eqb b line_feed ≡ c → ((u : List ℕ) → text l ≡ some u → NoFeed u) → if_else c (ending l) (Option.map (λ u. b ∷ u) (text l)) ≡ some t → NoFeed t
    go true i further e = none_after l e
    go false i further e = before (text l) refl i further e

pub fed-read : (line : List ℕ) (y : Lined) → IsTextLine line y → text_line line ≡ some y
fed-read line y (t, n, e, p) = ap read_line (ap text e ∙ text-whole t (no-feed n)) ∙ line_read p

fed-from : (line : List ℕ) (y : Lined) → text_line line ≡ some y → IsTextLine line y
fed-from line y h = go (text line) refl h
  where
    go : (o : Option (List ℕ)) → text line ≡ o → read_line o ≡ some y → IsTextLine line y
    go none e h = absurd (none-ne-some y h)
    go (some t) e h = (t, text-plain line t e, (whole-line line t e).0, line-from t y h)

-- a byte that is not 10 is no line feed
plain : {b : ℕ} {t : List ℕ} → eqb b line_feed ≡ false → NoFeed t → NoFeed (b ∷ t)
plain {b} e h = each_more (eqb-false b line_feed e) h

skip-plain : (l : ℕ) → NoFeed (skip-line l).0
unfolding skip-line
skip-plain zero = plain refl (plain refl (plain refl (plain refl each_none)))
skip-plain (suc l) = plain refl (plain refl (skip-plain l))

fed-lines : Lines IsTextLine text_line
fed-lines = record { exact = λ line y. (fed-read line y, fed-from line y); skips = λ l. let (t, p) = skip-line l in (t ++ (line_feed ∷ []), (t, skip-plain l, refl, is-line p (word skips))) }

-- lines of the grammar are read one by one
pub lines_are : {bs : List (List ℕ)} {ls : List Lined} → Spelt IsTextLine text_line bs ls → all_some (map text_line bs) ≡ some ls
unfolding all_some
lines_are done = refl
lines_are (next {b} {y} p s) = rw (fed-read b y p, lines_are s)

-- lines of the grammar, one after the other, are the lines of their bytes
cut_again : {bs : List (List ℕ)} {ls : List Lined} → Spelt IsTextLine text_line bs ls → lines (flatten bs) ≡ bs
unfolding lines flatten
cut_again done = refl
cut_again (next {b} {bs = bs} p s) =
    let (t, n, e, _) = p in
    (whole-line b t (ap text e ∙ text-whole t (no-feed n))).1 (flatten bs) ∙ ap (λ (more : List (List ℕ)). b ∷ more) (cut_again s)

-- a text of the grammar, by the lines that its bytes are cut into
pub by_lines : (text : List ℕ) (ps : Trees) → OfGrammar text ps ↔ ((length text ≤ max_text) × Document IsTextLine text_line (lines text) ps)
by_lines text ps = (to, λ g. (g.0, (lines text, sym (concat-lines text), g.1)))
  where
    to : OfGrammar text ps → (length text ≤ max_text) × Document IsTextLine text_line (lines text) ps
    to (h, (bs, e, d)) = (h, subst (λ (ls : List (List ℕ)). Document IsTextLine text_line ls ps) (sym (ap lines e ∙ cut_again d.1)) d)

pub one-reading : OneReading
one-reading text ps qs p q = read-unique IsTextLine text_line fed-lines (lines text) ps qs ((by_lines text ps).0 p).1 ((by_lines text qs).0 q).1

-- of a text that is no longer than it may be
short-enough : (text : List ℕ) → length text ≤ max_text
    → (fault_line IsTextLine text_line (lines text) ≡ none ↔ ((ps : Trees) × OfGrammar text ps)) × ((n : ℕ) → (fault_line IsTextLine text_line (lines text) ≡ some n) ↔ NotOfGrammar text n)
short-enough text h =
    let (whole, at) = fault-exact IsTextLine text_line fed-lines (lines text) in (
      (λ e. let (ps, d) = whole.0 e in (ps, (by_lines text ps).1 (h, d)), λ w. let (ps, g) = w in whole.1 (ps, ((by_lines text ps).0 g).1)),
      λ n. (λ e. at-line h ((at n).0 e), λ f. (at n).1 (inside-text f)),
    )
  where
    inside-text : {n : ℕ} → NotOfGrammar text n → Fault IsTextLine text_line (lines text) n
    inside-text (too_long l) = absurd (omega arith)
    inside-text (at-line l f) = f

-- of one that is too long
past-limit : (text : List ℕ) → max_text < length text → (◌≡◌ {A = Option ℕ} (some 0) none ↔ ((ps : Trees) × OfGrammar text ps)) × ((n : ℕ) → (some 0 ≡ some n) ↔ NotOfGrammar text n)
past-limit text h = (
  (λ e. absurd (none-ne-some 0 (sym e)), λ w. let (ps, d) = w in let l = d.0 in absurd (omega arith)),
  λ n. (λ e. subst (NotOfGrammar text) (some-injective 0 n e) (too_long h), at_zero),
)
  where
    at_zero : {n : ℕ} → NotOfGrammar text n → some 0 ≡ some n
    at_zero (too_long l) = refl
    at_zero (at-line l f) = absurd (omega arith)

pub grammar-exactly : GrammarExactly
unfolding grammar_fault
grammar-exactly text = go (overlong text) refl
  where
    go : (b : Bool) → overlong text ≡ b → (if_else b (some 0) (fault_line IsTextLine text_line (lines text)) ≡ none ↔ ((ps : Trees) × OfGrammar text ps))
        × ((n : ℕ) → (if_else b (some 0) (fault_line IsTextLine text_line (lines text)) ≡ some n) ↔ NotOfGrammar text n)
    go true e = past-limit text (ltb-true max_text (length text) e)
    go false e = short-enough text (ltb-false max_text (length text) e)

-- a text that is not refused by 12: its lines are of the grammar, declarations and one process
pub text-lines : (text : List ℕ) → grammar_fault text ≡ none
    → (length text ≤ max_text) × Spelt IsTextLine text_line (lines text) (text_lines text) × ((ps : Trees) × Text (text_lines text) ps)
unfolding text_lines
text-lines text e =
    let (ps, g) = (grammar-exactly text).0.0 e in
    let (short, (ls, s, w)) = (by_lines text ps).0 g in
    let same : text_lines text ≡ ls = ap or_none (lines_are s) in
    (short, subst (λ (ms : List Lined). Spelt IsTextLine text_line (lines text) ms) (sym same) s, (ps, subst (λ (ms : List Lined). Text ms ps) (sym same) w))
