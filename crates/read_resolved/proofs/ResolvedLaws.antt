-- Tokens with their names resolved spell the line with its names resolved, by induction on the grammar; by the numbers of rows it has the forms of the line.
use mathlib.Core.Path.{◌≡◌, refl, sym, ap, subst}
use mathlib.Core.Bool.{Bool, true, false}
use mathlib.Core.List.{List, [], ◌∷◌, ◌++◌, map, map-append}
use Prim.Native.Nat.{ℕ, zero, suc, ◌+◌, ◌≤◌}
use native.Mathlib.Omega.{arith}
use borrow.Author.Tests.{eq-eqb, ne_eqb}
use lib.ListN.{length}
use Rattle.meaning.specs.Basics.{if_else}
use Rattle.meaning.specs.Lines.{same}
use Rattle.base_top_down.specs.Forms.{Form}
use Rattle.grammar.specs.Grammar.{Link, Mark, a-skip, becomes, asks, tells, ampersand, Token, name, joins, round-open, round-close, square-open, square-close, mark, Syn, literal, bare, at, monadic, dyadic, link_number, Before, minus-before, not-before, Between, minus-between, arith-between, Element, alone, subscripted, Operand, element, numeral, bracketed, Phrase, plain, prefixed, asked, paired, chained, Chain, last-operand, more}
use Rattle.grammar.specs.Outline.{Declaration, variable, channel, source, sink, OutlineLine, declare, skip, stop, assign, input, output, seq, par, ifs, alts, while, test, guarded, allowed}
use Rattle.grammar.specs.Lines.{Alone, skips, stops, seqs, pars, chooses, selects, ints, chans, Header, scalar, array, host-in, host-out, Spells, declares, word, repeats, assigns, inputs, outputs, tests, guards, allows}
use Rattle.grammar.specs.Names.{declaration_in}
use Rattle.grammar.specs.Classes.{class_of}
use Rattle.grammar.specs.TextRows.{name_row, expression_form, element_row, process_form, test_form, guard_form, block_form}
use Rattle.grammar.proofs.LineRead.{line-complete, line-sound}
use Rattle.read_tokens.specs.Held.{row_limit}
use Rattle.read_resolved.specs.Resolved.{numbered_from, row_names, resolved_name, resolved_token, resolved_syn, resolved_declaration, resolved_line, RowNamed, LineResolved, LineForms}

-- Names -----------------------------------------------------------------------------------------------------------------------------

-- the numbers from one on are found as how far they are from it
found_from : (k n i : ℕ) → i ≤ n → name_row (numbered_from k n) ((k + i) ∷ []) ≡ i
unfolding name_row numbered_from same
found_from k zero i h = omega (arith, h)
found_from k (suc n) zero h = rw (eq-eqb (k + 0) k (omega arith)) refl
found_from k (suc n) (suc i) h =
    let e : suc k + i ≡ k + suc i = omega arith in
    let r : name_row (numbered_from (suc k) n) ((k + suc i) ∷ []) ≡ i = subst (λ (m : ℕ). name_row (numbered_from (suc k) n) (m ∷ []) ≡ i) e (found_from (suc k) n i (omega (arith, h))) in
    rw (ne_eqb (k + suc i) k (λ q. omega (arith, q))) (ap suc r)

pub row_named : RowNamed
unfolding row_names
row_named k h = subst (λ (m : ℕ). name_row (numbered_from 0 row_limit) (m ∷ []) ≡ k) (omega arith) (found_from 0 row_limit k h)

-- a name means one of the rows, or the one after them
pub name-low : (names : List (List ℕ)) (n : List ℕ) → name_row names n ≤ length names
unfolding name_row
name-low [] n = omega arith
name-low (m ∷ ms) n = go (same n m) (name-low ms n)
  where
    go : (t : Bool) → name_row ms n ≤ length ms → if_else t 0 (suc (name_row ms n)) ≤ suc (length ms)
    go true h = omega arith
    go false h = omega (arith, h)

-- Lines -----------------------------------------------------------------------------------------------------------------------------

module _ (names : List (List ℕ)) where
  abbrev resolved_tokens : List Token → List Token
  resolved_tokens ts = map (resolved_token names) ts

  before-kept : {t : Token} {k : ℕ} → Before t k → Before (resolved_token names t) k
  before-kept minus-before = minus-before
  before-kept not-before = not-before

  between-kept : {t : Token} {k : ℕ} → Between t k → Between (resolved_token names t) k
  between-kept minus-between = minus-between
  between-kept arith-between = arith-between

  abbrev ElementKept : List Token → Syn → Type 0
  ElementKept ts e = Element (resolved_tokens ts) (resolved_syn names e)

  abbrev OperandKept : List Token → Syn → Type 0
  OperandKept ts e = Operand (resolved_tokens ts) (resolved_syn names e)

  abbrev PhraseKept : List Token → Syn → Type 0
  PhraseKept ts e = Phrase (resolved_tokens ts) (resolved_syn names e)

  abbrev ChainKept : Link → List Token → Syn → Type 0
  ChainKept l ts e = Chain l (resolved_tokens ts) (resolved_syn names e)

  -- tokens with tokens after them
  joined : (P : List Token → Type 0) (ts us : List Token) → P (resolved_tokens ts ++ resolved_tokens us) → P (resolved_tokens (ts ++ us))
  joined P ts us h = subst P (sym (map-append (resolved_token names) ts us)) h

  phrase-kept : {ts : List Token} {e : Syn} → Phrase ts e → PhraseKept ts e
  phrase-kept p = elim p as (λ ts e q. ElementKept ts e) (λ ts e q. OperandKept ts e) (λ ts e q. PhraseKept ts e) (λ l ts e q. ChainKept l ts e) [
    | alone {n} ↦ alone
    | subscripted {n} {ts} {e} (q → h) ↦ joined (λ us. Element (name (resolved_name names n) ∷ square-open ∷ us) (at (resolved_name names n) (resolved_syn names e))) ts (square-close ∷ []) (subscripted h)
    | element (q → h) ↦ element h
    | numeral {z} ↦ numeral
    | bracketed {ts} {e} (q → h) ↦ joined (λ us. Operand (round-open ∷ us) (resolved_syn names e)) ts (round-close ∷ []) (bracketed h)
    | plain {ts} {e} (q → h) ↦ plain h
    | prefixed {t} {k} {ts} {e} b (q → h) ↦ prefixed (before-kept b) h
    | asked {ts} {e} (q → h) ↦ asked h
    | paired {t} {k} {ts} {us} {e} {f} (q → h) b (u → i) ↦ joined (λ vs. Phrase vs (dyadic k (resolved_syn names e) (resolved_syn names f))) ts (t ∷ us) (paired h (between-kept b) i)
    | chained {l} {ts} {us} {e} {f} (q → h) (c → i) ↦ joined (λ vs. Phrase vs (resolved_syn names (dyadic (link_number l) e f))) ts (joins l ∷ us) (chained h i)
    | last-operand {l} {ts} {e} (q → h) ↦ last-operand h
    | more {l} {ts} {us} {e} {f} (q → h) (c → i) ↦ joined (λ vs. Chain l vs (resolved_syn names (dyadic (link_number l) e f))) ts (joins l ∷ us) (more h i)
  ]

  element-kept : {ts : List Token} {e : Syn} → Element ts e → ElementKept ts e
  element-kept alone = alone
  element-kept (subscripted {n} {ts} {e} p) = joined (λ us. Element (name (resolved_name names n) ∷ square-open ∷ us) (at (resolved_name names n) (resolved_syn names e))) ts (square-close ∷ []) (subscripted (phrase-kept p))

  header-kept : {ts : List Token} {d : Declaration} → Header ts d → Header (resolved_tokens ts) (resolved_declaration names d)
  header-kept (scalar ints) = scalar ints
  header-kept (scalar chans) = scalar chans
  header-kept (array ints) = array ints
  header-kept (array chans) = array chans
  header-kept host-in = host-in
  header-kept host-out = host-out

  word_kept : {m : Mark} {x : OutlineLine} → Alone m x → Alone m (resolved_line names x)
  word_kept skips = skips
  word_kept stops = stops
  word_kept seqs = seqs
  word_kept pars = pars
  word_kept chooses = chooses
  word_kept selects = selects

  spells-kept : {ts : List Token} {x : OutlineLine} → Spells ts x → Spells (resolved_tokens ts) (resolved_line names x)
  spells-kept (declares h) = declares (header-kept h)
  spells-kept (word a) = word (word_kept a)
  spells-kept (repeats p) = repeats (phrase-kept p)
  spells-kept (assigns {ts} {us} {a} {e} p q) = joined (λ vs. Spells vs (resolved_line names (assign a e))) ts (mark becomes ∷ us) (assigns (element-kept p) (phrase-kept q))
  spells-kept (inputs {ts} {us} {c} {a} p q) = joined (λ vs. Spells vs (resolved_line names (input c a))) ts (mark asks ∷ us) (inputs (element-kept p) (element-kept q))
  spells-kept (outputs {ts} {us} {c} {e} p q) = joined (λ vs. Spells vs (resolved_line names (output c e))) ts (mark tells ∷ us) (outputs (element-kept p) (phrase-kept q))
  spells-kept (tests p) = tests (phrase-kept p)
  spells-kept (guards {ts} {us} {vs} {e} {c} {a} p q r) =
      joined (λ ws. Spells ws (resolved_line names (guarded e c a))) ts (mark ampersand ∷ (us ++ (mark asks ∷ vs)))
      (joined (λ ws. Spells (resolved_tokens ts ++ (mark ampersand ∷ ws)) (resolved_line names (guarded e c a))) us (mark asks ∷ vs)
      (guards (phrase-kept p) (element-kept q) (element-kept r)))
  spells-kept (allows {ts} {e} p) = joined (λ vs. Spells vs (resolved_line names (allowed e))) ts (mark ampersand ∷ mark a-skip ∷ []) (allows (phrase-kept p))

pub line-resolved : LineResolved
line-resolved names ts x h = line-complete (map (resolved_token names) ts) (resolved_line names x) (spells-kept names (line-sound ts x h))

-- Forms -----------------------------------------------------------------------------------------------------------------------------

module _ (names : List (List ℕ)) (few : length names ≤ row_limit) where
  -- a resolved name means the row that the name means
  name-kept : (n : List ℕ) → name_row row_names (resolved_name names n) ≡ name_row names n
  name-kept n = row_named (name_row names n) (omega (arith, few, name-low names n))

  expression-kept : (e : Syn) → expression_form row_names (resolved_syn names e) ≡ expression_form names e
  expression-kept (literal z) = refl
  expression-kept (bare n) = rw (name-kept n) refl
  expression-kept (at n e) = rw (name-kept n, expression-kept e) refl
  expression-kept (monadic k e) = rw (expression-kept e) refl
  expression-kept (dyadic k e f) = rw (expression-kept e, expression-kept f) refl

  element-row-kept : (k : ℕ) (a : Syn) (f : Form) → element_row row_names k (resolved_syn names a) f ≡ element_row names k a f
  element-row-kept k (literal z) f = refl
  element-row-kept k (bare n) f = rw (name-kept n) refl
  element-row-kept k (at n e) f = rw (name-kept n, expression-kept e) refl
  element-row-kept k (monadic o e) f = refl
  element-row-kept k (dyadic o e g) f = refl

  process-kept : (x : OutlineLine) (b : Form) → process_form row_names (resolved_line names x) b ≡ process_form names x b
  process-kept (declare d) b = refl
  process-kept skip b = refl
  process-kept stop b = refl
  process-kept (assign a e) b = rw (expression-kept e) (element-row-kept 22 a (expression_form names e))
  process-kept (input c a) b = rw (expression-kept a) (element-row-kept 23 c (expression_form names a))
  process-kept (output c e) b = rw (expression-kept e) (element-row-kept 24 c (expression_form names e))
  process-kept seq b = refl
  process-kept par b = refl
  process-kept ifs b = refl
  process-kept alts b = refl
  process-kept (while e) b = rw (expression-kept e) refl
  process-kept (test e) b = refl
  process-kept (guarded e c a) b = refl
  process-kept (allowed e) b = refl

  test-kept : (x : OutlineLine) → test_form row_names (resolved_line names x) ≡ test_form names x
  test-kept (declare d) = refl
  test-kept skip = refl
  test-kept stop = refl
  test-kept (assign a e) = refl
  test-kept (input c a) = refl
  test-kept (output c e) = refl
  test-kept seq = refl
  test-kept par = refl
  test-kept ifs = refl
  test-kept alts = refl
  test-kept (while e) = refl
  test-kept (test e) = expression-kept e
  test-kept (guarded e c a) = refl
  test-kept (allowed e) = refl

  guard-kept : (x : OutlineLine) → guard_form row_names (resolved_line names x) ≡ guard_form names x
  guard-kept (declare d) = refl
  guard-kept skip = refl
  guard-kept stop = refl
  guard-kept (assign a e) = refl
  guard-kept (input c a) = rw (expression-kept a) (element-row-kept 23 c (expression_form names a))
  guard-kept (output c e) = refl
  guard-kept seq = refl
  guard-kept par = refl
  guard-kept ifs = refl
  guard-kept alts = refl
  guard-kept (while e) = refl
  guard-kept (test e) = refl
  guard-kept (guarded e c a) = rw (expression-kept e, expression-kept a, element-row-kept 23 c (expression_form names a)) refl
  guard-kept (allowed e) = rw (expression-kept e) refl

  block-kept : (x : OutlineLine) (p : Form) → block_form row_names (declaration_in (resolved_line names x)) p ≡ block_form names (declaration_in x) p
  block-kept (declare (variable z n)) p = rw (name-kept n) refl
  block-kept (declare (channel z n)) p = rw (name-kept n) refl
  block-kept (declare (source n)) p = rw (name-kept n) refl
  block-kept (declare (sink z n)) p = rw (name-kept n) refl
  block-kept skip p = refl
  block-kept stop p = refl
  block-kept (assign a e) p = refl
  block-kept (input c a) p = refl
  block-kept (output c e) p = refl
  block-kept seq p = refl
  block-kept par p = refl
  block-kept ifs p = refl
  block-kept alts p = refl
  block-kept (while e) p = refl
  block-kept (test e) p = refl
  block-kept (guarded e c a) p = refl
  block-kept (allowed e) p = refl

-- the class of a line is told without its names
class-kept : (names : List (List ℕ)) (x : OutlineLine) → class_of (resolved_line names x) ≡ class_of x
class-kept names (declare (variable z n)) = refl
class-kept names (declare (channel z n)) = refl
class-kept names (declare (source n)) = refl
class-kept names (declare (sink z n)) = refl
class-kept names skip = refl
class-kept names stop = refl
class-kept names (assign a e) = refl
class-kept names (input c a) = refl
class-kept names (output c e) = refl
class-kept names seq = refl
class-kept names par = refl
class-kept names ifs = refl
class-kept names alts = refl
class-kept names (while e) = refl
class-kept names (test e) = refl
class-kept names (guarded e c a) = refl
class-kept names (allowed e) = refl

pub line-forms : LineForms
line-forms names few x = record { as-process = process-kept names few x; as-test = test-kept names few x; as-guard = guard-kept names few x; as-block = block-kept names few x; same_class = class-kept names x }
