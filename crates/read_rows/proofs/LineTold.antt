-- The form of a line, told from the tokens before and after its first mark.
use mathlib.Core.Path.{◌≡◌, refl, sym, ap, ap₂, subst, ◌∙◌}
use mathlib.Core.Bool.{Bool, true, false, false≢true}
use mathlib.Core.List.{List, [], ◌∷◌, ◌++◌, map, map-append}
use mathlib.Core.Option.{Option, none, some, none-ne-some}
use Prim.Native.Nat.{ℕ}
use lib.IntN.{ℤ}
use lib.ListN.{length}
use Rattle.meaning.specs.Basics.{if_else, is_some, with_first, all_some}
use Rattle.base_top_down.specs.Forms.{Form, row}
use Rattle.grammar.specs.Grammar.{minus-before, not-before, Before, minus-between, arith-between, Between, Mark, a-skip, becomes, asks, tells, ampersand, joins, both, either, Link, Token, square-close, round-close, mark, Syn, Element, alone, subscripted, element, numeral, bracketed, Phrase, plain, prefixed, asked, paired, chained, last-operand, more}
use Rattle.grammar.specs.Outline.{OutlineLine, Expect, process_beneath, choice, guard_beneath, assign, input, output, guarded, allowed}
use Rattle.grammar.specs.Lines.{Spells, declares, word, repeats, assigns, inputs, outputs, tests, guards, allows, skips, stops, seqs, pars, chooses, selects}
use Rattle.grammar.specs.TextRows.{unused, expression_form, element_row, process_form, test_form, guard_form}
use Rattle.grammar.proofs.Complete.{complete}
use Rattle.grammar.proofs.LineRead.{line-sound}
use Rattle.read_tokens.specs.Sorts as sorts
use Rattle.read_tokens.specs.Held.{token_sort, tokens_resolved}
use Rattle.read_tokens.proofs.HeldLaws.{sorts-of-resolved}
use Rattle.read_resolved.specs.Resolved.{row_names}
use Rattle.read_classes.specs.Parts.{sort_of, is_mark, Parting, parting_of, put_before, part_at_mark}
use Rattle.read_expressions.specs.Expressions.{phrase_of, expression_in, form_or, form_in}
use Rattle.read_parts.specs.PartForms.{SortsHeld, line_of_tokens, line_listed, element_syn, Exchanges, as_kind, exchange_form, process_by, event_form, guard_by, ProcessRead, EventRead, GuardRead}
use Rattle.read_expressions.proofs.ExpressionLaws.{all-tokens}

-- Tokens that are no marks --------------------------------------------------------------------------------------------------------------

abbrev Unmarked : List (Option Token) → Type 0
Unmarked [] = Unit {0}
Unmarked (o ∷ os) = (is_mark o ≡ false) × Unmarked os

-- a mark after them parts
parted-after : (us : List (Option Token)) (o : Option Token) (os : List (Option Token)) → Unmarked us → is_mark o ≡ true → part_at_mark (us ++ (o ∷ os)) ≡ parting_of (sort_of o) us os
unfolding part_at_mark
parted-after [] o os h e = ap (λ (b : Bool). if_else b (parting_of (sort_of o) [] os) (put_before o (part_at_mark os))) e
parted-after (u ∷ us) o os h e =
    ap (λ (b : Bool). if_else b (parting_of (sort_of u) [] (us ++ (o ∷ os))) (put_before u (part_at_mark (us ++ (o ∷ os))))) h.0 ∙ ap (put_before u) (parted-after us o os h.1 e)

both-unmarked : (ts us : List Token) → Unmarked (map some ts) → Unmarked (map some us) → Unmarked (map some (ts ++ us))
both-unmarked [] us h g = g
both-unmarked (t ∷ ts) us h g = (h.0, both-unmarked ts us h.1 g)

before-unmarked : {t : Token} {k : ℕ} → Before t k → is_mark (some t) ≡ false
before-unmarked minus-before = refl
before-unmarked not-before = refl

between-unmarked : {t : Token} {k : ℕ} → Between t k → is_mark (some t) ≡ false
between-unmarked minus-between = refl
between-unmarked arith-between = refl

link-unmarked : (l : Link) → is_mark (some (joins l)) ≡ false
link-unmarked both = refl
link-unmarked either = refl

phrase-unmarked : {ts : List Token} {e : Syn} → Phrase ts e → Unmarked (map some ts)
phrase-unmarked p = elim p as (λ ts e q. Unmarked (map some ts)) (λ ts e q. Unmarked (map some ts)) (λ ts e q. Unmarked (map some ts)) (λ l ts e q. Unmarked (map some ts)) [
  | alone ↦ (refl, tt)
  | subscripted {ts} (q → h) ↦ (refl, (refl, both-unmarked ts (square-close ∷ []) h (refl, tt)))
  | element (q → h) ↦ h
  | numeral ↦ (refl, tt)
  | bracketed {ts} (q → h) ↦ (refl, both-unmarked ts (round-close ∷ []) h (refl, tt))
  | plain (q → h) ↦ h
  | prefixed b (q → h) ↦ (before-unmarked b, h)
  | asked (q → h) ↦ (refl, h)
  | paired {t} {ts} {us} (q → h) b (u → i) ↦ both-unmarked ts (t ∷ us) h (between-unmarked b, i)
  | chained {l} {ts} {us} (q → h) (c → i) ↦ both-unmarked ts (joins l ∷ us) h (link-unmarked l, i)
  | last-operand (q → h) ↦ h
  | more {l} {ts} {us} (q → h) (c → i) ↦ both-unmarked ts (joins l ∷ us) h (link-unmarked l, i)
]

element-phrase : {ts : List Token} {a : Syn} → Element ts a → Phrase ts a
element-phrase p = plain (element p)

-- a phrase before a mark
parted-phrase : {ts : List Token} {e : Syn} → Phrase ts e → (m : Mark) (us : List Token) → is_mark (some (mark m)) ≡ true → part_at_mark (map some (ts ++ (mark m ∷ us))) ≡ parting_of (sort_of (some (mark m))) (map some ts) (map some us)
parted-phrase {ts} p m us k = ap part_at_mark (map-append some ts (mark m ∷ us)) ∙ parted-after (map some ts) (some (mark m)) (map some us) (phrase-unmarked p) k

-- Expressions -------------------------------------------------------------------------------------------------------------------------

all_there : (ts : List Token) → all_some (map some ts) ≡ some ts
unfolding all_some
all_there [] = refl
all_there (t ∷ ts) = ap (with_first t) (all_there ts)

phrase-syn : {ts : List Token} {e : Syn} → Phrase ts e → expression_in (map some ts) ≡ some e
unfolding expression_in
phrase-syn {ts} {e} p = ap phrase_of (all_there ts) ∙ complete ts e p

element-is : {ts : List Token} {a : Syn} → Element ts a → element_syn (some a) ≡ true
element-is alone = refl
element-is (subscripted p) = refl

exchanged : {ts us : List Token} {a e : Syn} → Element ts a → Phrase us e → Exchanges (parting_of 0 (map some ts) (map some us))
exchanged p q = (ap element_syn (phrase-syn (element-phrase p)) ∙ element-is p, ap is_some (phrase-syn q))

skip-parted : part_at_mark (map some (mark a-skip ∷ [])) ≡ parting_of sorts.skip [] []
unfolding part_at_mark
skip-parted = refl

element-asked : {ts : List Token} {a : Syn} → Element ts a → (k : ℕ) (f : Form) → element_row row_names k a f ≡ as_kind k (expression_form row_names a) f
element-asked alone k f = refl
element-asked (subscripted p) k f = refl

phrase-form : {ts : List Token} {e : Syn} → Phrase ts e → expression_form row_names e ≡ form_in (map some ts)
unfolding form_in
phrase-form p = sym (ap (form_or row_names) (phrase-syn p))

exchange-form : {ts us : List Token} {a e : Syn} → Element ts a → Phrase us e → (k : ℕ) → element_row row_names k a (expression_form row_names e) ≡ exchange_form k (parting_of 0 (map some ts) (map some us))
exchange-form {e = e} p q k = element-asked p k (expression_form row_names e) ∙ ap₂ (λ (f g : Form). as_kind k f g) (phrase-form (element-phrase p)) (phrase-form q)

-- Lines -----------------------------------------------------------------------------------------------------------------------------

-- the form of a process is that by its mark, and its parts are what the mark asks for
abbrev pub ProcessTold : OutlineLine → Parting → Type 0
ProcessTold x p = ((B : Form) → process_form row_names x B ≡ process_by p B) × ProcessRead p

process-told : {ts : List Token} {x : OutlineLine} → Spells ts x → (u : Expect) → process_beneath x ≡ some u → ProcessTold x (part_at_mark (map some ts))
unfolding part_at_mark process_by
process-told (declares h) u k = absurd (none-ne-some u k)
process-told (word skips) u k = (λ B. refl, record { repeats = λ h. absurd (false≢true h); exchanges = λ h. absurd (false≢true h) })
process-told (word stops) u k = (λ B. refl, record { repeats = λ h. absurd (false≢true h); exchanges = λ h. absurd (false≢true h) })
process-told (word seqs) u k = (λ B. refl, record { repeats = λ h. absurd (false≢true h); exchanges = λ h. absurd (false≢true h) })
process-told (word pars) u k = (λ B. refl, record { repeats = λ h. absurd (false≢true h); exchanges = λ h. absurd (false≢true h) })
process-told (word chooses) u k = (λ B. refl, record { repeats = λ h. absurd (false≢true h); exchanges = λ h. absurd (false≢true h) })
process-told (word selects) u k = (λ B. refl, record { repeats = λ h. absurd (false≢true h); exchanges = λ h. absurd (false≢true h) })
process-told (repeats {e = e} p) u k = (λ B. ap (λ (f : Form). row 33 f B unused) (phrase-form p), record { repeats = λ h. ap is_some (phrase-syn p); exchanges = λ h. absurd (false≢true h) })
process-told (assigns {us = us} {a} {e} p q) u k =
    subst (ProcessTold (assign a e)) (sym (parted-phrase (element-phrase p) becomes us refl)) (λ B. exchange-form p q 22, record { repeats = λ h. absurd (false≢true h); exchanges = λ h. exchanged p q })
process-told (inputs {us = us} {c} {a} p q) u k =
    subst (ProcessTold (input c a)) (sym (parted-phrase (element-phrase p) asks us refl)) (λ B. exchange-form p (element-phrase q) 23, record { repeats = λ h. absurd (false≢true h); exchanges = λ h. exchanged p (element-phrase q) })
process-told (outputs {us = us} {c} {e} p q) u k =
    subst (ProcessTold (output c e)) (sym (parted-phrase (element-phrase p) tells us refl)) (λ B. exchange-form p q 24, record { repeats = λ h. absurd (false≢true h); exchanges = λ h. exchanged p q })
process-told (tests p) u k = absurd (none-ne-some u k)
process-told (guards p q r) u k = absurd (none-ne-some u k)
process-told (allows p) u k = absurd (none-ne-some u k)

-- so of a guard
abbrev pub GuardTold : OutlineLine → Parting → Type 0
GuardTold x p = (guard_form row_names x ≡ guard_by p) × GuardRead p

guard_told : {ts : List Token} {x : OutlineLine} → Spells ts x → (u : Expect) → guard_beneath x ≡ some u → GuardTold x (part_at_mark (map some ts))
unfolding guard_by
guard_told (declares h) u k = absurd (none-ne-some u k)
guard_told (word skips) u k = absurd (none-ne-some u k)
guard_told (word stops) u k = absurd (none-ne-some u k)
guard_told (word seqs) u k = absurd (none-ne-some u k)
guard_told (word pars) u k = absurd (none-ne-some u k)
guard_told (word chooses) u k = absurd (none-ne-some u k)
guard_told (word selects) u k = absurd (none-ne-some u k)
guard_told (repeats p) u k = absurd (none-ne-some u k)
guard_told (assigns p q) u k = absurd (none-ne-some u k)
guard_told (inputs {us = us} {c} {a} p q) u k =
    subst (GuardTold (input c a)) (sym (parted-phrase (element-phrase p) asks us refl)) (exchange-form p (element-phrase q) 23, record { guarded = λ h. absurd (false≢true h); alone = λ h g. exchanged p (element-phrase q) })
guard_told (outputs p q) u k = absurd (none-ne-some u k)
guard_told (tests p) u k = absurd (none-ne-some u k)
guard_told (guards {ts = ts} {us} {vs} {e} {c} {a} p q r) u k =
    let w = parted-phrase (element-phrase q) asks vs refl in
    subst (GuardTold (guarded e c a)) (sym (parted-phrase p ampersand (us ++ (mark asks ∷ vs)) refl)) (
      ap₂ (λ (f g : Form). row 43 f g unused) (phrase-form p) (exchange-form q (element-phrase r) 23 ∙ sym (ap event_form w)),
      record { guarded = λ h. (ap is_some (phrase-syn p), subst EventRead (sym w) (λ g. exchanged q (element-phrase r))); alone = λ h. absurd (false≢true (sym h)) },
    )
guard_told (allows {ts = ts} {e} p) u k =
    let w = skip-parted in
    subst (GuardTold (allowed e)) (sym (parted-phrase p ampersand (mark a-skip ∷ []) refl)) (
      ap₂ (λ (f g : Form). row 43 f g unused) (phrase-form p) (sym (ap event_form w)),
      record { guarded = λ h. (ap is_some (phrase-syn p), subst EventRead (sym w) (λ g. absurd (false≢true g))); alone = λ h. absurd (false≢true (sym h)) },
    )

-- and of a boolean, which is the whole line
abbrev pub TestTold : OutlineLine → List (Option Token) → Type 0
TestTold x os = (test_form row_names x ≡ form_in os) × (is_some (expression_in os) ≡ true)

test-told : {ts : List Token} {x : OutlineLine} → Spells ts x → (u : Expect) → choice x ≡ some u → TestTold x (map some ts)
test-told (declares h) u k = absurd (none-ne-some u k)
test-told (word skips) u k = absurd (none-ne-some u k)
test-told (word stops) u k = absurd (none-ne-some u k)
test-told (word seqs) u k = absurd (none-ne-some u k)
test-told (word pars) u k = absurd (none-ne-some u k)
test-told (word chooses) u k = absurd (none-ne-some u k)
test-told (word selects) u k = absurd (none-ne-some u k)
test-told (repeats p) u k = absurd (none-ne-some u k)
test-told (assigns p q) u k = absurd (none-ne-some u k)
test-told (inputs p q) u k = absurd (none-ne-some u k)
test-told (outputs p q) u k = absurd (none-ne-some u k)
test-told (tests p) u k = (phrase-form p, ap is_some (phrase-syn p))
test-told (guards p q r) u k = absurd (none-ne-some u k)
test-told (allows p) u k = absurd (none-ne-some u k)

-- Listed tokens ---------------------------------------------------------------------------------------------------------------------

-- the tokens of a line
line-tokens : (os : List (Option Token)) (x : OutlineLine) → line_listed os ≡ some x → (ts : List Token) × (os ≡ map some ts) × Spells ts x
line-tokens os x h = go (all_some os) refl h
  where
    go : (o : Option (List Token)) → all_some os ≡ o → line_of_tokens o ≡ some x → (ts : List Token) × (os ≡ map some ts) × Spells ts x
    go none q h = absurd (none-ne-some x h)
    go (some ts) q h = (ts, all-tokens os ts q, line-sound ts x h)

sorts-some : (ts : List Token) → map token_sort ts ≡ map sort_of (map some ts)
sorts-some [] = refl
sorts-some (t ∷ ts) = ap (λ (l : List ℕ). token_sort t ∷ l) (sorts-some ts)

-- the sorts of a line are those of its tokens
pub sorts-held : (ss : List ℕ) (vs : List ℤ) (x : OutlineLine) → length ss ≡ length vs → line_listed (tokens_resolved ss vs) ≡ some x → SortsHeld ss vs
sorts-held ss vs x l h = let (ts, c, w) = line-tokens (tokens_resolved ss vs) x h in sorts-of-resolved ss vs ts l c ∙ sorts-some ts ∙ ap (map sort_of) (sym c)

module _ (os : List (Option Token)) (x : OutlineLine) (h : line_listed os ≡ some x) (u : Expect) where
  pub line-process : process_beneath x ≡ some u → ProcessTold x (part_at_mark os)
  line-process k = let (ts, c, w) = line-tokens os x h in subst (λ (l : List (Option Token)). ProcessTold x (part_at_mark l)) (sym c) (process-told w u k)

  pub line-guard : guard_beneath x ≡ some u → GuardTold x (part_at_mark os)
  line-guard k = let (ts, c, w) = line-tokens os x h in subst (λ (l : List (Option Token)). GuardTold x (part_at_mark l)) (sym c) (guard_told w u k)

  pub line-test : choice x ≡ some u → TestTold x os
  line-test k = let (ts, c, w) = line-tokens os x h in subst (TestTold x) (sym c) (test-told w u k)
