-- A text is read exactly if it is of the grammar, its names are in order and it makes at most 1,024 rows; else the first of these that fails refuses it.
use mathlib.Core.Path.{◌≡◌, refl, sym, ap, subst, ◌∙◌}
use mathlib.Core.Bool.{Bool, true, false}
use mathlib.Core.Logic.{◌↔◌}
use mathlib.Core.List.{List}
use mathlib.Core.Option.{Option, none, some, map, none-ne-some, some-injective}
use Prim.Native.Nat.{ℕ, suc, ◌<◌, ◌≤◌}
use native.Mathlib.Omega.{arith}
use borrow.Author.Tests.{ltb-true, ltb-false}
use lib.ListN.{length}
use lib.Dec.{ltb}
use Rattle.meaning.specs.Basics.{if_else}
use Rattle.meaning.specs.Limits.{max_rows}
use Rattle.meaning.specs.Rows.{row_count}
use Rattle.meaning.specs.Refusals.{Refusal, either, first_fault}
use Rattle.meaning.proofs.LowestLaws.{lowest-one}
use Rattle.grammar.specs.Outline.{Trees}
use Rattle.grammar.specs.TextBytes.{grammar_fault}
use Rattle.grammar.specs.TextClaims.{OfGrammar, NotOfGrammar}
use Rattle.grammar.specs.Names.{names_fault}
use Rattle.grammar.specs.NameClaims.{Misnamed}
use Rattle.grammar.specs.TextRows.{text_lines, text_rows}
use Rattle.grammar.specs.TextRead.{text_fault, LowestMisnamed, ReadText, RefusedText, by-grammar, by_names, by_rows, TextExactly}
use Rattle.grammar.proofs.TextPlaces.{grammar-exactly}
use Rattle.grammar.proofs.NamesExact.{names-exactly}

module _ (text : List ℕ) where
  abbrev Exactly : Option Refusal → Type 0
  Exactly o = ((o ≡ none) ↔ ReadText text) × ((number place : ℕ) → (o ≡ some (number, place)) ↔ RefusedText text number place)

  -- refused with this number and place, and with no other
  refused : (f : Refusal) → RefusedText text f.0 f.1 → ¬ ReadText text → ((number place : ℕ) → RefusedText text number place → f ≡ (number, place)) → Exactly (some f)
  refused f r n one = (
    (λ e. absurd (none-ne-some f (sym e)), λ w. absurd (n w)),
    λ number place. (
      (λ e. let k = some-injective f (number, place) e in subst (λ (g : Refusal). RefusedText text g.0 g.1) k r),
      (λ w. ap some (one number place w)),
    ),
  )

  -- of the grammar, and not
  apart : {ps : Trees} {n : ℕ} → OfGrammar text ps → NotOfGrammar text n → ⊥
  apart {ps} {n} g f = let (none-there, at) = grammar-exactly text in none-ne-some n (sym (none-there.1 (ps, g)) ∙ (at n).1 f)

  one_place : {n m : ℕ} → NotOfGrammar text n → NotOfGrammar text m → n ≡ m
  one_place {n} {m} f g = let at = (grammar-exactly text).1 in some-injective n m (sym ((at n).1 f) ∙ (at m).1 g)

  by_count : (ps : Trees) → OfGrammar text ps → LowestMisnamed text none → (t : Bool) → ltb max_rows (row_count (text_rows text)) ≡ t → Exactly (either (if_else {A = Option Refusal} t (some (3, max_rows)) none) none)
  by_count ps g l true e = refused (3, max_rows) (by_rows g l many) (λ w. omega (arith, many, w.few-rows)) one
    where
      many : max_rows < row_count (text_rows text)
      many = ltb-true max_rows (row_count (text_rows text)) e

      one : (number place : ℕ) → RefusedText text number place → ◌≡◌ {A = Refusal} (3, max_rows) (number, place)
      one number place (by-grammar f) = absurd (apart g f)
      one number place (by_names h (b, m, _)) = absurd (l place b m)
      one number place (by_rows h m k) = refl
  by_count ps g l false e = (
    (λ z. record { trees = ps; of-grammar = g; names-in-order = l; few-rows = few }, λ w. refl),
    λ number place. (λ z. absurd (none-ne-some (number, place) z), λ w. absurd (none_left number place w)),
  )
    where
      few : row_count (text_rows text) ≤ max_rows
      few = ltb-false max_rows (row_count (text_rows text)) e

      none_left : (number place : ℕ) → RefusedText text number place → ⊥
      none_left number place (by-grammar f) = apart g f
      none_left number place (by_names h (b, m, _)) = l place b m
      none_left number place (by_rows h m k) = omega (arith, few, k)

  by_name : (ps : Trees) → OfGrammar text ps → (o : Option ℕ) → LowestMisnamed text o
      → Exactly (either (map (λ n. (13, n)) o) (either (if_else (ltb max_rows (row_count (text_rows text))) (some (3, max_rows)) none) none))
  by_name ps g none l = by_count ps g l (ltb max_rows (row_count (text_rows text))) refl
  by_name ps g (some n) l = refused (13, n) (by_names g l) (λ w. w.names-in-order n l.0 l.1) one
    where
      one : (number place : ℕ) → RefusedText text number place → ◌≡◌ {A = Refusal} (13, n) (number, place)
      one number place (by-grammar f) = absurd (apart g f)
      one number place (by_names h m) = ap {B = Refusal} (λ (k : ℕ). (13, k)) (lowest-one (Misnamed (text_lines text)) (suc (length (text_lines text))) n place l m)
      one number place (by_rows h m k) = absurd (m n l.0 l.1)

  exactly : (o : Option ℕ) → grammar_fault text ≡ o
      → Exactly (either (map (λ n. (12, n)) o) (either (map (λ n. (13, n)) (names_fault (text_lines text))) (either (if_else (ltb max_rows (row_count (text_rows text))) (some (3, max_rows)) none) none)))
  exactly none e = let (ps, g) = (grammar-exactly text).0.0 e in by_name ps g (names_fault (text_lines text)) (names-exactly (text_lines text))
  exactly (some n) e = refused (12, n) (by-grammar f) (λ w. apart w.of-grammar f) one
    where
      f : NotOfGrammar text n
      f = ((grammar-exactly text).1 n).0 e

      one : (number place : ℕ) → RefusedText text number place → ◌≡◌ {A = Refusal} (12, n) (number, place)
      one number place (by-grammar h) = ap {B = Refusal} (λ (k : ℕ). (12, k)) (one_place f h)
      one number place (by_names h m) = absurd (apart h f)
      one number place (by_rows h m k) = absurd (apart h f)

pub text-exactly : TextExactly
unfolding text_fault first_fault
text-exactly text = exactly text (grammar_fault text) refl
