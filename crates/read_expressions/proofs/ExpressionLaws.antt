-- Listed tokens that spell an expression: the tokens, and what they spell.
use mathlib.Core.Path.{◌≡◌, refl, ap, ◌∙◌}
use mathlib.Core.Bool.{true, false≢true}
use mathlib.Core.List.{List, [], ◌∷◌, map}
use mathlib.Core.Option.{Option, none, some, none-ne-some, some-injective}
use Prim.Native.Nat.{ℕ}
use lib.IntN.{ℤ}
use lib.ListN.{length}
use Rattle.meaning.specs.Basics.{is_some, with_first, all_some}
use Rattle.grammar.specs.Grammar.{Token, Syn, Phrase}
use Rattle.grammar.specs.Machine.{phrase}
use Rattle.grammar.specs.TextRows.{expression_form}
use Rattle.grammar.proofs.Sound.{sound}
use Rattle.read_tokens.specs.Held.{token_sort, tokens_resolved}
use Rattle.read_tokens.proofs.HeldLaws.{sorts-of-resolved}
use Rattle.read_resolved.specs.Resolved.{row_names}
use Rattle.read_marks.specs.Marks.{PhraseSorts}
use Rattle.read_expressions.specs.Expressions.{phrase_of, expression_in, form_or, form_in}

-- where each is a token, they are the tokens
pub all-tokens : (os : List (Option Token)) (ts : List Token) → all_some os ≡ some ts → os ≡ map some ts
unfolding all_some
all-tokens [] ts e = ap (map some) (some-injective [] ts e)
all-tokens (none ∷ os) ts e = absurd (none-ne-some ts e)
all-tokens (some t ∷ os) ts e = go (all_some os) (all-tokens os) e
  where
    go : (o : Option (List Token)) → ((us : List Token) → o ≡ some us → os ≡ map some us) → with_first t o ≡ some ts → some t ∷ os ≡ map some ts
    go none h f = absurd (none-ne-some ts f)
    go (some us) h f = ap (λ (l : List (Option Token)). some t ∷ l) (h us refl) ∙ ap (map some) (some-injective (t ∷ us) ts f)

pub record Spelt (sorts : List ℕ) (values : List ℤ) : Type 0 where
  pub tokens : List Token
  pub expression : Syn
  pub sorts-are : sorts ≡ map token_sort tokens
  pub held : tokens_resolved sorts values ≡ map some tokens
  pub read : phrase tokens ≡ some expression
  pub is : expression_in (tokens_resolved sorts values) ≡ some expression

module _ (sorts : List ℕ) (values : List ℤ) where
  pub spelt : length sorts ≡ length values → is_some (expression_in (tokens_resolved sorts values)) ≡ true → Spelt sorts values
  unfolding expression_in
  spelt l h = go (all_some (tokens_resolved sorts values)) refl h
    where
      with : (ts : List Token) → all_some (tokens_resolved sorts values) ≡ some ts → (o : Option Syn) → phrase ts ≡ o → is_some o ≡ true → Spelt sorts values
      with ts q none p g = absurd (false≢true g)
      with ts q (some e) p g =
          let held = all-tokens (tokens_resolved sorts values) ts q in
          record { tokens = ts; expression = e; sorts-are = sorts-of-resolved sorts values ts l held; held = held; read = p; is = ap phrase_of q ∙ p }

      go : (o : Option (List Token)) → all_some (tokens_resolved sorts values) ≡ o → is_some (phrase_of o) ≡ true → Spelt sorts values
      go none q g = absurd (false≢true g)
      go (some ts) q g = with ts q (phrase ts) refl g

  module _ (s : Spelt sorts values) where
    pub phrase-sorts : PhraseSorts sorts
    phrase-sorts = (s.tokens, s.sorts-are, ap is_some s.read)

    pub spells : Phrase s.tokens s.expression
    spells = sound s.tokens s.expression s.read

    pub form-is : form_in (tokens_resolved sorts values) ≡ expression_form row_names s.expression
    unfolding form_in
    form-is = ap (form_or row_names) s.is
