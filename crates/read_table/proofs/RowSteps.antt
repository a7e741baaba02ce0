-- A line as a row, by its fields from left to right.
use mathlib.Core.Path.{◌≡◌, ap, ◌∙◌}
use mathlib.Core.List.{List, [], ◌∷◌}
use mathlib.Core.Option.{Option, none, some}
use Prim.Native.Nat.{ℕ, ◌+◌}
use lib.IntN.{ℤ}
use lib.ListN.{drop}
use Rattle.meaning.specs.Texts.{line_feed, comma}
use Rattle.meaning.specs.Basics.{with_first}
use Rattle.meaning.specs.Lines.{line_size}
use Rattle.meaning.specs.Numerals.{number}
use Rattle.meaning.specs.TableBytes.{read_row}
use native.Mathlib.Omega.{arith}
use Rattle.read_table.specs.Fields.{number_field, with_next, row_from_line}
use Rattle.read_table.proofs.ReadFields.{left, line-left, left-none, size-left, none_left}
use Rattle.read_table.proofs.FieldLaws.{number-left, wrong-left}

module _ (bytes : List ℕ) (at : ℕ) where
  by-numbers : (o : Option (List ℤ)) → left number 4 (drop at bytes) ≡ o → row_from_line bytes at ≡ with_next o (at + line_size (drop at bytes))
  unfolding row_from_line read_row
  by-numbers o e = ap (λ (n : Option (List ℤ)). with_next n (at + line_size (drop at bytes))) (line-left number 3 (drop at bytes) ∙ e)

  pub first-wrong : number_field comma (drop at bytes) at ≡ none → row_from_line bytes at ≡ none
  first-wrong e = by-numbers none (wrong-left bytes at 3 e)

  module _ (k : ℤ) (at₁ : ℕ) (e₁ : number_field comma (drop at bytes) at ≡ some (k, at₁)) where
    one : left number 4 (drop at bytes) ≡ with_first k (left number 3 (drop at₁ bytes))
    one = (number-left bytes at 3 k at₁ e₁).0

    pub second-wrong : number_field comma (drop at₁ bytes) at₁ ≡ none → row_from_line bytes at ≡ none
    second-wrong e = by-numbers none (one ∙ ap (with_first k) (wrong-left bytes at₁ 2 e))

    module _ (a : ℤ) (at₂ : ℕ) (e₂ : number_field comma (drop at₁ bytes) at₁ ≡ some (a, at₂)) where
      two : left number 4 (drop at bytes) ≡ with_first k (with_first a (left number 2 (drop at₂ bytes)))
      two = one ∙ ap (with_first k) (number-left bytes at₁ 2 a at₂ e₂).0

      pub third-wrong : number_field comma (drop at₂ bytes) at₂ ≡ none → row_from_line bytes at ≡ none
      third-wrong e = by-numbers none (two ∙ ap (λ (o : Option (List ℤ)). with_first k (with_first a o)) (wrong-left bytes at₂ 1 e))

      module _ (b : ℤ) (at₃ : ℕ) (e₃ : number_field comma (drop at₂ bytes) at₂ ≡ some (b, at₃)) where
        three : left number 4 (drop at bytes) ≡ with_first k (with_first a (with_first b (left number 1 (drop at₃ bytes))))
        three = two ∙ ap (λ (o : Option (List ℤ)). with_first k (with_first a o)) (number-left bytes at₂ 1 b at₃ e₃).0

        pub fourth-wrong : number_field line_feed (drop at₃ bytes) at₃ ≡ none → row_from_line bytes at ≡ none
        fourth-wrong e = by-numbers none (three ∙ ap (λ (o : Option (List ℤ)). with_first k (with_first a (with_first b o))) (wrong-left bytes at₃ 0 e))

        pub four-numbers : (c : ℤ) (next : ℕ) → number_field line_feed (drop at₃ bytes) at₃ ≡ some (c, next) → row_from_line bytes at ≡ some (k ∷ a ∷ b ∷ c ∷ [], next)
        four-numbers c next e =
            by-numbers (some (k ∷ a ∷ b ∷ c ∷ [])) (three ∙ ap (λ (o : Option (List ℤ)). with_first k (with_first a (with_first b o))) ((number-left bytes at₃ 0 c next e).0 ∙ ap (with_first c) (left-none number (drop next bytes))))
            ∙ ap (λ (n : ℕ). some (k ∷ a ∷ b ∷ c ∷ [], n))
            (omega
            (arith, size-left 3 (drop at bytes), (number-left bytes at 3 k at₁ e₁).1, (number-left bytes at₁ 2 a at₂ e₂).1, (number-left bytes at₂ 1 b at₃ e₃).1, (number-left bytes at₃ 0 c next e).1, none_left (drop next bytes)))
