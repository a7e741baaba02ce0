-- The row of a block, by the first name on the line of its declaration.
use mathlib.Core.Path.{◌≡◌, refl, sym, ap, subst, ◌∙◌}
use mathlib.Core.Bool.{Bool, true, false, false≢true}
use mathlib.Core.List.{List, [], ◌∷◌, map}
use mathlib.Core.Option.{Option, none, some, none-ne-some}
use Prim.Native.Nat.{ℕ, suc, ◌*◌, ◌<◌}
use native.Mathlib.Omega.{arith}
use lib.IntN.{ℤ, pos, negsuc}
use lib.ListN.{length, get_or}
use lib.Dec.{ltb}
use borrow.Author.Tests.{ltb-true}
use Rattle.meaning.specs.Basics.{if_else, is_some, all_some}
use Rattle.base_top_down.specs.Forms.{number, rows_from}
use Rattle.grammar.specs.Grammar.{Token, name}
use Rattle.grammar.specs.Outline.{Declaration, OutlineLine}
use Rattle.grammar.specs.Lines.{Header, line_spelt}
use Rattle.grammar.specs.Names.{name_of}
use Rattle.grammar.specs.TextRows.{name_row, block_form}
use Rattle.grammar.proofs.LineRead.{line-sound}
use Rattle.grammar.proofs.NamesExact.{declared-line}
use Rattle.read_tokens.specs.Sorts as sorts
use Rattle.read_tokens.specs.Held.{token_sort, by_natural, row_limit, name_of_row, tokens_resolved}
use Rattle.read_tokens.proofs.HeldLaws.{sorts-of-resolved}
use Rattle.read_resolved.specs.Resolved.{row_names}
use Rattle.read_resolved.proofs.ResolvedLaws.{row_named}
use Rattle.read_declared.specs.Firsts.{place_of_sort}
use Rattle.read_declared.proofs.HeaderLaws.{header_of, name-listed}
use Rattle.read_expressions.specs.Overlay.{overlay}
use Rattle.read_expressions.proofs.ExpressionLaws.{all-tokens}
use Rattle.read_parts.specs.PartForms.{with_form, line_of_tokens, declaration_of, declaration_listed}

-- the tokens of a declaration
headed : (os : List (Option Token)) (d : Declaration) → declaration_listed os ≡ some d → (ts : List Token) × (os ≡ map some ts) × Header ts d
headed os d h = go (all_some os) refl h
  where
    spelt : (ts : List Token) → os ≡ map some ts → (o : Option OutlineLine) → line_spelt ts ≡ o → declaration_of o ≡ some d → (ts : List Token) × (os ≡ map some ts) × Header ts d
    spelt ts q none e h = absurd (none-ne-some d h)
    spelt ts q (some x) e h = (ts, q, header_of (line-sound ts x e) d (declared-line x d h))

    go : (o : Option (List Token)) → all_some os ≡ o → declaration_of (line_of_tokens o) ≡ some d → (ts : List Token) × (os ≡ map some ts) × Header ts d
    go none q h = absurd (none-ne-some d h)
    go (some ts) q h = spelt ts (all-tokens os ts q) (line_spelt ts) refl h

-- a name listed by its row
row-held : (n : List ℕ) (v : ℤ) → by_natural name_of_row v ≡ some (name n) → v ≡ pos (name_row row_names n)
row-held n (negsuc k) h = absurd (none-ne-some (name n) h)
row-held n (pos k) h = go (ltb k row_limit) refl h
  where
    go : (t : Bool) → ltb k row_limit ≡ t → if_else t (some (name (k ∷ []))) none ≡ some (name n) → pos k ≡ pos (name_row row_names n)
    go false q h = absurd (none-ne-some (name n) h)
    go true q h =
        let e : k ∷ [] ≡ n = cc in
        let low : k < row_limit = ltb-true k row_limit q in
        ap pos (sym (row_named k (omega (arith, low))) ∙ ap (name_row row_names) e)

-- where the name of a declaration is listed, and its row
pub record BlockName (ss : List ℕ) (vs : List ℤ) (i : ℕ) : Type 0 where
  pub declaration : Declaration
  pub is_declared : declaration_listed (tokens_resolved ss vs) ≡ some declaration
  pub inside : i < length vs
  pub value : get_or vs i (pos 0) ≡ pos (name_row row_names (name_of declaration))

pub block-name : (ss : List ℕ) (vs : List ℤ) (i : ℕ) → length ss ≡ length vs → is_some (declaration_listed (tokens_resolved ss vs)) ≡ true → i ≡ place_of_sort sorts.name ss → BlockName ss vs i
block-name ss vs i l h e = go (declaration_listed (tokens_resolved ss vs)) refl h
  where
    go : (o : Option Declaration) → declaration_listed (tokens_resolved ss vs) ≡ o → is_some o ≡ true → BlockName ss vs i
    go none q h = absurd (false≢true h)
    go (some d) q h =
        let (ts, c, p) = headed (tokens_resolved ss vs) d q in
        let z = sorts-of-resolved ss vs ts l c in
        let (a, b) = name-listed name_of_row (λ t. t) p vs (subst (λ (k : List ℕ). tokens_resolved k vs ≡ map some ts) z c) in
        let r : place_of_sort sorts.name (map token_sort ts) ≡ i = sym (e ∙ ap (place_of_sort sorts.name) z) in
        record { declaration = d; is_declared = q; inside = subst (λ (k : ℕ). k < length vs) r a; value = row-held (name_of d) (get_or vs i (pos 0)) (subst (λ (k : ℕ). by_natural name_of_row (get_or vs k (pos 0)) ≡ some (name (name_of d))) r b) }

pub block-laid : {ss : List ℕ} {vs : List ℤ} {i : ℕ} (t : BlockName ss vs i) (n : ℕ) (rows out : List ℤ)
    → out ≡ overlay rows (4 * n) (pos 35 ∷ get_or vs i (pos 0) ∷ pos (suc n) ∷ pos 0 ∷ []) → out ≡ with_form (block_form row_names (declaration_listed (tokens_resolved ss vs)) (number (pos (suc n)))) n rows
unfolding rows_from
block-laid t n rows out e =
    e ∙ ap (λ (z : ℤ). overlay rows (4 * n) (pos 35 ∷ z ∷ pos (suc n) ∷ pos 0 ∷ [])) t.value
    ∙ ap (λ (o : Option Declaration). with_form (block_form row_names o (number (pos (suc n)))) n rows) (sym t.is_declared)
