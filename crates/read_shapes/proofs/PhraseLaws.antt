-- The recogniser of sorts decides phrases and elements.
use mathlib.Core.Path.{◌≡◌, refl, sym, ap, subst, ◌∙◌}
use mathlib.Core.List.{List, [], ◌∷◌, map}
use mathlib.Core.Option.{Option, none, some}
use Rattle.meaning.specs.Basics.{is_some}
use Rattle.grammar.specs.Grammar.{Token, given, Syn, monadic}
use Rattle.grammar.specs.Machine.{behind-given, want, if_first, begin, feed, step, reach, close, phrase, operand_of, element_of}
use Rattle.grammar.specs.Shapes.{OperandShape, if_initial, shape_after, move, goes, shape_complete, is_phrase}
use Rattle.grammar.proofs.ShapesDecide.{shapes-decide}
use Rattle.grammar.proofs.Sound.{element-sound}
use Rattle.read_tokens.specs.Held.{token_sort}
use Rattle.read_shapes.specs.Phrases.{move_by_sort, shape_over, phrase_in, PhraseTold, ElementRead}
use Rattle.read_shapes.proofs.SortTells.{sort-tells}

-- a token by its sort
move-told : (q : Option OperandShape) (t : Token) → move_by_sort q (token_sort t) ≡ move q t
unfolding move_by_sort move
move-told none t = refl
move-told (some q) t = sym (sort-tells q t)

-- tokens one by one
over-goes : (q : Option OperandShape) (ts : List Token) → shape_over q (map token_sort ts) ≡ goes q ts
unfolding shape_over goes
over-goes q [] = refl
over-goes q (t ∷ ts) = over-goes (move_by_sort q (token_sort t)) ts ∙ ap (λ (r : Option OperandShape). goes r ts) (move-told q t)

pub phrase-told : PhraseTold
unfolding phrase_in is_phrase
phrase-told ts = ap shape_complete (over-goes _ ts)

-- an element is what stands after GIVEN
given-told : (ts : List Token) → is_phrase (given ∷ ts) ≡ is_some (close (reach (some (want behind-given [])) ts))
unfolding phrase reach step feed begin if_first
given-told ts = sym (shapes-decide (given ∷ ts))

-- and is read as its operand
operand-there : (ts : List Token) → is_some (close (reach (some (want behind-given [])) ts)) ≡ is_some (element_of ts)
unfolding element_of operand_of
operand-there ts = go (close (reach (some (want behind-given [])) ts)) (λ r q. let (e, p, z) = element-sound ts r q in (e, z))
  where
    go : (o : Option Syn) → ((r : Syn) → o ≡ some r → (e : Syn) × (monadic 2 e ≡ r)) → is_some o ≡ is_some (operand_of o)
    go none f = refl
    go (some r) f = let (e, z) = f r refl in subst (λ (x : Syn). is_some (some r) ≡ is_some (operand_of (some x))) z refl

pub element-read : ElementRead
unfolding phrase_in is_phrase goes move shape_after if_initial
element-read ts = ap shape_complete (over-goes _ ts) ∙ given-told ts ∙ operand-there ts
