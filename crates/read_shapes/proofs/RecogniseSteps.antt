-- One step of the recogniser: what the loop keeps.
use mathlib.Core.Path.{◌≡◌, refl, sym, ap, subst, ◌∙◌}
use mathlib.Core.Bool.{Bool, false}
use mathlib.Core.List.{List, [], ◌∷◌}
use mathlib.Core.Option.{Option, none, some}
use Rattle.std.specs.Prelude as turns
use Rattle.std.specs.Prelude.{Some, None}
use Prim.Native.Nat.{ℕ, suc, ◌+◌, ◌≤◌, ◌<◌}
use native.Mathlib.Numerals.{add-one}
use lib.ListN.{length, drop, get_or, set, drop_of_length-le}
use lib.Seq.{drop-cons}
use Rattle.grammar.specs.Shapes.{OperandShape, shape_complete}
use Rattle.read_shapes.specs.Phrases.{move_by_sort, shape_over, phrase_from}
use Rattle.read_shapes.specs.Numbers.{openings_at, shape_at, complete_at}
use Rattle.read_shapes.specs.Turns.{shape_by_sort, turn_of}
use Rattle.read_shapes.specs.declared.Mode.{Mode}
use Rattle.read_shapes.specs.declared.Turn.{Turn}
use Rattle.read_shapes.proofs.TurnMeans.{after, Small, Does, turn-does, complete-means}

-- what has failed stays so
failed-stays : (ss : List ℕ) → shape_over none ss ≡ none
unfolding shape_over move_by_sort
failed-stays [] = refl
failed-stays (s ∷ ss) = failed-stays ss

-- the answer of a state, for the sorts from a place on
abbrev pub answer_at : List ℕ → List ℕ → Mode → ℕ → ℕ → ℕ → Bool
answer_at sorts stack m k d at = phrase_from (some (shape_at m k (openings_at stack d))) (drop at sorts)

module _ (sorts stack : List ℕ) (m : Mode) (k d at : ℕ) where
  -- nothing is left
  pub answer-at-end : length sorts ≤ at → complete_at m d ≡ answer_at sorts stack m k d at
  unfolding shape_over
  answer-at-end h = complete-means stack m k d ∙ sym (ap (λ (ss : List ℕ). phrase_from (some (shape_at m k (openings_at stack d))) ss) (drop_of_length-le sorts h))

  module _ (more : at < length sorts) (r : turns.Option Turn) (does : r ≡ turn_of m k d (get_or stack d 0) (get_or sorts at 0)) (room : suc d < length stack) (small : k < 8) where
    -- the next token does what its sort says
    turned : Does stack d r (shape_by_sort (shape_at m k (openings_at stack d)) (get_or sorts at 0))
    turned = subst (λ (x : turns.Option Turn). Does stack d x (shape_by_sort (shape_at m k (openings_at stack d)) (get_or sorts at 0))) (sym does) (turn-does stack m k d (get_or sorts at 0) room small)

    answer-turned : answer_at sorts stack m k d at ≡ phrase_from (after stack d r) (drop (suc at) sorts)
    unfolding shape_over move_by_sort
    answer-turned =
        ap (phrase_from (some (shape_at m k (openings_at stack d)))) (drop-cons sorts at 0 more)
        ∙ ap (λ (q : Option OperandShape). phrase_from q (drop (suc at) sorts)) (sym turned.0)

    -- it may not stand there
    pub turn-stops : r ≡ None → false ≡ answer_at sorts stack m k d at
    unfolding shape_complete
    turn-stops e =
        sym
        (answer-turned
        ∙ ap (λ (x : turns.Option Turn). phrase_from (after stack d x) (drop (suc at) sorts)) e
        ∙ ap shape_complete (failed-stays (drop (suc at) sorts)))

    -- it may
    module _ (t : Turn) (e : r ≡ Some t) where
      pub turn-small : (t.kind < 8) × (t.depth ≤ d + 1)
      turn-small = subst (Small d) e turned.1

      pub turn-goes-on : answer_at sorts stack m k d at ≡ answer_at sorts (set stack (d + 1) t.pushed) t.mode t.kind t.depth (at + 1)
      turn-goes-on = answer-turned ∙ ap (λ (x : turns.Option Turn). phrase_from (after stack d x) (drop (suc at) sorts)) e ∙ rw (add-one at) refl
