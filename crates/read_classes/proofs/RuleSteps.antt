-- The parts and the rules, test by test.
use mathlib.Core.Path.{◌≡◌, sym, ap, ap₂, ◌∙◌}
use mathlib.Core.Bool.{Bool, true, false, ◌&&◌}
use mathlib.Core.List.{List}
use Prim.Native.Nat.{ℕ}
use borrow.Author.Tests.{ne_eqb}
use Rattle.meaning.specs.Basics.{if_else}
use Rattle.read_tokens.specs.Sorts as sorts
use Rattle.read_classes.specs.Rules.{alone_in, exchange_in, event_by_mark, Rule, part_is, rules, rule_at, class_by_rule, class_by_mark}

module _ (s : ℕ) (bs cs : List ℕ) where
  -- SKIP
  pub event-skips : s ≡ sorts.skip → alone_in bs cs ≡ event_by_mark s bs cs
  event-skips e = ap (λ (n : ℕ). event_by_mark n bs cs) (sym e)

  -- an input
  pub event-asks : s ≡ sorts.asks → exchange_in bs cs ≡ event_by_mark s bs cs
  event-asks e = ap (λ (n : ℕ). event_by_mark n bs cs) (sym e)

  -- another mark, or none
  pub event-other : (s ≡ sorts.skip → ⊥) → (s ≡ sorts.asks → ⊥) → false ≡ event_by_mark s bs cs
  event-other n m = rw (ne_eqb s sorts.skip n, ne_eqb s sorts.asks m)

module _ (s : ℕ) (bs cs : List ℕ) (r : Rule) (is : r ≡ rule_at rules s) where
  -- by the rule of the sort
  by-rule : class_by_rule r bs cs ≡ class_by_mark s bs cs
  unfolding class_by_mark
  by-rule = ap (λ (x : Rule). class_by_rule x bs cs) is

  -- what stands before is not what is asked for
  pub refused-before : part_is r.0 bs ≡ false → 0 ≡ class_by_mark s bs cs
  refused-before h = sym (ap (λ (b : Bool). if_else (b && part_is r.1 cs) r.2 0) h) ∙ by-rule

  module _ (first : part_is r.0 bs ≡ true) where
    by-second : (t : Bool) → part_is r.1 cs ≡ t → if_else t r.2 0 ≡ class_by_mark s bs cs
    by-second t h = sym (ap₂ (λ (b c : Bool). if_else (b && c) r.2 0) first h) ∙ by-rule

    -- what stands after is not
    pub refused-after : part_is r.1 cs ≡ false → 0 ≡ class_by_mark s bs cs
    refused-after h = by-second false h

    -- both are
    pub accepted : part_is r.1 cs ≡ true → r.2 ≡ class_by_mark s bs cs
    accepted h = by-second true h
