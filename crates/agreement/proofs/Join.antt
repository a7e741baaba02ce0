-- Where any two steps commute, two orders from one state come to a common state: first a step and an order, then two orders.
use mathlib.Core.Path.{◌≡◌, refl, sym, ap, subst, ◌∙◌}
use mathlib.Core.Logic.{◌≢◌, ◌⊎◌, inl, inr}
use mathlib.Core.List.{List, [], ◌∷◌, ◌++◌}
use Prim.Native.Nat.{ℕ, ◌+◌, ◌-◌}
use native.Mathlib.Omega.{arith}
use native.Mathlib.Decide.{ℕ_discrete}
use lib.ListN.{length-append}
use Rattle.meaning.specs.State.{State, Program}
use Rattle.meaning.specs.Labels.{Label, label-discrete}
use Rattle.meaning.specs.Readings.{Sheet}
use Rattle.meaning.specs.Step.{Step}
use Rattle.meaning.specs.Order.{Order, halt, next-step}
use Rattle.agreement.specs.CommonClaims.{one_if, times, Common}

-- 1 if two steps are the same, else 0
abbrev is_step : Label → Label → ℕ
is_step x y = one_if (label-discrete ℕ_discrete x y)

-- a step is at most one of two that differ
at_most_one : (y a x : Label) → a ≢ x → (is_step y a ≡ 0) ⊎ (is_step y x ≡ 0)
at_most_one y a x ne = go (label-discrete ℕ_discrete y a) (label-discrete ℕ_discrete y x)
  where
    go : (p : Dec (y ≡ a)) (q : Dec (y ≡ x)) → (one_if p ≡ 0) ⊎ (one_if q ≡ 0)
    go (yes e) (yes f) = absurd (ne (sym e ∙ f))
    go (yes e) (no n) = inr refl
    go (no n) q = inl refl

is-itself : (y : Label) → is_step y y ≡ 1
is-itself y = go (label-discrete ℕ_discrete y y)
  where
    go : (p : Dec (y ≡ y)) → one_if p ≡ 1
    go (yes e) = refl
    go (no n) = absurd (n refl)

-- an order that takes no step is at its beginning
pub stays : {P : Program} {sheet : Sheet} {s t : State} {l : List Label} → Order P sheet s l t → ((y : Label) → times y l ≡ 0) → s ≡ t
stays halt h = refl
stays (next-step {x} g o) h = absurd (omega (arith, h x, is-itself x))

pub times-append : (y : Label) (l k : List Label) → times y (l ++ k) ≡ times y l + times y k
times-append y [] k = omega arith
times-append y (x ∷ l) k = let e = times-append y l k in omega arith

module _ (P : Program) (sheet : Sheet) where
  pub order-on : {s t u : State} {l k : List Label} → Order P sheet s l t → Order P sheet t k u → Order P sheet s (l ++ k) u
  order-on halt q = q
  order-on (next-step h o) q = next-step h (order-on o q)

  module _ (I : State → Type 0) (keeps : (s : State) (x : Label) (t : State) → I s → Step P sheet s x t → I t)
      (one_end : (s : State) (x : Label) (t u : State) → I s → Step P sheet s x t → Step P sheet s x u → t ≡ u)
      (square : (s : State) (x y : Label) (t u : State) → I s → x ≢ y → Step P sheet s x t → Step P sheet s y u → (v : State) × Step P sheet t y v × Step P sheet u x v)
    where
      -- a step and an order: it is taken in the order, or still ready at its end
      join_step : {s t : State} {l : List Label} (x : Label) (u : State) → I s → Order P sheet s l t → Step P sheet s x u → Common P sheet l t (x ∷ []) u
      join_step x u i halt h =
          record {
            state = u;
            first_more = x ∷ [];
            second_more = [];
            first-comes = next-step h halt;
            second-comes = halt;
            first-bound = omega arith;
            second-bound = omega arith;
            equally-long = refl;
            first-takes = λ y. omega arith;
            second-takes = λ y. omega arith;
          }
      join_step x u i (next-step {s} {t = w} {u = t} {x = a} {l} g o) h = go (label-discrete ℕ_discrete a x) (λ ne. let (v, p, q) = square s a x w u i ne g h in (v, q, join_step x v (keeps s a w i g) o p))
        where
          go : Dec (a ≡ x) → ((a ≢ x) → (v : State) × Step P sheet u a v × Common P sheet l t (x ∷ []) v) → Common P sheet (a ∷ l) t (x ∷ []) u
          go (yes e) late =
              let z : w ≡ u = one_end s x w u i (subst (λ (b : Label). Step P sheet s b w) e g) h in
              record {
                state = t;
                first_more = [];
                second_more = l;
                first-comes = halt;
                second-comes = subst (λ (b : State). Order P sheet b l t) z o;
                first-bound = omega arith;
                second-bound = omega arith;
                equally-long = omega arith;
                first-takes = λ y. let c : is_step y a ≡ is_step y x = ap (is_step y) e in omega arith;
                second-takes = λ y. let c : is_step y a ≡ is_step y x = ap (is_step y) e in omega arith;
              }
          go (no ne) late =
              let (v, q, m) = late ne in
              record {
                state = m.state;
                first_more = m.first_more;
                second_more = a ∷ m.second_more;
                first-comes = m.first-comes;
                second-comes = next-step q m.second-comes;
                first-bound = m.first-bound;
                second-bound = let c = m.second-bound in omega arith;
                equally-long = let c = m.equally-long in omega arith;
                first-takes = λ y. takes y (at_most_one y a x ne) (m.first-takes y);
                second-takes = λ y. takes-too y m.second_more (at_most_one y a x ne) (m.second-takes y);
              }
            where
              takes : (y : Label) {n : ℕ} → (is_step y a ≡ 0) ⊎ (is_step y x ≡ 0) → n ≡ (is_step y x + 0) - times y l → n ≡ (is_step y x + 0) - (is_step y a + times y l)
              takes y (inl e) f = omega arith
              takes y (inr e) f = omega arith

              takes-too : (y : Label) (n : List Label) → (is_step y a ≡ 0) ⊎ (is_step y x ≡ 0) → times y n ≡ times y l - (is_step y x + 0) → is_step y a + times y n ≡ (is_step y a + times y l) - (is_step y x + 0)
              takes-too y n (inl e) f = omega arith
              takes-too y n (inr e) f = omega arith

      -- two orders
      pub join : {s t u : State} {l k : List Label} → I s → Order P sheet s l t → Order P sheet s k u → Common P sheet l t k u
      join {t} {l} i o halt =
          record {
            state = t;
            first_more = [];
            second_more = l;
            first-comes = halt;
            second-comes = o;
            first-bound = omega arith;
            second-bound = omega arith;
            equally-long = omega arith;
            first-takes = λ y. omega arith;
            second-takes = λ y. omega arith;
          }
      join {l} i o (next-step {s} {t = w} {x} {l = k} h q) =
          let m = join_step x w i o h in
          let n = join (keeps s x w i h) m.second-comes q in
          record {
            state = n.state;
            first_more = m.first_more ++ n.first_more;
            second_more = n.second_more;
            first-comes = order-on m.first-comes n.first-comes;
            second-comes = n.second-comes;
            first-bound = omega (arith, length-append m.first_more n.first_more, m.first-bound, n.first-bound);
            second-bound = omega (arith, m.second-bound, n.second-bound);
            equally-long = omega (arith, length-append m.first_more n.first_more, m.equally-long, n.equally-long);
            first-takes = λ y. omega (arith, times-append y m.first_more n.first_more, m.first-takes y, m.second-takes y, n.first-takes y);
            second-takes = λ y. omega (arith, m.first-takes y, m.second-takes y, n.second-takes y);
          }
