-- What a token does by number is what it does to the state that the numbers stand for.
use mathlib.Core.Path.{◌≡◌, refl, sym, ap₂, subst}
use mathlib.Core.Bool.{Bool, true, false}
use mathlib.Core.List.{List, [], ◌∷◌}
use mathlib.Core.Option.{Option, none, some}
use Rattle.std.specs.Prelude as turns
use Rattle.std.specs.Prelude.{Some, None}
use Prim.Native.Nat.{ℕ, zero, suc, ◌+◌, ◌-◌, ◌%◌, ◌≤◌, ◌<◌}
use native.Mathlib.Numerals.{add-one}
use native.Mathlib.Omega.{arith}
use lib.ListN.{length, get_or, set}
use lib.Seq.{get_or-set_same, get_or-set_other}
use lib.Dec.{eqb, ltb}
use borrow.Author.Tests.{ne_eqb, eqb-true, lt-ltb, le-ltb}
use Rattle.meaning.specs.Basics.{if_else}
use Rattle.grammar.specs.Grammar.{Link, both, either}
use Rattle.grammar.specs.Shapes.{initial, final, element, chain, Opening, round-in, square-in, OperandShape, wants, has, unless_element, if_initial, chain_on, round_off, square_off, square_on, shape_complete}
use Rattle.read_shapes.specs.Numbers.{is_bare, kind_at, opening_at, top_first, openings_at, shape_at, complete_at}
use Rattle.read_shapes.specs.Turns.{by_wanted, by_had, shape_by_sort, kept, opened, closed, unless_element_turn, if_initial_turn, chain_turn, round_off_turn, square_off_turn, square_on_turn, turn_wanting, turn_having, turn_of}
use Rattle.read_shapes.specs.declared.Mode.{Mode}
use Rattle.read_shapes.specs.declared.Mode.TheVariants.{Wants, Has, HasName}
use Rattle.read_shapes.specs.declared.Turn.{Turn}

-- Kinds by number ---------------------------------------------------------------------------------------------------------------

data KindCase : ℕ → Type 0 where
  is-initial : KindCase 0
  is-element : KindCase 2
  is-and : KindCase 3
  is-or : KindCase 4
  is-final : (k : ℕ) → eqb k 0 ≡ false → eqb k 2 ≡ false → eqb k 3 ≡ false → eqb k 4 ≡ false → KindCase k

kind-case : (k : ℕ) → KindCase k
kind-case k = go (eqb k 0) (eqb k 2) (eqb k 3) (eqb k 4) refl refl refl refl
  where
    go : (a b c d : Bool) → eqb k 0 ≡ a → eqb k 2 ≡ b → eqb k 3 ≡ c → eqb k 4 ≡ d → KindCase k
    go true b c d p q r s = subst KindCase (sym (eqb-true k 0 p)) is-initial
    go false true c d p q r s = subst KindCase (sym (eqb-true k 2 q)) is-element
    go false false true d p q r s = subst KindCase (sym (eqb-true k 3 r)) is-and
    go false false false true p q r s = subst KindCase (sym (eqb-true k 4 s)) is-or
    go false false false false p q r s = is-final k p q r s

unless-number : (k : ℕ) (q : OperandShape) → unless_element (kind_at k) q ≡ if_else (eqb k 2) none (some q)
unfolding unless_element kind_at
unless-number k q = go (kind-case k)
  where
    go : {j : ℕ} → KindCase j → unless_element (kind_at j) q ≡ if_else (eqb j 2) none (some q)
    go is-initial = refl
    go is-element = refl
    go is-and = refl
    go is-or = refl
    go (is-final j a b c d) = rw (a, b, c, d) refl

initial-number : (k : ℕ) (q : OperandShape) → if_initial (kind_at k) q ≡ if_else (eqb k 0) (some q) none
unfolding if_initial kind_at
initial-number k q = go (kind-case k)
  where
    go : {j : ℕ} → KindCase j → if_initial (kind_at j) q ≡ if_else (eqb j 0) (some q) none
    go is-initial = refl
    go is-element = refl
    go is-and = refl
    go is-or = refl
    go (is-final j a b c d) = rw (a, b, c, d) refl

-- the number of a chain
abbrev chain_number : Link → ℕ
chain_number both = 3
chain_number either = 4

chain-number : (l : Link) (k : ℕ) (os : List Opening)
    → chain_on l (kind_at k) os ≡ if_else (eqb k 0) (some (wants (chain l) os)) (if_else (eqb k (chain_number l)) (some (wants (chain l) os)) none)
unfolding chain_on kind_at
chain-number l k os = go l (kind-case k)
  where
    go : (l : Link) {j : ℕ} → KindCase j
        → chain_on l (kind_at j) os ≡ if_else (eqb j 0) (some (wants (chain l) os)) (if_else (eqb j (chain_number l)) (some (wants (chain l) os)) none)
    go l is-initial = refl
    go both is-element = refl
    go either is-element = refl
    go both is-and = refl
    go either is-and = refl
    go both is-or = refl
    go either is-or = refl
    go both (is-final j a b c d) = rw (a, b, c, d) refl
    go either (is-final j a b c d) = rw (a, b, c, d) refl

-- The stack ---------------------------------------------------------------------------------------------------------------------

-- what is stored above is not seen
stack_above : (stack : List ℕ) (d i v : ℕ) → d < i → top_first (set stack i v) d ≡ top_first stack d
unfolding top_first
stack_above stack zero i v h = refl
stack_above stack (suc d) i v h =
    ap₂ (λ (b : ℕ) (bs : List ℕ). b ∷ bs) (get_or-set_other stack i (suc d) v 0 (λ e. let z = h in omega (arith, e))) (stack_above stack d i v (omega arith))

-- what is pushed is first
stack-pushed : (stack : List ℕ) (d v : ℕ) → suc d < length stack → top_first (set stack (suc d) v) (suc d) ≡ v ∷ top_first stack d
unfolding top_first
stack-pushed stack d v h = ap₂ (λ (b : ℕ) (bs : List ℕ). b ∷ bs) (get_or-set_same stack (suc d) v 0 h) (stack_above stack d (suc d) v (omega arith))

-- Turns -------------------------------------------------------------------------------------------------------------------------

-- the state after a turn, whose byte is stored above the open brackets
abbrev pub after : List ℕ → ℕ → turns.Option Turn → Option OperandShape
after stack d None = none
after stack d (Some t) = some (shape_at t.mode t.kind (openings_at (set stack (d + 1) t.pushed) t.depth))

-- its kind is small, and it opens at most one bracket
abbrev pub Small : ℕ → turns.Option Turn → Type 0
Small d None = Unit {0}
Small d (Some t) = (t.kind < 8) × (t.depth ≤ d + 1)

-- a turn leads to a state
abbrev pub Does : List ℕ → ℕ → turns.Option Turn → Option OperandShape → Type 0
Does stack d t q = (after stack d t ≡ q) × Small d t

module _ (stack : List ℕ) where
  stop-does : (d : ℕ) → Does stack d None none
  stop-does d = (refl, tt)

  keep-does : (m : Mode) (k d : ℕ) → k < 8 → Does stack d (Some (kept m k d)) (some (shape_at m k (openings_at stack d)))
  keep-does m k d l = (rw (stack_above stack d (d + 1) 0 (omega arith)) refl, (l, omega arith))

  open-does : (b d : ℕ) → suc d < length stack → Does stack d (Some (opened b d)) (some (wants initial (opening_at b ∷ openings_at stack d)))
  unfolding kind_at
  open-does b d h = (rw (add-one d, stack-pushed stack d b h) refl, (omega arith, omega arith))

  close-does : (top d : ℕ) → Does stack (suc d) (Some (closed top (suc d))) (some (has (kind_at (top % 8)) (openings_at stack d) false))
  close-does top d =
      let e : suc d - 1 ≡ d = omega arith in
      (rw (e, stack_above stack d (suc d + 1) 0 (omega arith)) refl, (omega arith, omega arith))

  -- the same after a test
  unless-does : (k d : ℕ) (t : Turn) (q : OperandShape) → Does stack d (Some t) (some q) → Does stack d (unless_element_turn k t) (unless_element (kind_at k) q)
  unless-does k d t q h = subst (Does stack d (unless_element_turn k t)) (sym (unless-number k q)) (go (eqb k 2))
    where
      go : (b : Bool) → Does stack d (if_else b None (Some t)) (if_else b none (some q))
      go true = stop-does d
      go false = h

  initial-does : (k d : ℕ) (t : Turn) (q : OperandShape) → Does stack d (Some t) (some q) → Does stack d (if_initial_turn k t) (if_initial (kind_at k) q)
  initial-does k d t q h = subst (Does stack d (if_initial_turn k t)) (sym (initial-number k q)) (go (eqb k 0))
    where
      go : (b : Bool) → Does stack d (if_else b (Some t) None) (if_else b (some q) none)
      go true = h
      go false = stop-does d

  chain-does : (l : Link) (k d : ℕ) → Does stack d (chain_turn (chain_number l) k d) (chain_on l (kind_at k) (openings_at stack d))
  unfolding kind_at
  chain-does l k d = subst (Does stack d (chain_turn (chain_number l) k d)) (sym (chain-number l k (openings_at stack d))) (go l (eqb k 0) (eqb k (chain_number l)))
    where
      linked : (l : Link) → Does stack d (Some (kept Wants (chain_number l) d)) (some (wants (chain l) (openings_at stack d)))
      linked both = keep-does Wants 3 d (omega arith)
      linked either = keep-does Wants 4 d (omega arith)

      go : (l : Link) (a b : Bool)
          → Does stack d (if_else a (Some (kept Wants (chain_number l) d)) (if_else b (Some (kept Wants (chain_number l) d)) None)) (if_else a (some (wants (chain l) (openings_at stack d))) (if_else b (some (wants (chain l) (openings_at stack d))) none))
      go l true b = linked l
      go l false true = linked l
      go l false false = stop-does d

  round-does : (d : ℕ) → Does stack d (round_off_turn (get_or stack d 0) d) (round_off (openings_at stack d))
  unfolding round_off top_first opening_at
  round-does zero = stop-does 0
  round-does (suc d) = let top = get_or stack (suc d) 0 in rw (ne_eqb (suc d) 0 (λ e. omega (arith, e))) (go (ltb top 8))
    where
      go : (b : Bool) → Does stack (suc d) (if_else b (Some (closed (get_or stack (suc d) 0) (suc d))) None)
          (round_off (if_else b (round-in (kind_at (get_or stack (suc d) 0 % 8))) (square-in (kind_at (get_or stack (suc d) 0 % 8))) ∷ openings_at stack d))
      go true = close-does (get_or stack (suc d) 0) d
      go false = stop-does (suc d)

  square-does : (d : ℕ) → Does stack d (square_off_turn (get_or stack d 0) d) (square_off (openings_at stack d))
  unfolding square_off top_first opening_at
  square-does zero = stop-does 0
  square-does (suc d) = let top = get_or stack (suc d) 0 in rw (ne_eqb (suc d) 0 (λ e. omega (arith, e))) (go (ltb top 8))
    where
      go : (b : Bool) → Does stack (suc d) (if_else b None (Some (closed (get_or stack (suc d) 0) (suc d))))
          (square_off (if_else b (round-in (kind_at (get_or stack (suc d) 0 % 8))) (square-in (kind_at (get_or stack (suc d) 0 % 8))) ∷ openings_at stack d))
      go true = stop-does (suc d)
      go false = close-does (get_or stack (suc d) 0) d

  -- an open bracket of each form
  round_number : (k : ℕ) → k < 8 → opening_at k ≡ round-in (kind_at k)
  unfolding opening_at
  round_number k h = let e : k % 8 ≡ k = omega arith in rw (lt-ltb k 8 h, e) refl

  square-number : (k : ℕ) → k < 8 → opening_at (k + 8) ≡ square-in (kind_at k)
  unfolding opening_at
  square-number k h = let e : (k + 8) % 8 ≡ k = omega arith in rw (le-ltb (k + 8) 8 (omega arith), e) refl

  bracket-does : (k d : ℕ) → suc d < length stack → k < 8 → Does stack d (Some (opened k d)) (some (wants initial (round-in (kind_at k) ∷ openings_at stack d)))
  bracket-does k d r h = subst (λ (o : Opening). Does stack d (Some (opened k d)) (some (wants initial (o ∷ openings_at stack d)))) (round_number k h) (open-does k d r)

  subscript-does : (m : Mode) (k d : ℕ) → suc d < length stack → k < 8 → Does stack d (square_on_turn m k d) (square_on (kind_at k) (openings_at stack d) (is_bare m))
  unfolding square_on
  subscript-does m k d r h = go (is_bare m)
    where
      go : (b : Bool) → Does stack d (if_else b (Some (opened (k + 8) d)) None) (square_on (kind_at k) (openings_at stack d) b)
      go true = subst (λ (o : Opening). Does stack d (Some (opened (k + 8) d)) (some (wants initial (o ∷ openings_at stack d)))) (square-number k h) (open-does (k + 8) d r)
      go false = stop-does d

-- By sort -----------------------------------------------------------------------------------------------------------------------

module _ {A B : Type 0} (R : A → B → Type 0) (s : ℕ) where
  by-wanted : {a b c d e f : A} {u v w x y z : B} → R a u → R b v → R c w → R d x → R e y → R f z → R (by_wanted s a b c d e f) (by_wanted s u v w x y z)
  by-wanted {a} {b} {c} {d} {e} {f} {u} {v} {w} {x} {y} {z} p q r t o n = go (eqb s 1) (eqb s 2) (eqb s 3) (eqb s 4) (eqb s 5) (eqb s 9)
    where
      go : (g h i j k l : Bool) → R (if_else g a (if_else h b (if_else i c (if_else j c (if_else k d (if_else l e f)))))) (if_else g u (if_else h v (if_else i w (if_else j w (if_else k x (if_else l y z))))))
      go true h i j k l = p
      go false true i j k l = q
      go false false true j k l = r
      go false false false true k l = r
      go false false false false true l = t
      go false false false false false true = o
      go false false false false false false = n

  by-had : {a b c d e f g : A} {u v w x y z t : B} → R a u → R b v → R c w → R d x → R e y → R f z → R g t → R (by_had s a b c d e f g) (by_had s u v w x y z t)
  by-had {a} {b} {c} {d} {e} {f} {g} {u} {v} {w} {x} {y} {z} {t} p q r o n i m = go (eqb s 3) (eqb s 6) (eqb s 7) (eqb s 8) (eqb s 10) (eqb s 11) (eqb s 12)
    where
      go : (h i j k l α β : Bool)
          → R (if_else h a (if_else i a (if_else j b (if_else k c (if_else l d (if_else α e (if_else β f g))))))) (if_else h u (if_else i u (if_else j v (if_else k w (if_else l x (if_else α y (if_else β z t)))))))
      go true i j k l α β = p
      go false true j k l α β = p
      go false false true k l α β = q
      go false false false true l α β = r
      go false false false false true α β = o
      go false false false false false true β = n
      go false false false false false false true = i
      go false false false false false false false = m

-- what a token does by number is what its sort does to the state
pub turn-does : (stack : List ℕ) (m : Mode) (k d s : ℕ) → suc d < length stack → k < 8
    → Does stack d (turn_of m k d (get_or stack d 0) s) (shape_by_sort (shape_at m k (openings_at stack d)) s)
unfolding turn_of turn_wanting turn_having shape_by_sort kind_at
turn-does stack Wants k d s r h =
    let os = openings_at stack d in
    by-wanted (Does stack d) s
    (keep-does stack HasName k d h)
    (unless-does stack k d (kept Has k d) (has (kind_at k) os false) (keep-does stack Has k d h))
    (initial-does stack k d (kept Wants 1 d) (wants final os) (keep-does stack Wants 1 d (omega arith)))
    (initial-does stack k d (kept Wants 2 d) (wants element os) (keep-does stack Wants 2 d (omega arith)))
    (unless-does stack k d (opened k d) (wants initial (round-in (kind_at k) ∷ os)) (bracket-does stack k d r h))
    (stop-does stack d)
turn-does stack Has k d s r h =
    by-had (Does stack d) s
    (initial-does stack k d (kept Wants 1 d) (wants final (openings_at stack d)) (keep-does stack Wants 1 d (omega arith)))
    (chain-does stack both k d)
    (chain-does stack either k d)
    (round-does stack d)
    (subscript-does stack Has k d r h)
    (square-does stack d)
    (stop-does stack d)
turn-does stack HasName k d s r h =
    by-had (Does stack d) s
    (initial-does stack k d (kept Wants 1 d) (wants final (openings_at stack d)) (keep-does stack Wants 1 d (omega arith)))
    (chain-does stack both k d)
    (chain-does stack either k d)
    (round-does stack d)
    (subscript-does stack HasName k d r h)
    (square-does stack d)
    (stop-does stack d)

-- an operand has been read and no bracket is open
pub complete-means : (stack : List ℕ) (m : Mode) (k d : ℕ) → complete_at m d ≡ shape_complete (some (shape_at m k (openings_at stack d)))
unfolding shape_complete top_first
complete-means stack Wants k d = refl
complete-means stack Has k zero = refl
complete-means stack Has k (suc d) = ne_eqb (suc d) 0 (λ e. omega (arith, e))
complete-means stack HasName k zero = refl
complete-means stack HasName k (suc d) = ne_eqb (suc d) 0 (λ e. omega (arith, e))
