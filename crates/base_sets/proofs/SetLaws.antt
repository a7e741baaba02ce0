-- Numbers put into bit sets one after another: laws of `with_all`.
use mathlib.Core.Path.{◌≡◌, refl, sym, ap, ap₂, ◌∙◌}
use mathlib.Core.Bool.{Bool, ◌||◌}
use mathlib.Core.List.{List, [], ◌∷◌, ◌++◌, append-nil}
use Prim.Native.Nat.{ℕ, suc, ◌+◌, ◌-◌, ◌*◌, ◌/◌, ◌%◌, ◌^◌, ◌<◌, ◌≤◌}
use native.Mathlib.Numerals.{add-one}
use native.Mathlib.Omega.{arith}
use lib.ListN.{length, get_or, set, take, drop, drop_of_length-le}
use lib.Seq.{set_out, take_all, drop-cons, append_snoc, take-suc-set, drop-set-lt}
use lib.Bits.{bit_or}
use borrow.Author.Tests.{le-ltb, lt-ltb}
use Rattle.meaning.specs.Usage.{numbers_from}
use Rattle.base_sets.specs.Sets.{with_one, with_all, set_union, in_common, share, in_sort}
use Rattle.base_sets.proofs.Words.{power-fits}

-- one number put in, as the code does it
module _ (ws : List ℕ) (sort x : ℕ) where
  pub put-large : 256 ≤ x → ws ≡ with_one ws sort x
  unfolding with_one
  put-large h = simp (le-ltb x 256 h)

  pub put-past : x < 256 → length ws ≤ 4 * sort + x / 64 → ws ≡ with_one ws sort x
  unfolding with_one
  put-past h g = simp (lt-ltb x 256 h, set_out ws (4 * sort + x / 64) (bit_or (get_or ws (4 * sort + x / 64) 0) (2 ^ (x % 64))) g)

  pub put_in : x < 256 → set ws (4 * sort + x / 64) (bit_or (get_or ws (4 * sort + x / 64) 0) ((1 * 2 ^ (x % 64)) % 18446744073709551616)) ≡ with_one ws sort x
  unfolding with_one
  put_in h = simp (power-fits x, lt-ltb x 256 h)

-- one list after another
pub with_append : (ws l m : List ℕ) → with_all ws (l ++ m) ≡ with_all (with_all ws l) m
unfolding with_all
with_append ws [] m = refl
with_append ws (n ∷ l) m = with_append (with_one ws (n % 4) (n / 4)) l m

-- lists put in one after another
pub no_call : (s : List ℕ) {l : List ℕ} → l ≡ [] → s ≡ with_all s l
unfolding with_all
no_call s e = rw e

pub one-call : (s k : List ℕ) {x l : List ℕ} → x ≡ with_all s k → l ≡ k → x ≡ with_all s l
one-call s k p e = rw e p

pub two-calls : (s k m : List ℕ) {x y l : List ℕ} → y ≡ with_all s k → x ≡ with_all y m → l ≡ k ++ m → x ≡ with_all s l
two-calls s k m p q e = q ∙ ap (λ (z : List ℕ). with_all z m) p ∙ sym (with_append s k m) ∙ ap (with_all s) (sym e)

pub three-calls : (s k m n : List ℕ) {x y z l : List ℕ} → y ≡ with_all s k → z ≡ with_all y m → x ≡ with_all z n → l ≡ k ++ (m ++ n) → x ≡ with_all s l
three-calls s k m n {x} {y} {z} p q r e = two-calls s k (m ++ n) p (two-calls y m n q r refl) e

pub with_none : (ws : List ℕ) → with_all ws [] ≡ ws
unfolding with_all
with_none ws = refl

-- one number of a sort after another
pub with-next : (ws : List ℕ) (sort x : ℕ) (l : List ℕ) → sort < 4 → with_all ws (in_sort sort (x ∷ l)) ≡ with_all (with_one ws sort x) (in_sort sort l)
unfolding with_all
with-next ws sort x l h =
    let p : (4 * x + sort) % 4 ≡ sort = omega arith in
    let q : (4 * x + sort) / 4 ≡ x = omega arith in
    ap₂ (λ (s y : ℕ). with_all (with_one ws s y) (in_sort sort l)) p q

pub sort-append : (sort : ℕ) (l m : List ℕ) → in_sort sort (l ++ m) ≡ in_sort sort l ++ in_sort sort m
sort-append sort [] m = refl
sort-append sort (x ∷ l) m = ap (λ (k : List ℕ). (4 * x + sort) ∷ k) (sort-append sort l m)

-- a range from its first number on
pub range-start : (first n : ℕ) → numbers_from first n ≡ numbers_from (first + 0) (n - 0)
range-start first n = let p : first ≡ first + 0 = omega arith in let q : n ≡ n - 0 = omega arith in ap₂ numbers_from p q

pub range-next : (first n k : ℕ) → k < n → numbers_from (first + k) (n - k) ≡ (first + k) ∷ numbers_from (first + (k + 1)) (n - (k + 1))
unfolding numbers_from
range-next first n k h =
    let p : n - k ≡ suc (n - (k + 1)) = omega arith in
    let q : suc (first + k) ≡ first + (k + 1) = omega arith in
    ap (numbers_from (first + k)) p ∙ ap (λ (f : ℕ). (first + k) ∷ numbers_from f (n - (k + 1))) q

pub range_none : (first n k : ℕ) → n ≤ k → numbers_from first (n - k) ≡ []
unfolding numbers_from
range_none first n k h = let p : n - k ≡ 0 = omega arith in ap (numbers_from first) p

-- two sets joined word by word: the words before i are done
pub join-start : (vs ws : List ℕ) → set_union vs ws ≡ take 0 vs ++ set_union (drop 0 vs) (drop 0 ws)
join-start vs ws = refl

pub join_step : (vs ws : List ℕ) (i : ℕ) → i < length vs → i < length ws
    → take i vs ++ set_union (drop i vs) (drop i ws)
    ≡ take (i + 1) (set vs i (bit_or (get_or vs i 0) (get_or ws i 0))) ++ set_union (drop (i + 1) (set vs i (bit_or (get_or vs i 0) (get_or ws i 0)))) (drop (i + 1) ws)
unfolding set_union
join_step vs ws i h g =
    let b = bit_or (get_or vs i 0) (get_or ws i 0) in
    rw (add-one i, drop-cons vs i 0 h, drop-cons ws i 0 g, take-suc-set vs i b h, drop-set-lt (suc i) vs i b (omega arith), append_snoc (take i vs) b)

pub join-done : (vs ws : List ℕ) (i : ℕ) → length vs ≤ i → take i vs ++ set_union (drop i vs) (drop i ws) ≡ vs
unfolding set_union
join-done vs ws i h = rw (drop_of_length-le vs h, take_all i vs h, append-nil)

-- a list of one number put in
pub one_more : (s : List ℕ) (sort n : ℕ) {x l : List ℕ} → sort < 4 → x ≡ with_one s sort n → l ≡ n ∷ [] → x ≡ with_all s (in_sort sort l)
one_more s sort n h p e = p ∙ sym (with_none (with_one s sort n)) ∙ sym (with-next s sort n [] h) ∙ ap (λ (k : List ℕ). with_all s (in_sort sort k)) (sym e)

-- four words compared one after another
pub meets-four : (vs : List ℕ) (i : ℕ) (ws : List ℕ) (j : ℕ) {a b c d : Bool} → a ≡ share (get_or vs i 0) (get_or ws j 0) → b ≡ share (get_or vs (i + 1) 0) (get_or ws (j + 1) 0)
    → c ≡ share (get_or vs (i + 2) 0) (get_or ws (j + 2) 0) → d ≡ share (get_or vs (i + 3) 0) (get_or ws (j + 3) 0) → (a || (b || (c || d))) ≡ in_common vs i ws j
unfolding in_common
meets-four vs i ws j p q r s = ap₂ (λ (a t : Bool). a || t) p (ap₂ (λ (b t : Bool). b || t) q (ap₂ (λ (c d : Bool). c || d) r s))
