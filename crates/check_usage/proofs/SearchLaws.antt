-- Tests made in turn until one holds: one after another, in two lists, and how many are made at most.
use mathlib.Core.Path.{◌≡◌, refl, sym, ap, ◌∙◌}
use mathlib.Core.Bool.{Bool, true, false}
use mathlib.Core.List.{List, [], ◌∷◌, ◌++◌, map}
use Prim.Native.Nat.{ℕ, suc, ◌+◌, ◌*◌, ◌<◌, ◌≤◌}
use native.Mathlib.Numerals.{add-one}
use native.Mathlib.Omega.{arith}
use lib.ListN.{length, get_or, drop, length-append, length-map, length-drop, drop_of_length-le}
use lib.Seq.{drop-cons}
use Rattle.std.specs.Prelude.{Result, Ok, Err}
use Rattle.check_usage.specs.declared.pairs.ClashFound.{ClashFound}
use Rattle.check_usage.specs.Search.{tests_of, searched, pairs_of}

-- one list after another: what a search has made, and then the tests that follow
abbrev pub then_searched : Result ℕ ClashFound → List Bool → Result ℕ ClashFound
then_searched (Ok n) m = searched n m
then_searched (Err c) m = Err c

search-append : (before : ℕ) (l m : List Bool) → searched before (l ++ m) ≡ then_searched (searched before l) m
unfolding searched
search-append before [] m = refl
search-append before (true ∷ l) m = refl
search-append before (false ∷ l) m = search-append (suc before) l m

-- no more tests are made than there are
search-most : (before : ℕ) (l : List Bool) → pairs_of (searched before l) ≤ before + length l
unfolding searched
search-most before [] = omega arith
search-most before (true ∷ l) = omega arith
search-most before (false ∷ l) = omega (arith, search-most (suc before) l)

tests-most : (test : ℕ → ℕ → Bool) (ps : List ℕ) → length ps ≤ 1024 → length (tests_of test ps) ≤ 1024 * length ps
unfolding tests_of
tests-most test [] h = omega arith
tests-most test (p ∷ ps) h = omega (arith, length-append (map (test p) ps) (tests_of test ps), length-map ps (test p), tests-most test ps (omega arith))

pub all_most : (test : ℕ → ℕ → Bool) (ps : List ℕ) (before : ℕ) {s : Result ℕ ClashFound} → length ps ≤ 1024 → s ≡ searched before (tests_of test ps) → pairs_of s ≤ before + 1048576
all_most test ps before h e = rw e (omega (arith, search-most before (tests_of test ps), tests-most test ps h))

-- the tests of one member with those from place j on
module _ (test : ℕ → Bool) (ps : List ℕ) (j before : ℕ) where
  next-test : j < length ps → {t : Bool} → test (get_or ps j 0) ≡ t → searched before (map test (drop j ps)) ≡ searched before (t ∷ map test (drop (j + 1) ps))
  next-test h e = rw (add-one j, drop-cons ps j 0 h, e)

  pub next-fails : j < length ps → test (get_or ps j 0) ≡ false → searched before (map test (drop j ps)) ≡ searched (before + 1) (map test (drop (j + 1) ps))
  unfolding searched
  next-fails h e = next-test h e ∙ ap (λ (n : ℕ). searched n (map test (drop (j + 1) ps))) (sym (add-one before))

  pub next-holds : j < length ps → test (get_or ps j 0) ≡ true → searched before (map test (drop j ps)) ≡ Err (record { pairs = before + 1 })
  unfolding searched
  next-holds h e = next-test h e ∙ ap (λ (n : ℕ). Err (record { pairs = n })) (sym (add-one before))

  pub none_left : length ps ≤ j → searched before (map test (drop j ps)) ≡ Ok before
  unfolding searched
  none_left h = rw (drop_of_length-le ps h)

-- the tests of the members from place i on, each with those after it
module _ (test : ℕ → ℕ → Bool) (ps : List ℕ) (i before : ℕ) where
  -- of the member at place i
  abbrev of_one : List Bool
  of_one = map (test (get_or ps i 0)) (drop (i + 1) ps)

  next-member : i < length ps → searched before (tests_of test (drop i ps)) ≡ searched before (of_one ++ tests_of test (drop (i + 1) ps))
  unfolding tests_of
  next-member h = rw (add-one i, drop-cons ps i 0 h)

  pub member-searched : {s : Result ℕ ClashFound} → i < length ps → s ≡ searched before of_one → searched before (tests_of test (drop i ps)) ≡ then_searched s (tests_of test (drop (i + 1) ps))
  member-searched h e = next-member h ∙ search-append before of_one (tests_of test (drop (i + 1) ps)) ∙ ap (λ (s : Result ℕ ClashFound). then_searched s (tests_of test (drop (i + 1) ps))) (sym e)

  pub member-most : {s : Result ℕ ClashFound} → s ≡ searched before of_one → pairs_of s ≤ before + length ps
  member-most e = rw e (omega (arith, search-most before of_one, length-map (drop (i + 1) ps) (test (get_or ps i 0)), length-drop (i + 1) ps))

  pub no-member-left : length ps ≤ i → searched before (tests_of test (drop i ps)) ≡ Ok before
  unfolding searched tests_of
  no-member-left h = rw (drop_of_length-le ps h)
