-- Two components compared by the sets of their rows clash exactly if they do by the definition, where all numbers are below 256.
use mathlib.Core.Path.{◌≡◌, refl, sym, ap, ap₂, ◌∙◌, subst}
use mathlib.Core.Bool.{Bool, true, ◌||◌}
use mathlib.Core.List.{List, ◌∷◌, ◌++◌, map, map-append, Memᴰ}
use mathlib.Core.Option.{Option}
use Prim.Native.Nat.{ℕ, zero, suc, ◌+◌, ◌*◌, ◌<◌, ◌≤◌}
use native.Mathlib.Omega.{arith}
use lib.IntN.{ℤ}
use lib.ListN.{length, get_or, drop}
use lib.Seq.{get_or-take, get_or-drop}
use Rattle.meaning.specs.Basics.{among, common}
use Rattle.meaning.specs.Rows.{row_count}
use Rattle.meaning.specs.Declarations.{declarations}
use Rattle.meaning.specs.Faults.{WithinLimits}
use Rattle.meaning.specs.Tree.{Process, Processes, empty, also, row_of, process_rows}
use Rattle.meaning.specs.Usage.{gather, cell_clash, input_clash, output_clash, Pair, pairs_with, pairs, Comparison, clashes}
use Rattle.base_sets.specs.Sets.{with_all, share, in_common, no_numbers}
use Rattle.base_sets.proofs.Bools.{or-none}
use Rattle.base_sets.proofs.SetLaws.{meets-four}
use Rattle.base_sets.proofs.Holds.{holds, all-holds, none-holds, fit_all, fit_none}
use Rattle.base_sets.proofs.Meets.{decides-same, meets-both, common-both}
use Rattle.check_components.specs.Marks.{marks, all_marks}
use Rattle.check_components.specs.RowSets.{HasSets}
use Rattle.check_components.proofs.Sorts.{Sort, changed, used, input_from, output_to, code, code_below, list_of}
use Rattle.check_components.proofs.ProcessSorts.{gather-sort}
use Rattle.check_usage.specs.Search.{meet_by, tests_of, HaveSets}
use Rattle.check_usage.proofs.SmallNumbers.{Small}
use Rattle.check_usage.proofs.SmallParts.{process-small}
use Rattle.check_components.proofs.ListedProcesses.{Stands, AllStand}

-- a pair in the PAR at row r
abbrev pub comparison : ℕ → ℕ → Pair → Comparison
comparison number r q = record { number = number; row = r; pair = q }

-- One process -----------------------------------------------------------------------------------------------------------------

-- the sets of what a process counts for
abbrev sets_of : Process → List ℕ
sets_of p = with_all no_numbers (gather p marks)

held : (p : Process) (s : Sort) (x : ℕ) → x < 256 → holds (sets_of p) (code s) x ≡ among x (gather p (list_of s))
held p s x l =
    all-holds no_numbers (gather p marks) (code s) x refl (code_below s) l
    ∙ ap₂ (λ (a b : Bool). a || b) (gather-sort x s p) (none-holds (code s) x)
    ∙ or-none (among x (gather p (list_of s)))

-- two sets meet where two lists have a number in common
meets-common : (p q : Process) → Small (gather p marks) → (s t : Sort) → in_common (sets_of p) (4 * code s) (sets_of q) (4 * code t) ≡ common (gather p (list_of s)) (gather q (list_of t))
meets-common p q h s t =
    decides-same (meets-both (sets_of p) (sets_of q) (code s) (code t) (fit_all no_numbers (gather p marks) fit_none) (4 * code s) (4 * code t) refl refl) (common-both (gather p (list_of s)) (gather q (list_of t)))
    (λ w. (w.0, sym (held p s w.0 w.1) ∙ w.2, sym (held q t w.0 w.1) ∙ w.3))
    (λ w. let l = small w.0 w.1 in (w.0, l, held p s w.0 l ∙ w.1, held q t w.0 l ∙ w.2))
  where
    small : (x : ℕ) → among x (gather p (list_of s)) ≡ true → x < 256
    small x e = let b = h (4 * x + code s) (gather-sort x s p ∙ e) in omega arith

-- In a table ------------------------------------------------------------------------------------------------------------------

module _ (rows : List ℤ) (ws : List ℕ) where
  -- a process with its sets
  abbrev Has : Process → Type 0
  Has p = Stands rows p × HasSets rows ws (row_of p)

  abbrev AllHave : Processes → Type 0
  AllHave empty = Unit {0}
  AllHave (also p ms) = Has p × AllHave ms

  pub all_have : (ms : Processes) → AllStand rows ms → ((c : ℕ) → Memᴰ c (process_rows ms) → HasSets rows ws c) → AllHave ms
  all_have empty s f = tt
  all_have (also p ms) s f = ((s.0, f (row_of p) (Memᴰ.head refl)), all_have ms s.1 (λ c m. f c (Memᴰ.tail m)))

  -- four words of the sets of two rows meet as those of their processes do
  word : (p : Process) → Has p → (a i : ℕ) → a ≡ 16 * row_of p + i → i < 16 → get_or ws a 0 ≡ get_or (sets_of p) i 0
  word p (s, h) a i e l =
      rw e (sym (get_or-take 16 (drop (16 * row_of p) ws) i 0 l ∙ get_or-drop (16 * row_of p) ws i 0))
      ∙ ap (λ (m : List ℕ). get_or m i 0) (h ∙ ap (λ (o : Option Process). with_all no_numbers (all_marks o)) s.there)

  row-meets : (p q : Process) → Has p → Has q → (a b i j : ℕ) → a ≡ 16 * row_of p + i → b ≡ 16 * row_of q + j → i + 4 ≤ 16 → j + 4 ≤ 16
      → in_common ws a ws b ≡ in_common (sets_of p) i (sets_of q) j
  unfolding in_common
  row-meets p q s t a b i j e f h g =
      meets-four (sets_of p) i (sets_of q) j
      (ap₂ share (word p s a i e (omega arith)) (word q t b j f (omega arith)))
      (ap₂ share (word p s (a + 1) (i + 1) (omega arith) (omega arith)) (word q t (b + 1) (j + 1) (omega arith) (omega arith)))
      (ap₂ share (word p s (a + 2) (i + 2) (omega arith) (omega arith)) (word q t (b + 2) (j + 2) (omega arith) (omega arith)))
      (ap₂ share (word p s (a + 3) (i + 3) (omega arith) (omega arith)) (word q t (b + 3) (j + 3) (omega arith) (omega arith)))

  -- the sets of members are within
  pub have-sets : length ws ≡ 16 * row_count rows → (ms : Processes) → AllStand rows ms → HaveSets (process_rows ms) ws
  have-sets l empty s j h = absurd (omega arith)
  have-sets l (also p ms) s zero h = omega (arith, s.0.below)
  have-sets l (also p ms) s (suc j) h = have-sets l ms s.1 j (omega arith)

  module _ (limits : (r : ℕ) → r < declarations rows → WithinLimits rows r) where
    meets : (p q : Process) → Has p → Has q → (s t : Sort) (a b : ℕ) → a ≡ 16 * row_of p + 4 * code s → b ≡ 16 * row_of q + 4 * code t
        → in_common ws a ws b ≡ common (gather p (list_of s)) (gather q (list_of t))
    meets p q f g s t a b i j =
        row-meets p q f g a b (4 * code s) (4 * code t) i j (omega (arith, code_below s)) (omega (arith, code_below t))
        ∙ meets-common p q (subst (λ (o : Option Process). Small (all_marks o)) f.0.there (process-small rows limits (row_of p))) s t

    module _ (number r : ℕ) where
      compares : (p q : Process) → Has p → Has q → meet_by ws number (row_of p) (row_of q) ≡ clashes (comparison number r (record { one = p; other = q }))
      unfolding meet_by clashes cell_clash input_clash output_clash
      compares p q f g =
          rw (
            meets p q f g changed used (16 * row_of p) (16 * row_of q + 4) (omega arith) refl,
            meets q p g f changed used (16 * row_of q) (16 * row_of p + 4) (omega arith) refl,
            meets p q f g input_from input_from (16 * row_of p + 8) (16 * row_of q + 8) refl refl,
            meets p q f g output_to output_to (16 * row_of p + 12) (16 * row_of q + 12) refl refl,
          )

      -- the tests by sets of the members of a PAR are the clashes of its pairs
      with_each : (p : Process) (ms : Processes) → Has p → AllHave ms → map (meet_by ws number (row_of p)) (process_rows ms) ≡ map clashes (map (comparison number r) (pairs_with p ms))
      with_each p empty f g = refl
      with_each p (also q ms) f g = ap₂ (λ (t : Bool) (l : List Bool). t ∷ l) (compares p q f g.0) (with_each p ms f g.1)

      pub tests-are : (ms : Processes) → AllHave ms → tests_of (meet_by ws number) (process_rows ms) ≡ map clashes (map (comparison number r) (pairs ms))
      unfolding tests_of
      tests-are empty g = refl
      tests-are (also p ms) g =
          ap₂ (λ (k l : List Bool). k ++ l) (with_each p ms g.0 g.1) (tests-are ms g.1)
          ∙ sym (map-append clashes (map (comparison number r) (pairs_with p ms)) (map (comparison number r) (pairs ms)))
          ∙ ap (map clashes) (sym (map-append (comparison number r) (pairs_with p ms) (pairs ms)))
