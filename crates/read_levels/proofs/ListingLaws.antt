-- Lines that are listed: each line by its place, its kind and level, and where its tokens stand.
use mathlib.Core.Path.{◌≡◌, refl, sym, ap, ap₂, ◌∙◌}
use mathlib.Core.List.{List, [], ◌∷◌, map}
use mathlib.Core.Option.{Option, none, some}
use Prim.Native.Nat.{ℕ, zero, suc, ◌-◌, ◌/◌, ◌%◌, ◌*◌, ◌+◌, ◌≤◌, ◌<◌}
use native.Mathlib.Omega.{arith}
use lib.IntN.{ℤ}
use lib.ListN.{length, get_or, take, drop, length-drop, length-map, drop_of_length-le}
use lib.Seq.{length-take-le, take-take, take-nil, get_or-take}
use Rattle.grammar.specs.Grammar.{Token}
use Rattle.grammar.specs.Outline.{OutlineLine, Lined, lined, Expect, nothing, Levels, accept_line, outset}
use Rattle.grammar.specs.Classes.{Class, class_of}
use Rattle.read_tokens.specs.Held.{token_sort, part, tokens_by}
use Rattle.read_classes.specs.ClassNumbers.{number_of}
use Rattle.read_levels.specs.Kinds.{expect_number, kind_number, expect_first, expectations, kinds_from, kinds_of}
use Rattle.read_levels.specs.Listing.{Listing, start_of, sorts_on, values_on, LineListed, LinesListed, level_on, LevelsListed}
use Rattle.read_levels.proofs.TableTells.{class-below}

-- Lists -------------------------------------------------------------------------------------------------------------------------------

module _ {A : Type 0} where
  -- the last of the first are the first of the last
  pub drop-take : (k m : ℕ) (s : List A) → drop k (take m s) ≡ take (m - k) (drop k s)
  drop-take zero m s = let e : m ≡ m - 0 = omega arith in ap (λ (n : ℕ). take n s) e
  drop-take (suc k) zero s = let e : 0 ≡ 0 - suc k = omega arith in ap (λ (n : ℕ). take n (drop (suc k) s)) e
  drop-take (suc k) (suc m) [] = sym (take-nil (suc m - suc k))
  drop-take (suc k) (suc m) (b ∷ s) = let e : m - k ≡ suc m - suc k = omega arith in drop-take k m s ∙ ap (λ (n : ℕ). take n (drop k s)) e

  -- a part is among the first, as far as it goes
  part-first : (s : List A) (a b n : ℕ) → b ≤ n → part s a b ≡ take (b - a) (drop a (take n s))
  part-first s a b n h = sym (ap (take (b - a)) (drop-take a n s) ∙ take-take (b - a) (n - a) (drop a s) (omega arith))

  -- it is kept where they are
  pub part-kept : (s t : List A) (a b n : ℕ) → b ≤ n → take n t ≡ take n s → part t a b ≡ part s a b
  part-kept s t a b n h e = part-first t a b n h ∙ ap (λ (u : List A). take (b - a) (drop a u)) e ∙ sym (part-first s a b n h)

-- the others after a line
pub rest-after : (ls : List Lined) (j : ℕ) (y : Lined) (rest : List Lined) → drop j ls ≡ y ∷ rest → drop (suc j) ls ≡ rest
rest-after [] zero y rest e = absurd (let z : ◌≡◌ {A = ℕ} 0 (suc (length rest)) = ap length e in omega arith)
rest-after [] (suc j) y rest e = absurd (let z : ◌≡◌ {A = ℕ} 0 (suc (length rest)) = ap length e in omega arith)
rest-after (z ∷ ls) zero y rest e = cc
rest-after (z ∷ ls) (suc j) y rest e = rest-after ls j y rest e

-- a line's place is before their end
among : (ls : List Lined) (j : ℕ) (y : Lined) (rest : List Lined) → drop j ls ≡ y ∷ rest → j < length ls
among ls j y rest e = let l = length-drop j ls in let n : length (drop j ls) ≡ suc (length rest) = ap length e in omega arith

-- Where tokens begin and end ------------------------------------------------------------------------------------------------------------

pub starts : (ends : List ℕ) (j : ℕ) → start_of ends (suc j) ≡ get_or ends j 0
unfolding start_of
starts ends j = refl

pub starts_first : (ends : List ℕ) → start_of ends 0 ≡ 0
unfolding start_of
starts_first ends = refl

module _ {named : ℕ → Option Token} {f : Token → Token} {x : OutlineLine} {j : ℕ} {ends sorts : List ℕ} {values : List ℤ} (t : LineListed named f x j ends sorts values) where
  -- so many tokens
  pub tokens-counted : length t.tokens ≡ get_or ends j 0 - start_of ends j
  tokens-counted =
      let m = length-map t.tokens token_sort in
      let s : length (sorts_on ends sorts j) ≡ length (map token_sort t.tokens) = ap length t.sorts-held in
      let d = length-drop (start_of ends j) sorts in
      let w = t.within in
      let u = length-take-le (get_or ends j 0 - start_of ends j) (drop (start_of ends j) sorts) (omega arith) in
      omega (arith, m, s, u)

  -- a line is listed as before where its ends and what is before them are kept
  pub line_kept : (ends' sorts' : List ℕ) (values' : List ℤ) → start_of ends' j ≡ start_of ends j → get_or ends' j 0 ≡ get_or ends j 0
      → (n : ℕ) → get_or ends j 0 ≤ n → take n sorts' ≡ take n sorts → take n values' ≡ take n values → length sorts' ≡ length sorts
      → LineListed named f x j ends' sorts' values'
  line_kept ends' sorts' values' a b n h s v l =
      let p : sorts_on ends' sorts' j ≡ sorts_on ends sorts j = ap₂ (λ (a b : ℕ). part sorts' a b) a b ∙ part-kept sorts sorts' (start_of ends j) (get_or ends j 0) n h s in
      let q : values_on ends' values' j ≡ values_on ends values j = ap₂ (λ (a b : ℕ). part values' a b) a b ∙ part-kept values values' (start_of ends j) (get_or ends j 0) n h v in
      let i = t.begins in
      let w = t.within in
      record {
        tokens = t.tokens;
        spelt = t.spelt;
        sorts-held = p ∙ t.sorts-held;
        values-held = ap₂ (tokens_by named) p q ∙ t.values-held;
        begins = omega (arith, a, b, i);
        within = omega (arith, b, l, w);
      }

-- Kinds -------------------------------------------------------------------------------------------------------------------------------

-- a kind tells what is expected and the class
pub kind-split : (e : Expect) (c : Class) → (kind_number e c / 16 ≡ expect_number e) × (kind_number e c % 16 ≡ number_of c)
kind-split e c = go (expect_number e) (number_of c) (class-below c)
  where
    go : (a b : ℕ) → b < 11 → ((16 * a + b) / 16 ≡ a) × ((16 * a + b) % 16 ≡ b)
    go a b h = (omega arith, omega arith)

-- no more is expected than there are lines
expects-few : (o : Option Levels) (ls : List Lined) → length (expectations o ls) ≤ length ls
unfolding expectations
expects-few o [] = omega arith
expects-few o (y ∷ ls) = go o y (expectations (accept_line o y) ls) (expects-few (accept_line o y) ls)
  where
    go : (o : Option Levels) (y : Lined) (es : List Expect) → length es ≤ length ls → length (expect_first o y es) ≤ suc (length ls)
    go none y es h = omega arith
    go (some k) (lined l x) es h = omega arith

-- no more kinds than is expected
kinds-few : (es : List Expect) (ls : List Lined) → length (kinds_from es ls) ≤ length es
unfolding kinds_from
kinds-few [] ls = omega arith
kinds-few (e ∷ es) [] = omega arith
kinds-few (e ∷ es) (lined l x ∷ ls) = let h = kinds-few es ls in omega arith

kind-among : (j : ℕ) (es : List Expect) (ls : List Lined) → length es ≡ length ls → (l : ℕ) (x : OutlineLine) (rest : List Lined) → drop j ls ≡ lined l x ∷ rest
    → get_or (kinds_from es ls) j 0 ≡ kind_number (get_or es j nothing) (class_of x)
unfolding kinds_from
kind-among zero [] [] n l x rest e = absurd (let z : ◌≡◌ {A = ℕ} 0 (suc (length rest)) = ap length e in omega arith)
kind-among (suc j) [] [] n l x rest e = absurd (let z : ◌≡◌ {A = ℕ} 0 (suc (length rest)) = ap length e in omega arith)
kind-among j [] (y ∷ ls) n l x rest e = absurd (omega arith)
kind-among j (e ∷ es) [] n l x rest d = absurd (omega arith)
kind-among zero (e ∷ es) (lined m y ∷ ls) n l x rest d = let s : y ≡ x = cc in ap (λ (z : OutlineLine). kind_number e (class_of z)) s
kind-among (suc j) (e ∷ es) (lined m y ∷ ls) n l x rest d = kind-among j es ls (omega arith) l x rest d

kinds-dropped : (j : ℕ) (es : List Expect) (ls : List Lined) → length es ≡ length ls → drop j (kinds_from es ls) ≡ kinds_from (drop j es) (drop j ls)
unfolding kinds_from
kinds-dropped zero es ls n = refl
kinds-dropped (suc j) [] ls n = refl
kinds-dropped (suc j) (e ∷ es) [] n = absurd (omega arith)
kinds-dropped (suc j) (e ∷ es) (lined l x ∷ ls) n = kinds-dropped j es ls (omega arith)

-- Levels ------------------------------------------------------------------------------------------------------------------------------

level-among : (j : ℕ) (ls : List Lined) (l : ℕ) (x : OutlineLine) (rest : List Lined) → drop j ls ≡ lined l x ∷ rest → get_or (map level_on ls) j 0 ≡ l
level-among zero [] l x rest e = absurd (let z : ◌≡◌ {A = ℕ} 0 (suc (length rest)) = ap length e in omega arith)
level-among (suc j) [] l x rest e = absurd (let z : ◌≡◌ {A = ℕ} 0 (suc (length rest)) = ap length e in omega arith)
level-among zero (lined m y ∷ ls) l x rest e = cc
level-among (suc j) (lined m y ∷ ls) l x rest e = level-among j ls l x rest e

pub level-at : {ls : List Lined} {count : ℕ} {levels : List ℕ} → LevelsListed ls count levels → count ≡ length ls
    → (j l : ℕ) (x : OutlineLine) (rest : List Lined) → drop j ls ≡ lined l x ∷ rest → get_or levels j 0 ≡ l
level-at {ls} {count} {levels} h n j l x rest e =
    let i = among ls j (lined l x) rest e in
    sym (get_or-take count levels j 0 (omega arith)) ∙ ap (λ (ks : List ℕ). get_or ks j 0) h.held ∙ level-among j ls l x rest e

-- Listed lines ------------------------------------------------------------------------------------------------------------------------

module _ {named : ℕ → Option Token} {f : Token → Token} {ls : List Lined} {count : ℕ} {g : Listing} (h : LinesListed named f ls count g) where
  -- the line at a place, and no line after the last
  pub line-there : (j : ℕ) → j < count → (l : ℕ) × (x : OutlineLine) × (rest : List Lined) × (drop j ls ≡ lined l x ∷ rest)
  line-there j i = go (drop j ls) refl
    where
      go : (ms : List Lined) → drop j ls ≡ ms → (l : ℕ) × (x : OutlineLine) × (rest : List Lined) × (drop j ls ≡ lined l x ∷ rest)
      go [] e = absurd (let d = length-drop j ls in let z : length (drop j ls) ≡ 0 = ap length e in let n = h.counted in omega arith)
      go (lined l x ∷ rest) e = (l, x, rest, e)

  pub line_before : (j l : ℕ) (x : OutlineLine) (rest : List Lined) → drop j ls ≡ lined l x ∷ rest → j < count
  line_before j l x rest e = let i = among ls j (lined l x) rest e in let n = h.counted in omega arith

  pub no-line-left : drop count ls ≡ []
  no-line-left = let n = h.counted in let i : length ls ≤ count = omega arith in drop_of_length-le ls i

  -- something is expected where each line stands
  pub expects-counted : length (expectations outset ls) ≡ length ls
  unfolding kinds_of
  expects-counted =
      let a = expects-few outset ls in
      let b = kinds-few (expectations outset ls) ls in
      let c : length (take count g.kinds) ≡ length (kinds_from (expectations outset ls) ls) = ap length h.kinds-held in
      let d = length-take-le count g.kinds h.kinds-long in
      let n = h.counted in
      omega (arith, a, b, c, d, n)

  -- the kind of a line
  pub kind_at : (j l : ℕ) (x : OutlineLine) (rest : List Lined) → drop j ls ≡ lined l x ∷ rest → get_or g.kinds j 0 ≡ kind_number (get_or (expectations outset ls) j nothing) (class_of x)
  unfolding kinds_of
  kind_at j l x rest e =
      sym (get_or-take count g.kinds j 0 (line_before j l x rest e))
      ∙ ap (λ (ks : List ℕ). get_or ks j 0) h.kinds-held
      ∙ kind-among j (expectations outset ls) ls expects-counted l x rest e

  -- its class, and what is expected where it stands
  pub class-at : (j l : ℕ) (x : OutlineLine) (rest : List Lined) → drop j ls ≡ lined l x ∷ rest → get_or g.kinds j 0 % 16 ≡ number_of (class_of x)
  class-at j l x rest e = ap (λ (k : ℕ). k % 16) (kind_at j l x rest e) ∙ (kind-split (get_or (expectations outset ls) j nothing) (class_of x)).1

  -- where its tokens stand
  pub span-at : (j : ℕ) → j < count → (start_of g.ends j ≤ get_or g.ends j 0) × (get_or g.ends j 0 ≤ length g.sorts)
  span-at j i = let (l, x, rest, e) = line-there j i in let t = h.line j l x rest e in (t.begins, t.within)

  pub start-within : (j : ℕ) → j ≤ count → start_of g.ends j ≤ length g.sorts
  unfolding start_of
  start-within zero i = omega arith
  start-within (suc j) i = (span-at j (omega arith)).1
