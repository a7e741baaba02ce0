-- Parts of listed tokens, and the first mark among them.
use mathlib.Core.Path.{◌≡◌, refl, sym, ap, subst, ◌∙◌}
use mathlib.Core.List.{List, [], ◌∷◌, map}
use Prim.Native.Nat.{ℕ, zero, suc, ◌+◌, ◌-◌, ◌<◌}
use native.Mathlib.Omega.{arith}
use lib.IntN.{ℤ}
use lib.ListN.{length, get_or, take, drop, length-drop}
use lib.Seq.{length-take-le, take_all}
use Rattle.read_tokens.specs.Held.{name_of_row, tokens_resolved}
use Rattle.read_tokens.proofs.HeldLaws.{parts-listed, tokens-length}
use Rattle.read_classes.specs.Parts.{mark_at, sort_of, part_at_mark, parted_there}
use Rattle.read_expressions.specs.Expressions.{Scratch}
use Rattle.read_parts.specs.PartForms.{SortsHeld}
use Rattle.read_classes.proofs.PartLaws.{parted-at}

-- what a list has after a place
abbrev pub behind : {A : Type 0} → List A → ℕ → List A
behind xs m = take (length xs - (m + 1)) (drop (m + 1) xs)

pub behind-all : {A : Type 0} (xs : List A) (m : ℕ) → behind xs m ≡ drop (suc m) xs
behind-all xs m =
    let e : m + 1 ≡ suc m = omega arith in
    take_all (length xs - (m + 1)) (drop (m + 1) xs) (omega (arith, length-drop (m + 1) xs)) ∙ ap (λ (k : ℕ). drop k xs) e

map-drop : {A B : Type 0} (f : A → B) (m : ℕ) (xs : List A) → map f (drop m xs) ≡ drop m (map f xs)
map-drop f zero xs = refl
map-drop f (suc m) [] = refl
map-drop f (suc m) (x ∷ xs) = map-drop f m xs

module _ (ss : List ℕ) (vs : List ℤ) (l : length ss ≡ length vs) (m : ℕ) where
  -- the tokens before a place
  pub tokens-before : tokens_resolved (take m ss) (take m vs) ≡ take m (tokens_resolved ss vs)
  tokens-before =
      let e : m - 0 ≡ m = omega arith in
      subst (λ (k : ℕ). tokens_resolved (take k ss) (take k vs) ≡ take k (tokens_resolved ss vs)) e (parts-listed name_of_row ss vs 0 m l)

  -- and after it
  pub tokens-after : tokens_resolved (behind ss m) (behind vs m) ≡ drop (suc m) (tokens_resolved ss vs)
  tokens-after =
      let e = tokens-length name_of_row ss vs l in
      ap (λ (k : ℕ). tokens_resolved (behind ss m) (take (k - (m + 1)) (drop (m + 1) vs))) (sym l)
      ∙ parts-listed name_of_row ss vs (m + 1) (length ss) l
      ∙ ap (λ (k : ℕ). take (k - (m + 1)) (drop (m + 1) (tokens_resolved ss vs))) (sym e)
      ∙ behind-all (tokens_resolved ss vs) m

  -- the sorts after a place are those of the tokens there
  pub sorts-after : SortsHeld ss vs → SortsHeld (behind ss m) (behind vs m)
  sorts-after h = behind-all ss m ∙ ap (drop (suc m)) h ∙ sym (map-drop sort_of (suc m) (tokens_resolved ss vs)) ∙ ap (map sort_of) (sym tokens-after)

  module _ (marks stack : List ℕ) (h : m < length ss) (w : Scratch ss vs marks stack) where
    -- the parts need no more room than the whole
    pub scratch-before : Scratch (take m ss) (take m vs) marks stack
    scratch-before =
        let a = length-take-le m ss (omega (arith, h)) in
        let b = length-take-le m vs (omega (arith, h, l)) in
        let (i, j, k, o) = w in
        (omega (arith, a, b), omega (arith, a, h, j), omega (arith, a, h, k), omega (arith, a, h, o))

    pub scratch_after : Scratch (behind ss m) (behind vs m) marks stack
    scratch_after =
        let a = ap length (behind-all ss m) ∙ length-drop (suc m) ss in
        let b = ap length (behind-all vs m) ∙ length-drop (suc m) vs in
        let (i, j, k, o) = w in
        (omega (arith, a, b, l), omega (arith, a, j), omega (arith, a, k), omega (arith, a, o))

-- the tokens parted at the mark that is found
pub found : (ss : List ℕ) (vs : List ℤ) (m : ℕ) → SortsHeld ss vs → m ≡ mark_at ss → part_at_mark (tokens_resolved ss vs) ≡ parted_there (tokens_resolved ss vs) m
found ss vs m h e =
    parted-at (tokens_resolved ss vs) ∙ ap (parted_there (tokens_resolved ss vs)) (sym (e ∙ ap mark_at h))

pub found-sort : (ss : List ℕ) (vs : List ℤ) (m s : ℕ) → SortsHeld ss vs → s ≡ get_or ss m 0 → (parted_there (tokens_resolved ss vs) m).sort ≡ s
found-sort ss vs m s h e = sym (e ∙ ap (λ (l : List ℕ). get_or l m 0) h)

-- a mark that is one stands within
pub within : (xs : List ℕ) (m : ℕ) → (get_or xs m 0 ≡ 0 → ⊥) → m < length xs
within [] m h = absurd (h refl)
within (x ∷ xs) zero h = omega arith
within (x ∷ xs) (suc m) h = let i = within xs m h in omega (arith, i)
