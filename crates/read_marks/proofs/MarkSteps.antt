-- The marks token by token: operands that go on are open, and the marks of all others are right.
use mathlib.Core.Path.{◌≡◌, refl, sym, ap, subst, ◌∙◌}
use mathlib.Core.Bool.{Bool, true, false}
use mathlib.Core.Logic.{◌⊎◌, inl, inr}
use mathlib.Core.List.{List, [], ◌∷◌}
use Prim.Native.Nat.{ℕ, suc, ◌+◌, ◌-◌, ◌<◌}
use native.Mathlib.Omega.{arith}
use native.Mathlib.Decide.{dec_lt}
use lib.Dec.{eqb}
use lib.ListN.{length, get_or, set, drop, length-set, length-drop}
use borrow.Author.Tests.{eqb-true, eqb-false}
use lib.Seq.{get_or-set_same, get_or-set_other, drop-drop}
use Rattle.meaning.specs.Basics.{if_else}
use Rattle.read_marks.specs.declared.Role.{Role}
use Rattle.read_marks.specs.Roles.{role_of, had_after, depth_after, is_between}
use Rattle.read_marks.specs.Follows.{past_token, followed_past, follows}
use Rattle.read_marks.specs.Marks.{mark_of, Marked, starts_after, marks_after}
use Rattle.read_marks.proofs.WalkLaws.{MayStand, Walks}
use Rattle.read_marks.proofs.PastSteps.{opened, past-below, lasts, opened_after, goes_on, begins, begins-none, after_none, ends_at, lasts-between}

-- an operand that is open begins with token j, which is not marked
abbrev Open : Bool → ℕ → List ℕ → List ℕ → ℕ → Type 0
Open had d starts marks j = (i : ℕ) × (i < opened had d) × (get_or starts i 0 ≡ j) × (get_or marks j 0 ≡ 0)

pub record Marking (sorts rest : List ℕ) (k d : ℕ) (had : Bool) (starts marks : List ℕ) : Type 0 where
  pub left : drop k sorts ≡ rest
  pub walks : Walks had d rest
  pub begun : (i : ℕ) → i < opened had d → (get_or starts i 0 < k) × (follows (drop (get_or starts i 0) sorts) ≡ followed_past (d - i) rest)
  pub right : (j : ℕ) → j < k → (get_or marks j 0 ≡ mark_of (follows (drop j sorts))) ⊎ Open had d starts marks j

-- one token
module _ (sorts : List ℕ) (s : ℕ) (rest : List ℕ) (k d : ℕ) (starts marks : List ℕ) (in_starts : d < length starts) (in_marks : k < length marks) where
  abbrev role : Role
  role = role_of s

  -- the tokens after it
  left_after : drop k sorts ≡ s ∷ rest → drop (suc k) sorts ≡ rest
  left_after e = let f : suc k ≡ k + 1 = omega arith in ap (λ (n : ℕ). drop n sorts) f ∙ sym (drop-drop 1 k sorts) ∙ ap (drop 1) e

  -- where an operand is wanted
  step-wanted : Marking sorts (s ∷ rest) k d false starts marks → Marking sorts rest (suc k) (depth_after role d) (had_after role) (set starts d k) (set marks k 0)
  unfolding Walks follows
  step-wanted m = record { left = left_after m.left; walks = m.walks.1; begun = begun; right = right }
    where
      may : MayStand false d role
      may = m.walks.0

      kept : (i : ℕ) → i < d → get_or (set starts d k) i 0 ≡ get_or starts i 0
      kept i h = get_or-set_other starts d i k 0 (λ e. omega (arith, e, h))

      new : get_or (set starts d k) d 0 ≡ k
      new = get_or-set_same starts d k 0 in_starts

      Goal : ℕ → Type 0
      Goal i = (get_or (set starts d k) i 0 < suc k) × (follows (drop (get_or (set starts d k) i 0) sorts) ≡ followed_past (depth_after role d - i) rest)

      first : (l : Bool) → lasts role ≡ l → (i : ℕ) → i < opened l d → Dec (i < d) → Goal i
      first l q i h (yes g) =
          let (a, b) = m.begun i g in
          subst (λ (x : ℕ). (x < suc k) × (follows (drop x sorts) ≡ followed_past (depth_after role d - i) rest)) (sym (kept i g)) (omega (arith, a), b ∙ past-below s rest d i g)
      first true q i h (no g) =
          let e : d ≡ i = omega (arith, h, g) in
          subst Goal e (subst (λ (x : ℕ). (x < suc k) × (follows (drop x sorts) ≡ followed_past (depth_after role d - d) rest)) (sym new) (omega arith, ap follows m.left ∙ begins rest d role may q))
      first false q i h (no g) = absurd (g h)

      begun : (i : ℕ) → i < opened (had_after role) (depth_after role d) → Goal i
      begun i h = first (lasts role) refl i (subst (λ (x : ℕ). i < x) (opened_after role false d may) h) (dec_lt i d)

      same-mark : (j : ℕ) → j < k → get_or (set marks k 0) j 0 ≡ get_or marks j 0
      same-mark j h = get_or-set_other marks k j 0 0 (λ e. omega (arith, e, h))

      Right : ℕ → Type 0
      Right j = (get_or (set marks k 0) j 0 ≡ mark_of (follows (drop j sorts))) ⊎ Open (had_after role) (depth_after role d) (set starts d k) (set marks k 0) j

      still : (i : ℕ) → i < d → i < opened (had_after role) (depth_after role d)
      still i h = subst (λ (x : ℕ). i < x) (sym (opened_after role false d may)) (go (lasts role))
        where
          go : (l : Bool) → i < opened l d
          go true = omega (arith, h)
          go false = h

      older : (j : ℕ) → j < k → (get_or marks j 0 ≡ mark_of (follows (drop j sorts))) ⊎ Open false d starts marks j → Right j
      older j h (inl e) = inl (same-mark j h ∙ e)
      older j h (inr (i, g, e, z)) = inr (i, still i g, kept i g ∙ e, same-mark j h ∙ z)

      own : (l : Bool) → lasts role ≡ l → Right k
      own true q = inr (d, subst (λ (x : ℕ). d < x) (sym (opened_after role false d may ∙ ap (λ (l : Bool). opened l d) q)) (omega arith), new, get_or-set_same marks k 0 0 in_marks)
      own false q = inl (get_or-set_same marks k 0 0 in_marks ∙ ap mark_of (sym (ap follows m.left ∙ begins-none rest d role may q)))

      right : (j : ℕ) → j < suc k → Right j
      right j h = go (dec_lt j k)
        where
          go : Dec (j < k) → Right j
          go (yes g) = older j g (m.right j g)
          go (no g) = let e : k ≡ j = omega (arith, h, g) in subst Right e (own (lasts role) refl)

  -- where an operand has been read
  marked : Bool → List ℕ
  marked b = if_else b (set (set marks k 0) (get_or starts d 0) 1) (set marks k 0)

  step-had : Marking sorts (s ∷ rest) k d true starts marks → Marking sorts rest (suc k) (depth_after role d) (had_after role) starts (marked (is_between role))
  unfolding Walks follows followed_past marked
  step-had m = record { left = left_after m.left; walks = m.walks.1; begun = begun; right = right }
    where
      may : MayStand true d role
      may = m.walks.0

      lately : (get_or starts d 0 < k) × (follows (drop (get_or starts d 0) sorts) ≡ followed_past (d - d) (s ∷ rest))
      lately = m.begun d (omega arith)

      -- an operator follows the operand that has been read, or none does, or it goes on
      told : follows (drop (get_or starts d 0) sorts) ≡ past_token role 0 (λ e. followed_past e rest)
      told = let e : d - d ≡ 0 = omega arith in lately.1 ∙ ap (λ (x : ℕ). followed_past x (s ∷ rest)) e

      Goal : ℕ → Type 0
      Goal i = (get_or starts i 0 < suc k) × (follows (drop (get_or starts i 0) sorts) ≡ followed_past (depth_after role d - i) rest)

      first : (l : Bool) → lasts role ≡ l → (i : ℕ) → i < opened l d → Dec (i < d) → Goal i
      first l q i h (yes g) = let (a, b) = m.begun i (omega (arith, g)) in (omega (arith, a), b ∙ past-below s rest d i g)
      first true q i h (no g) = let e : d ≡ i = omega (arith, h, g) in subst Goal e (let a = lately.0 in omega (arith, a), told ∙ goes_on rest d role may q)
      first false q i h (no g) = absurd (g h)

      begun : (i : ℕ) → i < opened (had_after role) (depth_after role d) → Goal i
      begun i h = first (lasts role) refl i (subst (λ (x : ℕ). i < x) (opened_after role true d may) h) (dec_lt i d)

      Right : List ℕ → ℕ → Type 0
      Right ms j = (get_or ms j 0 ≡ mark_of (follows (drop j sorts))) ⊎ Open (had_after role) (depth_after role d) starts ms j

      still : (i : ℕ) → i < opened (lasts role) d → i < opened (had_after role) (depth_after role d)
      still i h = subst (λ (x : ℕ). i < x) (sym (opened_after role true d may)) h

      lower : (l : Bool) (i : ℕ) → i < d → i < opened l d
      lower true i h = omega (arith, h)
      lower false i h = h

      -- the mark of another token
      cleared : (j : ℕ) → j < k → get_or (set marks k 0) j 0 ≡ get_or marks j 0
      cleared j h = get_or-set_other marks k j 0 0 (λ e. omega (arith, e, h))

      unset : (j : ℕ) → j < k → eqb j (get_or starts d 0) ≡ false → get_or (marked true) j 0 ≡ get_or marks j 0
      unset j h q = get_or-set_other (set marks k 0) (get_or starts d 0) j 1 0 (eqb-false j (get_or starts d 0) q) ∙ cleared j h

      -- the operand that has been read, if no operator follows: a bracket may have begun, or it has ended
      ended : (l : Bool) → lasts role ≡ l → is_between role ≡ false → get_or marks (get_or starts d 0) 0 ≡ 0 → Right (marked false) (get_or starts d 0)
      ended true q c z = inr (d, still d (subst (λ (l : Bool). d < opened l d) (sym q) (omega arith)), refl, cleared (get_or starts d 0) lately.0 ∙ z)
      ended false q c z = inl (cleared (get_or starts d 0) lately.0 ∙ z ∙ ap mark_of (sym (told ∙ ends_at rest d role may q ∙ c)))

      older : (b : Bool) → is_between role ≡ b → (j : ℕ) → j < k → (f : Bool) → eqb j (get_or starts d 0) ≡ f → (get_or marks j 0 ≡ mark_of (follows (drop j sorts))) ⊎ Open true d starts marks j → Right (marked b) j
      older true c j h true q o =
          let a = lately.0 in
          inl (subst (λ (x : ℕ). get_or (marked true) x 0 ≡ mark_of (follows (drop x sorts))) (sym (eqb-true j (get_or starts d 0) q))
          (get_or-set_same (set marks k 0) (get_or starts d 0) 1 0 (omega (arith, a, in_marks, length-set marks k 0)) ∙ ap mark_of (sym (told ∙ ends_at rest d role may (lasts-between role c) ∙ c))))
      older true c j h false q (inl e) = inl (unset j h q ∙ e)
      older true c j h false q (inr (i, g, e, z)) = go (dec_lt i d)
        where
          go : Dec (i < d) → Right (marked true) j
          go (yes l) = inr (i, still i (lower (lasts role) i l), e, unset j h q ∙ z)
          go (no l) = let f : i ≡ d = omega (arith, g, l) in absurd (eqb-false j (get_or starts d 0) q (sym e ∙ ap (λ (x : ℕ). get_or starts x 0) f))
      older false c j h f q (inl e) = inl (cleared j h ∙ e)
      older false c j h f q (inr (i, g, e, z)) = go (dec_lt i d)
        where
          go : Dec (i < d) → Right (marked false) j
          go (yes l) = inr (i, still i (lower (lasts role) i l), e, cleared j h ∙ z)
          go (no l) =
              let f : d ≡ i = omega (arith, g, l) in
              let p : get_or starts d 0 ≡ j = ap (λ (x : ℕ). get_or starts x 0) f ∙ e in
              subst (Right (marked false)) p (ended (lasts role) refl c (ap (λ (x : ℕ). get_or marks x 0) p ∙ z))

      zeroed : get_or (set marks k 0) k 0 ≡ 0
      zeroed = get_or-set_same marks k 0 0 in_marks

      own : (b : Bool) → get_or (marked b) k 0 ≡ 0
      own true = let a = lately.0 in get_or-set_other (set marks k 0) (get_or starts d 0) k 1 0 (λ e. omega (arith, e, a)) ∙ zeroed
      own false = zeroed

      right : (j : ℕ) → j < suc k → Right (marked (is_between role)) j
      right j h = go (dec_lt j k)
        where
          go : Dec (j < k) → Right (marked (is_between role)) j
          go (yes g) = older (is_between role) refl j g (eqb j (get_or starts d 0)) refl (m.right j g)
          go (no g) = let e : k ≡ j = omega (arith, h, g) in subst (Right (marked (is_between role))) e (inl (own (is_between role) ∙ ap mark_of (sym (ap follows m.left ∙ after_none rest d role may))))

-- the first token
pub marks_begin : (sorts : List ℕ) (starts marks : List ℕ) → Walks false 0 sorts → Marking sorts sorts 0 0 false starts marks
marks_begin sorts starts marks w = record { left = refl; walks = w; begun = λ i h. absurd (omega (arith, h)); right = λ j h. absurd (omega (arith, h)) }

-- a token
pub marks-step : (had : Bool) (sorts : List ℕ) (s : ℕ) (rest : List ℕ) (k d : ℕ) (starts marks : List ℕ) → d < length starts → k < length marks
    → Marking sorts (s ∷ rest) k d had starts marks
    → Marking sorts rest (suc k) (depth_after (role_of s) d) (had_after (role_of s)) (starts_after had k d starts) (marks_after had (role_of s) k d starts marks)
unfolding starts_after marks_after marked
marks-step false sorts s rest k d starts marks h g m = step-wanted sorts s rest k d starts marks h g m
marks-step true sorts s rest k d starts marks h g m = step-had sorts s rest k d starts marks h g m

-- no token is left
pub marks-end : (sorts : List ℕ) (k d : ℕ) (had : Bool) (starts marks : List ℕ) → Marking sorts [] k d had starts marks → Marked sorts marks
unfolding followed_past
marks-end sorts k d had starts marks m j h = go (m.right j (let l = length-drop k sorts in let e : length (drop k sorts) ≡ 0 = ap length m.left in omega (arith, l, e, h)))
  where
    go : (get_or marks j 0 ≡ mark_of (follows (drop j sorts))) ⊎ Open had d starts marks j → get_or marks j 0 ≡ mark_of (follows (drop j sorts))
    go (inl e) = e
    go (inr (i, g, e, z)) = z ∙ ap mark_of (sym (ap (λ (x : ℕ). follows (drop x sorts)) (sym e) ∙ (m.begun i g).1))

-- the lengths stay
pub starts-length : (had : Bool) (k d : ℕ) (starts : List ℕ) → length (starts_after had k d starts) ≡ length starts
unfolding starts_after
starts-length false k d starts = length-set starts d k
starts-length true k d starts = refl

pub marks-length : (had : Bool) (r : Role) (k d : ℕ) (starts marks : List ℕ) → length (marks_after had r k d starts marks) ≡ length marks
unfolding marks_after
marks-length false r k d starts marks = length-set marks k 0
marks-length true r k d starts marks = go (is_between r)
  where
    go : (b : Bool) → length (if_else b (set (set marks k 0) (get_or starts d 0) 1) (set marks k 0)) ≡ length marks
    go true = length-set (set marks k 0) (get_or starts d 0) 1 ∙ length-set marks k 0
    go false = length-set marks k 0
