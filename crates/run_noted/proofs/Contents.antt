-- What is done to the lists of given notes, receivers, senders and bits: a change at one place.
use mathlib.Core.Path.{◌≡◌, refl, sym, ap, ap₂, ◌∙◌}
use mathlib.Core.Logic.{◌≢◌}
use mathlib.Core.Bool.{Bool, true, false}
use mathlib.Core.List.{List, [], ◌∷◌}
use Prim.Native.Nat.{ℕ, zero, suc, ◌+◌, ◌*◌, ◌%◌, ◌<◌, ◌≤◌}
use native.Mathlib.Omega.{arith}
use lib.IntN.{ℤ}
use lib.ListN.{get_or, set}
use lib.Dec.{eqb}
use Rattle.meaning.specs.Basics.{if_else}
use Rattle.run_ready_bits.specs.Bits.{raised, bits_of}
use Rattle.run_ready_bits.proofs.Contents.{raise-bits, lower-bits}
use Rattle.run_notes.specs.declared.Note.{Note}
use Rattle.run_notes.specs.Notes.{lists_of, note, acts_stored, stored, what_of, where_of, receiver_at, sender_at, receiving, sending, raising, lowering}
use Rattle.run_noted.specs.Noted.{listed, act_numbers, lists_for}
use Rattle.run_noted.proofs.Blocks.{one, two, three, same_row, other_row, listed_same, listed_at, listed-put}

-- one value changed
abbrev pub put : {A : Type 0} → (ℕ → A) → ℕ → A → ℕ → A
put f r a j = if_else (eqb r j) a (f j)

pub put-at : {A : Type 0} (f : ℕ → A) (r : ℕ) (a : A) → put f r a r ≡ a
put-at f r a = ap (λ (t : Bool). if_else t a (f r)) (same_row r)

pub put_other : {A : Type 0} (f : ℕ → A) (r : ℕ) (a : A) (j : ℕ) → r ≢ j → put f r a j ≡ f j
put_other f r a j h = ap (λ (t : Bool). if_else t a (f j)) (other_row r j h)

bits-same : (b c : ℕ → Bool) (n : ℕ) → ((j : ℕ) → j < n → b j ≡ c j) → bits_of b n ≡ bits_of c n
unfolding bits_of
bits-same b c zero h = refl
bits-same b c (suc n) h = ap₂ (λ (t : Bool) (ws : List ℕ). if_else t (raised ws n) ws) (h n (omega arith)) (bits-same b c n (λ j l. h j (omega arith)))

-- lists of the same things
pub lists-same : (n : ℕ) {f f' : ℕ → Note} {g g' h h' : ℕ → ℕ} {b b' : ℕ → Bool} → ((j : ℕ) → f j ≡ f' j) → ((e : ℕ) → g e ≡ g' e) → ((e : ℕ) → h e ≡ h' e) → ((j : ℕ) → j < n → b j ≡ b' j)
    → lists_for n f g h b ≡ lists_for n f' g' h' b'
unfolding lists_for
lists-same n {f = f} {f' = f'} {g = g} {g' = g'} {h = h} {h' = h'} {b = b} {b' = b'} p q r s =
    ap₂ (λ (a : List ℕ) (t : List ℤ). lists_of a t (listed (λ e. g e ∷ h e ∷ []) 256) (bits_of b n))
    (listed_same (λ j. act_numbers (f j)) (λ j. act_numbers (f' j)) 1024 (λ j l. ap act_numbers (p j)))
    (listed_same (λ j. (f j).number ∷ []) (λ j. (f' j).number ∷ []) 1024 (λ j l. ap (λ (k : Note). k.number ∷ []) (p j)))
    ∙ ap₂ (λ (c d : List ℕ). lists_of (listed (λ j. act_numbers (f' j)) 1024) (listed (λ j. (f' j).number ∷ []) 1024) c d)
    (listed_same (λ e. g e ∷ h e ∷ []) (λ e. g' e ∷ h' e ∷ []) 256 (λ e l. ap₂ (λ (x y : ℕ). x ∷ y ∷ []) (q e) (r e)))
    (bits-same b b' n s)

-- one number of a note is stored
act-put : (c : Note → Note) (i v : ℕ) → i < 3 → ((x : Note) → set (act_numbers x) i v ≡ act_numbers (c x)) → (f : ℕ → Note) (j : ℕ) → j < 1024
    → set (listed (λ q. act_numbers (f q)) 1024) (3 * j + i) v ≡ listed (λ q. act_numbers (if_else (eqb j q) (c (f q)) (f q))) 1024
act-put c i v m h f j l =
    listed-put 3 three (λ q. act_numbers (f q)) (λ q. refl) j i m 1024 v l
    ∙ listed_same (λ q. if_else (eqb j q) (set (act_numbers (f q)) i v) (act_numbers (f q))) (λ q. act_numbers (if_else (eqb j q) (c (f q)) (f q))) 1024 (λ q o. go (eqb j q) (f q))
  where
    go : (t : Bool) (x : Note) → if_else t (set (act_numbers x) i v) (act_numbers x) ≡ act_numbers (if_else t (c x) x)
    go true x = h x
    go false x = refl

acts-put : (f : ℕ → Note) (j : ℕ) → j < 1024 → (k : Note)
    → acts_stored (listed (λ q. act_numbers (f q)) 1024) j k ≡ listed (λ q. act_numbers (put f j k q)) 1024
acts-put f j l k =
    ap (λ (p : ℕ). set (set (set (listed (λ q. act_numbers (f q)) 1024) p k.what) (3 * j + 1) k.at) (3 * j + 2) k.third) e
    ∙ ap (λ (m : List ℕ). set (set m (3 * j + 1) k.at) (3 * j + 2) k.third) (act-put c₀ 0 k.what (omega arith) (λ x. refl) f j l)
    ∙ ap (λ (m : List ℕ). set m (3 * j + 2) k.third) (act-put c₁ 1 k.at (omega arith) (λ x. refl) f₁ j l)
    ∙ act-put c₂ 2 k.third (omega arith) (λ x. refl) f₂ j l
    ∙ listed_same (λ q. act_numbers (if_else (eqb j q) (c₂ (f₂ q)) (f₂ q))) (λ q. act_numbers (put f j k q)) 1024 (λ q o. go (eqb j q) (f q))
  where
    e : 3 * j ≡ 3 * j + 0
    e = omega arith

    c₀ : Note → Note
    c₀ x = note k.what x.at x.third x.number

    c₁ : Note → Note
    c₁ x = note x.what k.at x.third x.number

    c₂ : Note → Note
    c₂ x = note x.what x.at k.third x.number

    f₁ : ℕ → Note
    f₁ q = if_else (eqb j q) (c₀ (f q)) (f q)

    f₂ : ℕ → Note
    f₂ q = if_else (eqb j q) (c₁ (f₁ q)) (f₁ q)

    go : (t : Bool) (x : Note) → act_numbers (if_else t (c₂ (if_else t (c₁ (if_else t (c₀ x) x)) (if_else t (c₀ x) x))) (if_else t (c₁ (if_else t (c₀ x) x)) (if_else t (c₀ x) x)))
        ≡ act_numbers (if_else t k x)
    go true x = refl
    go false x = refl

module _ (n : ℕ) (f : ℕ → Note) (g h : ℕ → ℕ) (b : ℕ → Bool) where
  -- what stands at a row
  module _ (j : ℕ) (l : j < 1024) where
    pub what-for : what_of (lists_for n f g h b) j ≡ (f j).what
    unfolding lists_for
    what-for =
        let e : 3 * j ≡ 3 * j + 0 = omega arith in
        ap (λ (p : ℕ). get_or (listed (λ j. act_numbers (f j)) 1024) p 0) e ∙ listed_at 3 three (λ j. act_numbers (f j)) (λ j. refl) j 0 (omega arith) 1024 0 l

    pub where-for : where_of (lists_for n f g h b) j ≡ (f j).at
    unfolding lists_for
    where-for = listed_at 3 three (λ j. act_numbers (f j)) (λ j. refl) j 1 (omega arith) 1024 0 l

    pub stored-for : (k : Note) → stored j k (lists_for n f g h b) ≡ lists_for n (put f j k) g h b
    unfolding lists_for
    stored-for k =
        ap₂ (λ (a : List ℕ) (t : List ℤ). lists_of a t (listed (λ e. g e ∷ h e ∷ []) 256) (bits_of b n)) (acts-put f j l k)
        (ap (λ (p : ℕ). set (listed (λ j. (f j).number ∷ []) 1024) p k.number) e₁
        ∙ listed-put 1 one (λ j. (f j).number ∷ []) (λ j. refl) j 0 (omega arith) 1024 k.number l
        ∙ listed_same (λ i. if_else (eqb j i) (set ((f i).number ∷ []) 0 k.number) ((f i).number ∷ [])) (λ i. (put f j k i).number ∷ []) 1024 (λ i m. single (eqb j i) (f i)))
      where
        e₁ : j ≡ 1 * j + 0
        e₁ = omega arith

        single : (t : Bool) (x : Note) → if_else t (set (x.number ∷ []) 0 k.number) (x.number ∷ []) ≡ (if_else t k x).number ∷ []
        single true x = refl
        single false x = refl

    -- a row's bit
    module _ (m : j < n) (few : n ≤ 1024) where
      pub raising-for : raising j (lists_for n f g h b) ≡ lists_for n f g h (put b j true)
      unfolding lists_for
      raising-for =
          ap (λ (c : List ℕ). lists_of (listed (λ j. act_numbers (f j)) 1024) (listed (λ j. (f j).number ∷ []) 1024) (listed (λ e. g e ∷ h e ∷ []) 256) c)
          (raise-bits b (put b j true) n j m few (λ i o z. put_other b j true i (λ y. z (sym y))) (put-at b j true))

      pub lowering-for : lowering j (lists_for n f g h b) ≡ lists_for n f g h (put b j false)
      unfolding lists_for
      lowering-for =
          ap (λ (c : List ℕ). lists_of (listed (λ j. act_numbers (f j)) 1024) (listed (λ j. (f j).number ∷ []) 1024) (listed (λ e. g e ∷ h e ∷ []) 256) c)
          (lower-bits b (put b j false) n j m few (λ i o z. put_other b j false i (λ y. z (sym y))) (put-at b j false))

  -- who waits at an element
  module _ (e : ℕ) (l : e < 256) where
    small : e % 256 ≡ e
    small = omega arith

    pub receiver-for : receiver_at (lists_for n f g h b) e ≡ g e
    unfolding lists_for
    receiver-for =
        let i : 2 * (e % 256) ≡ 2 * e + 0 = omega (arith, small) in
        ap (λ (p : ℕ). get_or (listed (λ e. g e ∷ h e ∷ []) 256) p 0) i ∙ listed_at 2 two (λ e. g e ∷ h e ∷ []) (λ e. refl) e 0 (omega arith) 256 0 l

    pub sender-for : sender_at (lists_for n f g h b) e ≡ h e
    unfolding lists_for
    sender-for =
        let i : 2 * (e % 256) + 1 ≡ 2 * e + 1 = omega (arith, small) in
        ap (λ (p : ℕ). get_or (listed (λ e. g e ∷ h e ∷ []) 256) p 0) i ∙ listed_at 2 two (λ e. g e ∷ h e ∷ []) (λ e. refl) e 1 (omega arith) 256 0 l

    pub receiving-for : (v : ℕ) → receiving e v (lists_for n f g h b) ≡ lists_for n f (put g e v) h b
    unfolding lists_for
    receiving-for v =
        let i : 2 * (e % 256) ≡ 2 * e + 0 = omega (arith, small) in
        ap (λ (c : List ℕ). lists_of (listed (λ j. act_numbers (f j)) 1024) (listed (λ j. (f j).number ∷ []) 1024) c (bits_of b n))
        (ap (λ (p : ℕ). set (listed (λ e. g e ∷ h e ∷ []) 256) p v) i
        ∙ listed-put 2 two (λ e. g e ∷ h e ∷ []) (λ e. refl) e 0 (omega arith) 256 v l
        ∙ listed_same (λ d. if_else (eqb e d) (set (g d ∷ h d ∷ []) 0 v) (g d ∷ h d ∷ [])) (λ d. put g e v d ∷ h d ∷ []) 256 (λ d m. go (eqb e d) (g d) (h d)))
      where
        go : (t : Bool) (x y : ℕ) → if_else t (set (x ∷ y ∷ []) 0 v) (x ∷ y ∷ []) ≡ if_else t v x ∷ y ∷ []
        go true x y = refl
        go false x y = refl

    pub sending-for : (v : ℕ) → sending e v (lists_for n f g h b) ≡ lists_for n f g (put h e v) b
    unfolding lists_for
    sending-for v =
        let i : 2 * (e % 256) + 1 ≡ 2 * e + 1 = omega (arith, small) in
        ap (λ (c : List ℕ). lists_of (listed (λ j. act_numbers (f j)) 1024) (listed (λ j. (f j).number ∷ []) 1024) c (bits_of b n))
        (ap (λ (p : ℕ). set (listed (λ e. g e ∷ h e ∷ []) 256) p v) i
        ∙ listed-put 2 two (λ e. g e ∷ h e ∷ []) (λ e. refl) e 1 (omega arith) 256 v l
        ∙ listed_same (λ d. if_else (eqb e d) (set (g d ∷ h d ∷ []) 1 v) (g d ∷ h d ∷ [])) (λ d. g d ∷ put h e v d ∷ []) 256 (λ d m. go (eqb e d) (g d) (h d)))
      where
        go : (t : Bool) (x y : ℕ) → if_else t (set (x ∷ y ∷ []) 1 v) (x ∷ y ∷ []) ≡ x ∷ if_else t v y ∷ []
        go true x y = refl
        go false x y = refl
