-- A row or an option is noted in the lists; the options of an ALT are noted, or woken, one after another.
use mathlib.Core.Path.{◌≡◌, refl, sym, ap, ap₂, subst, ◌∙◌}
use mathlib.Core.Logic.{◌≢◌}
use mathlib.Core.Bool.{Bool, true, false, ◌&&◌, ◌||◌}
use mathlib.Core.Option.{Option, none, some}
use mathlib.Core.List.{List, [], ◌∷◌, Memᴰ}
use Prim.Native.Nat.{ℕ, suc, ◌+◌, ◌<◌, ◌≤◌}
use native.Mathlib.Omega.{arith}
use lib.IntN.{ℤ, pos}
use lib.Dec.{T, eqb}
use Rattle.meaning.specs.Basics.{if_else, is_some, any_passes, among}
use Rattle.meaning.specs.Tree.{AltOption}
use Rattle.meaning.specs.State.{write_cell, write_place, write_output}
use Rattle.meaning.specs.Intent.{Offer, open_offer, input_offer, fails, offers}
use Rattle.meaning.specs.Ready.{option_row}
use Rattle.meaning.proofs.Decides.{Decides, holding, failing, decides_eq}
use Rattle.agreement.specs.RowsOfSteps.{rows_of_options, offer_at}
use Rattle.agreement.proofs.Options.{Rising}
use Rattle.run_parents.specs.Marks.{row_note}
use Rattle.run_kept.specs.Kept.{offers_input, offer_ready}
use Rattle.run_intents.specs.declared.Does.TheVariants.{Selects}
use Rattle.run_notes.specs.declared.Note.{Note}
use Rattle.run_notes.specs.declared.Notes.{Notes}
use Rattle.run_notes.specs.Notes.{note, note_numbers, stored, sender_at, raising, wait_input, wake_option, wake_options, note_as, noted_of, note_options}
use Rattle.run_notes.proofs.Changes.{test-no}
use Rattle.run_noted.specs.Noted.{no_note, note_of_open, note_of_offer, lists_for, Offered, offers-none, passed, taken, Tells, tells_none, lacks-here, lacks-later, waits-here, offers-here}
use Rattle.run_noted.proofs.Blocks.{same_row, other_row, swap-rows}
use Rattle.run_noted.proofs.Contents.{put, lists-same, what-for, where-for, stored-for, raising-for, receiving-for, sender-for}
use Rattle.run_noted.proofs.Offers.{offer-below, waits_at}
use Rattle.run_noted.proofs.Left.{Apart, open-apart}

-- ---- truth values

pub or-false : (a : Bool) → a ≡ (a || false)
or-false true = refl
or-false false = refl

pub put-or : (t : Bool) (a : Bool) → if_else t true a ≡ (a || (t && true))
put-or true true = refl
put-or true false = refl
put-or false true = refl
put-or false false = refl

pub none_more : (a t : Bool) → a ≡ (a || (t && false))
none_more true t = refl
none_more false true = refl
none_more false false = refl

two-tests : (a s t x : Bool) → ((a || (s && x)) || (t && x)) ≡ (a || ((s || t) && x))
two-tests true s t x = refl
two-tests false true true true = refl
two-tests false true true false = refl
two-tests false true false true = refl
two-tests false true false false = refl
two-tests false false t x = refl

module _ (n : ℕ) (few : n ≤ 1024) where
  -- ---- one note

  module _ (rows : List ℤ) (r j : ℕ) (l : j < n) (f : ℕ → Note) (g h : ℕ → ℕ) (b : ℕ → Bool) where
    abbrev L : Note → Notes
    L k = lists_for n (put f j k) g h b

    at : (k : Note) → stored j k (lists_for n f g h b) ≡ lists_for n (put f j k) g h b
    at k = stored-for n f g h b j (omega arith) k

    -- that of nothing
    pub waits-noted : note_as rows r j no_note (lists_for n f g h b) ≡ lists_for n (put f j no_note) g h b
    unfolding note_as
    waits-noted = at no_note

    -- one that has a step by itself
    pub apart-noted : (k : Note) → Apart k → note_as rows r j k (lists_for n f g h b) ≡ lists_for n (put f j k) g h (put b j true)
    unfolding note_as
    apart-noted k (x, y) =
        let z₀ : k.what ≢ 0 = λ z. omega arith in
        let z₇ : k.what ≢ 7 = λ z. omega arith in
        let z₈ : k.what ≢ 8 = λ z. omega arith in
        rw (test-no z₀, test-no z₇, test-no z₈) (ap (raising j) (at k) ∙ raising-for n (put f j k) g h b j (omega arith) l few)

  -- a row waits to input
  wait-for : (r j e : ℕ) → j < n → e < 256 → (f : ℕ → Note) (g h : ℕ → ℕ) (b : ℕ → Bool) → wait_input r j e (lists_for n f g h b) ≡ lists_for n f (put g e (r + 1)) h (λ q. if_else (eqb (h e) 0) (b q) (put b j true q))
  unfolding wait_input
  wait-for r j e l x f g h b =
      ap (λ (m : Notes). if_else (eqb (sender_at m e) 0) m (raising j m)) (receiving-for n f g h b e x (r + 1))
      ∙ ap (λ (k : ℕ). if_else (eqb k 0) after (raising j after)) (sender-for n f (put g e (r + 1)) h b e x)
      ∙ go (eqb (h e) 0)
    where
      after : Notes
      after = lists_for n f (put g e (r + 1)) h b

      go : (t : Bool) → if_else t after (raising j after) ≡ lists_for n f (put g e (r + 1)) h (λ q. if_else t (b q) (put b j true q))
      go true = refl
      go false = raising-for n f (put g e (r + 1)) h b j (omega arith) l few

  module _ (rows : List ℤ) (r j : ℕ) (l : j < n) (f : ℕ → Note) (g h : ℕ → ℕ) (b : ℕ → Bool) where
    pub input-noted : (e a : ℕ) → e < 256
        → note_as rows r j (note 7 e a (pos 0)) (lists_for n f g h b) ≡ lists_for n (put f j (note 7 e a (pos 0))) (put g e (r + 1)) h (λ q. if_else (eqb (h e) 0) (b q) (put b j true q))
    unfolding note_as
    input-noted e a x = ap (wait_input r j e) (stored-for n f g h b j (omega arith) (note 7 e a (pos 0))) ∙ wait-for r j e l x (put f j (note 7 e a (pos 0))) g h b

    -- whether there is a sender, by what is noted
    pub bit-met : (S : ℕ → Option ℕ) → ((e : ℕ) → h e ≡ row_note (S e)) → (e q : ℕ) → if_else (eqb (h e) 0) (b q) (put b j true q) ≡ (b q || (eqb j q && is_some (S e)))
    bit-met S same e q = ap (λ (k : ℕ). if_else (eqb k 0) (b q) (put b j true q)) (same e) ∙ go (S e)
      where
        go : (o : Option ℕ) → if_else (eqb (row_note o) 0) (b q) (put b j true q) ≡ (b q || (eqb j q && is_some o))
        go none = none_more (b q) (eqb j q)
        go (some p) = ap (λ (t : Bool). if_else t (b q) (put b j true q)) (test-no {x = p + 1} {n = 0} (λ z. omega arith)) ∙ put-or (eqb j q) (b q)

    -- what an option offers
    pub offer-noted : (S : ℕ → Option ℕ) → ((e : ℕ) → h e ≡ row_note (S e)) → (o : Offer) → ((e : ℕ) → T (offers_input e o) → e < 256)
        → note_as rows r j (note_of_offer (some o)) (lists_for n f g h b)
        ≡ lists_for n (put f j (note_of_offer (some o))) (λ e. if_else (offers_input e o) (r + 1) (g e)) h (λ q. b q || (eqb j q && offer_ready S (some o)))
    offer-noted S same (open_offer i q ws) small = apart-noted rows r j l f g h b (note_of_open q ws) (open-apart q ws) ∙ lists-same n (λ q. refl) (λ e. refl) (λ e. refl) (λ q m. put-or (eqb j q) (b q))
    offer-noted S same (input_offer i q e a) small =
        input-noted e a (small e (subst (λ (t : Bool). T t) (sym (same_row e)) tt))
        ∙ lists-same n (λ q. refl) (λ d. ap (λ (t : Bool). if_else t (r + 1) (g d)) (swap-rows e d)) (λ d. refl) (λ q m. bit-met S same e q)

  -- ---- options

  abbrev pub overlaid : Option Offer → Note → Note
  overlaid none k = k
  overlaid (some o) k = note_of_offer (some o)

  module _ (rows : List ℤ) (F : AltOption → Note) (r : ℕ) where
    -- one lacks a value: none is noted
    pub options-lack : (bs : List AltOption) (k : ℕ) → Tells F bs (fails k) → (m : Notes) → note_options rows F r bs m ≡ noted_of (note 1 k 0 (pos 0)) m
    unfolding note_options
    options-lack [] k x' m = elim x' [ ]
    options-lack (o ∷ bs) k (lacks-here e) m = rw e
    options-lack (o ∷ bs) k (lacks-later z t) m = rw (test-no z, options-lack bs k t m)

    tells-offered : (bs : List AltOption) (os : List Offer) → Tells F bs (offers os) → Offered bs os
    tells-offered [] (p ∷ os) x'' = elim x'' [ ]
    tells-offered [] [] tells_none = offers-none
    tells-offered (o ∷ bs) os (waits-here e t) = passed (tells-offered bs os t)
    tells-offered (o ∷ bs) (p ∷ os) (offers-here e i t) = taken i (tells-offered bs os t)

    offer-goes : (o : Offer) → (note_of_offer (some o)).what ≢ 1
    offer-goes (open_offer j q []) z = omega arith
    offer-goes (open_offer j q (write_cell a m ∷ [])) z = omega arith
    offer-goes (open_offer j q (write_cell a m ∷ write_cell c k ∷ ws)) z = omega arith
    offer-goes (open_offer j q (write_cell a m ∷ write_place p i ∷ ws)) z = omega arith
    offer-goes (open_offer j q (write_cell a m ∷ write_output p i ∷ ws)) z = omega arith
    offer-goes (open_offer j q (write_place p i ∷ ws)) z = omega arith
    offer-goes (open_offer j q (write_output p i ∷ ws)) z = omega arith
    offer-goes (input_offer j q e a) z = omega arith

    module _ (f : ℕ → Note) (g h : ℕ → ℕ) (b : ℕ → Bool) (S : ℕ → Option ℕ) (same : (e : ℕ) → h e ≡ row_note (S e)) where
      abbrev Result : List Offer → Notes
      Result os = lists_for n (λ q. overlaid (offer_at q os) (f q)) (λ e. if_else (any_passes (offers_input e) os) (r + 1) (g e)) h (λ q. b q || offer_ready S (offer_at q os))

      -- all are noted
      pub options-noted : (bs : List AltOption) (os : List Offer) (lo : ℕ) → Tells F bs (offers os) → Rising n lo bs → ((e : ℕ) → T (any_passes (offers_input e) os) → e < 256) → ((j : ℕ) → Memᴰ j (rows_of_options bs) → f j ≡ no_note)
          → note_options rows F r bs (lists_for n f g h b)
          ≡ noted_of (note_numbers Selects) (lists_for n (λ q. overlaid (offer_at q os) (f q)) (λ e. if_else (any_passes (offers_input e) os) (r + 1) (g e)) h (λ q. b q || offer_ready S (offer_at q os)))
      unfolding note_options any_passes
      options-noted [] (p ∷ os) lo x8 R small bare = elim x8 [ ]
      options-noted [] [] lo tells_none R small bare = ap (noted_of (note_numbers Selects)) (lists-same n (λ q. refl) (λ e. refl) (λ e. refl) (λ q m. or-false (b q)))
      options-noted (o ∷ bs) os lo (waits-here e t) R small bare =
          rw (e, options-noted bs os (suc o.row) t R.2 small (λ j m. bare j (Memᴰ.tail m)))
          (ap (noted_of (note_numbers Selects))
          (waits-noted rows r o.row R.1 (λ q. overlaid (offer_at q os) (f q)) (λ e. if_else (any_passes (offers_input e) os) (r + 1) (g e)) h (λ q. b q || offer_ready S (offer_at q os))
          ∙ lists-same n (λ q. go q (eqb o.row q) (decides_eq o.row q)) (λ e. refl) (λ e. refl) (λ q m. refl)))
        where
          go : (q : ℕ) (s : Bool) → Decides (o.row ≡ q) s → if_else s no_note (overlaid (offer_at q os) (f q)) ≡ overlaid (offer_at q os) (f q)
          go q true (holding z) =
              sym (subst (λ (q : ℕ). overlaid (offer_at q os) (f q) ≡ no_note) z
              (ap (λ (c : Option Offer). overlaid c (f o.row)) (offer-below n (suc o.row) bs os (tells-offered bs os t) R.2 o.row (omega arith)) ∙ bare o.row (Memᴰ.head refl)))
          go q false d = refl
      options-noted (o ∷ bs) (p ∷ os) lo (offers-here e i t) R small bare =
          rw (e, test-no (offer-goes p), options-noted bs os (suc o.row) t R.2 (λ e h. small e (later e h)) (λ j m. bare j (Memᴰ.tail m)))
          (ap (noted_of (note_numbers Selects))
          (offer-noted rows r o.row R.1 (λ q. overlaid (offer_at q os) (f q)) (λ e. if_else (any_passes (offers_input e) os) (r + 1) (g e)) h (λ q. b q || offer_ready S (offer_at q os)) S same p (λ e h. small e (here e h))
          ∙ lists-same n (λ q. notes q (eqb o.row q) refl) (λ e. receivers e (offers_input e p)) (λ e. refl) (λ q m. bits q (eqb o.row q) (decides_eq o.row q))))
        where
          later : (e : ℕ) → T (any_passes (offers_input e) os) → T (offers_input e p || any_passes (offers_input e) os)
          later e h = go (offers_input e p)
            where
              go : (s : Bool) → T (s || any_passes (offers_input e) os)
              go true = tt
              go false = h

          here : (e : ℕ) → T (offers_input e p) → T (offers_input e p || any_passes (offers_input e) os)
          here e h = go (offers_input e p) h
            where
              go : (s : Bool) → T s → T (s || any_passes (offers_input e) os)
              go true h = tt
              go false h = absurd h

          told : (q : ℕ) → eqb o.row q ≡ eqb (option_row p) q
          told q = ap (λ (j : ℕ). eqb j q) (sym i)

          notes : (q : ℕ) (s : Bool) → eqb o.row q ≡ s → if_else s (note_of_offer (some p)) (overlaid (offer_at q os) (f q)) ≡ overlaid (if_else (eqb (option_row p) q) (some p) (offer_at q os)) (f q)
          notes q true z = ap (λ (s : Bool). overlaid (if_else s (some p) (offer_at q os)) (f q)) (sym (sym (told q) ∙ z))
          notes q false z = ap (λ (s : Bool). overlaid (if_else s (some p) (offer_at q os)) (f q)) (sym (sym (told q) ∙ z))

          receivers : (e : ℕ) (s : Bool) → if_else s (r + 1) (if_else (any_passes (offers_input e) os) (r + 1) (g e)) ≡ if_else (s || any_passes (offers_input e) os) (r + 1) (g e)
          receivers e true = refl
          receivers e false = refl

          own-bit : (a s : Bool) → ((a || false) || s) ≡ (a || s)
          own-bit true s = refl
          own-bit false s = refl

          bits : (q : ℕ) (s : Bool) → Decides (o.row ≡ q) s → ((b q || offer_ready S (offer_at q os)) || (s && offer_ready S (some p))) ≡ (b q || offer_ready S (if_else (eqb (option_row p) q) (some p) (offer_at q os)))
          bits q true (holding z) =
              ap (λ (c : Option Offer). (b q || offer_ready S c) || offer_ready S (some p)) (subst (λ (q : ℕ). offer_at q os ≡ none) z (offer-below n (suc o.row) bs os (tells-offered bs os t) R.2 o.row (omega arith)))
              ∙ own-bit (b q) (offer_ready S (some p))
              ∙ ap (λ (s : Bool). b q || offer_ready S (if_else s (some p) (offer_at q os))) (sym (ap (λ (j : ℕ). eqb j q) (i ∙ z) ∙ same_row q))
          bits q false (failing z) =
              sym (or-false (b q || offer_ready S (offer_at q os)))
              ∙ ap (λ (s : Bool). b q || offer_ready S (if_else s (some p) (offer_at q os))) (sym (other_row (option_row p) q (λ y. z (sym i ∙ y))))

  -- ---- who is woken

  -- an option of an ALT that is woken at element e
  option-woken : (e j : ℕ) → j < n → (f : ℕ → Note) (g h : ℕ → ℕ) (b : ℕ → Bool) → wake_option e j (lists_for n f g h b) ≡ lists_for n f g h (λ q. b q || (eqb q j && waits_at e (f q)))
  option-woken e j l f g h b =
      ap₂ (λ (x y : ℕ). if_else (eqb x 7) (if_else (eqb y e) (raising j M) M) M) (what-for n f g h b j (omega arith)) (where-for n f g h b j (omega arith))
      ∙ ap (λ (t : Bool). if_else (eqb (f j).what 7) (if_else t (raising j M) M) M) (swap-rows (f j).at e)
      ∙ go (eqb (f j).what 7) refl (eqb e (f j).at) refl
    where
      M : Notes
      M = lists_for n f g h b

      bits : (t : Bool) → waits_at e (f j) ≡ t → (q : ℕ) → (b q || (eqb j q && t)) ≡ (b q || (eqb q j && waits_at e (f q)))
      bits t z q = at (eqb j q) (decides_eq j q)
        where
          at : (s : Bool) → Decides (j ≡ q) s → (b q || (s && t)) ≡ (b q || (eqb q j && waits_at e (f q)))
          at true (holding y) = ap₂ (λ (s t : Bool). b q || (s && t)) (sym (ap (λ (k : ℕ). eqb k j) (sym y) ∙ same_row j)) (sym z ∙ ap (λ (k : ℕ). waits_at e (f k)) y)
          at false (failing y) = ap (λ (s : Bool). b q || (s && waits_at e (f q))) (sym (other_row q j (λ k. y (sym k))))

      still : (t : Bool) → waits_at e (f j) ≡ false → M ≡ lists_for n f g h (λ q. b q || (eqb q j && waits_at e (f q)))
      still t z = lists-same n (λ q. refl) (λ e. refl) (λ e. refl) (λ q m. none_more (b q) (eqb j q) ∙ bits false z q)

      go : (s : Bool) → eqb (f j).what 7 ≡ s → (t : Bool) → eqb e (f j).at ≡ t → if_else s (if_else t (raising j M) M) M ≡ lists_for n f g h (λ q. b q || (eqb q j && waits_at e (f q)))
      go true x true y =
          raising-for n f g h b j (omega arith) l few
          ∙ lists-same n (λ q. refl) (λ e. refl) (λ e. refl) (λ q m. put-or (eqb j q) (b q) ∙ bits true (ap₂ (λ (s t : Bool). s && t) x y) q)
      go true x false y = still false (ap₂ (λ (s t : Bool). s && t) x y)
      go false x t y = still false (ap (λ (s : Bool). s && eqb e (f j).at) x)

  pub options-woken : (e : ℕ) (bs : List AltOption) (lo : ℕ) → Rising n lo bs → (f : ℕ → Note) (g h : ℕ → ℕ) (b : ℕ → Bool)
      → wake_options e bs (lists_for n f g h b) ≡ lists_for n f g h (λ q. b q || (among q (rows_of_options bs) && waits_at e (f q)))
  unfolding wake_options any_passes
  options-woken e [] lo R f g h b = lists-same n (λ q. refl) (λ e. refl) (λ e. refl) (λ q m. or-false (b q))
  options-woken e (o ∷ bs) lo R f g h b =
      ap (wake_options e bs) (option-woken e o.row R.1 f g h b)
      ∙ options-woken e bs (suc o.row) R.2 f g h (λ q. b q || (eqb q o.row && waits_at e (f q)))
      ∙ lists-same n (λ q. refl) (λ e. refl) (λ e. refl) (λ q m. two-tests (b q) (eqb q o.row) (any_passes (eqb q) (rows_of_options bs)) (waits_at e (f q)))
