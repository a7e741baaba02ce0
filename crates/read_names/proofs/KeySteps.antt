-- Listed names: what stands at a place, keys, and chains of the names with a key.
use mathlib.Core.Path.{◌≡◌, refl, sym, ap, subst, ◌∙◌}
use mathlib.Core.Bool.{Bool}
use mathlib.Core.List.{List, [], ◌∷◌}
use Prim.Native.Nat.{ℕ, zero, suc, ◌+◌, ◌-◌, ◌*◌, ◌%◌, ◌≤◌, ◌<◌}
use native.Mathlib.Omega.{arith}
use native.Mathlib.Numerals.{add-one}
use native.Mathlib.Decide.{ℕ_discrete}
use lib.ListN.{length, get_or, take, drop, set, replicate, drop_of_length-le, length-drop, length-set, length-replicate, get_or-replicate}
use lib.Seq.{take-nil, take_all, drop-cons, get_or-set_same, get_or-set_other}
use lib.Dec.{eqb}
use borrow.Author.Tests.{eq-eqb, ne_eqb}
use Rattle.meaning.specs.Basics.{if_else}
use Rattle.meaning.specs.Lines.{same}
use Rattle.read_names.specs.Listed.{name_at, names_at}
use Rattle.read_names.specs.Keys.{key_limit, key_from, key_of, first_keyed, keyed_from, IndexedFrom}

-- One listed name ---------------------------------------------------------------------------------------------------------------

module _ (text : List ℕ) (from size : ℕ) where
  -- it begins past the end: it has no bytes
  pub listed-past-end : length text ≤ from → name_at text from size ≡ []
  listed-past-end h = ap (take size) (drop_of_length-le text h) ∙ take-nil size

  -- fewer bytes are left than it has
  pub listed-to-end : length text - from < size → take (length text - from) (drop from text) ≡ name_at text from size
  listed-to-end h = let d = length-drop from text in take_all (length text - from) (drop from text) (omega arith) ∙ sym (take_all size (drop from text) (omega arith))

  -- it ends inside
  pub listed-inside : (to : ℕ) → to ≡ from + size → take (to - from) (drop from text) ≡ name_at text from size
  listed-inside to e = let n : to - from ≡ size = omega arith in ap (λ (k : ℕ). take k (drop from text)) n

-- the empty name alone is the same as one without bytes
pub same-empty : (n : List ℕ) → eqb (length n) 0 ≡ same n []
unfolding same
same-empty [] = refl
same-empty (b ∷ bs) = ne_eqb (suc (length bs)) 0 (λ e. omega (arith, e))

module _ (text : List ℕ) where
  -- as many names as places
  pub names-counted : (froms sizes : List ℕ) → length froms ≡ length sizes → length (names_at text froms sizes) ≡ length froms
  unfolding names_at
  names-counted [] ss e = refl
  names-counted (f ∷ fs) [] e = absurd (omega (arith, e))
  names-counted (f ∷ fs) (s ∷ ss) e = ap suc (names-counted fs ss (omega (arith, e)))

  -- each is the name at its place
  pub name-listed : (froms sizes : List ℕ) → length froms ≡ length sizes → (i : ℕ) → i < length froms → get_or (names_at text froms sizes) i [] ≡ name_at text (get_or froms i 0) (get_or sizes i 0)
  unfolding names_at
  name-listed [] ss e i h = absurd (omega arith)
  name-listed (f ∷ fs) [] e i h = absurd (omega (arith, e))
  name-listed (f ∷ fs) (s ∷ ss) e zero h = refl
  name-listed (f ∷ fs) (s ∷ ss) e (suc i) h = name-listed fs ss (omega (arith, e)) i (omega (arith, h))

-- Keys --------------------------------------------------------------------------------------------------------------------------

-- a key is below the limit
key_below : (k : ℕ) (bs : List ℕ) → k < key_limit → key_from k bs < key_limit
unfolding key_from
key_below k [] h = h
key_below k (b ∷ bs) h = key_below ((33 * k + b) % key_limit) bs (omega arith)

pub key-small : (name : List ℕ) → key_of name < key_limit
key-small name = key_below 0 name (omega arith)

pub key-empty : 0 ≡ key_of []
unfolding key_from
key-empty = refl

-- one more byte is read
pub key-next : (name : List ℕ) (k at : ℕ) → at < length name → key_from k (drop at name) ≡ key_from ((33 * k + get_or name at 0) % key_limit) (drop (at + 1) name)
unfolding key_from
key-next name k at h = ap (key_from k) (drop-cons name at 0 h) ∙ ap (λ (n : ℕ). key_from ((33 * k + get_or name at 0) % key_limit) (drop n name)) (sym (add-one at))

-- all are
pub key-end : (name : List ℕ) (k at : ℕ) → length name ≤ at → key_from k (drop at name) ≡ k
unfolding key_from
key-end name k at h = ap (key_from k) (drop_of_length-le name h)

-- Chains ------------------------------------------------------------------------------------------------------------------------

-- no name is chained
pub index-start : (names : List (List ℕ)) (at : ℕ) (heads nexts : List ℕ) → length names ≤ at → length names ≤ length nexts → heads ≡ replicate key_limit 0 → IndexedFrom names at heads nexts
unfolding first_keyed
index-start names at heads nexts h l e =
    record {
      heads-counted = ap length e ∙ length-replicate {A = ℕ} key_limit 0;
      nexts-long = l;
      headed = λ key k. ap (λ (hs : List ℕ). get_or hs key 0) e ∙ get_or-replicate key_limit key 0 0 k ∙ sym (ap (first_keyed key at) (drop_of_length-le names h));
      chained = λ i a b. absurd (omega (arith, a, b, h));
    }

module _ (names : List (List ℕ)) (at : ℕ) (h : at < length names) where
  keyed-here : (key : ℕ) → keyed_from names key at ≡ if_else (eqb (key_of (get_or names at [])) key) (suc at) (keyed_from names key (suc at))
  unfolding first_keyed
  keyed-here key = ap (first_keyed key at) (drop-cons names at [] h)

  -- one more is chained
  pub index-step : (heads nexts : List ℕ) → IndexedFrom names (suc at) heads nexts → (k : ℕ) → k ≡ key_of (get_or names at [])
      → IndexedFrom names at (set heads k (suc at)) (set nexts at (get_or heads k 0))
  index-step heads nexts x k e =
      record {
        heads-counted = length-set heads k (suc at) ∙ x.heads-counted;
        nexts-long = let s = length-set nexts at (get_or heads k 0) in let l = x.nexts-long in omega (arith, s, l);
        headed = λ key b. head key b (ℕ_discrete key k);
        chained = λ i a b. next i a b (ℕ_discrete i at);
      }
    where
      small : k < key_limit
      small = let s = key-small (get_or names at []) in omega (arith, s, e)

      head : (key : ℕ) → key < key_limit → Dec (key ≡ k) → get_or (set heads k (suc at)) key 0 ≡ keyed_from names key at
      head key b (yes q) =
          let c = x.heads-counted in
          ap (λ (n : ℕ). get_or (set heads k (suc at)) n 0) q
          ∙ get_or-set_same heads k (suc at) 0 (omega (arith, c, small))
          ∙ sym (keyed-here key ∙ ap (λ (t : Bool). if_else t (suc at) (keyed_from names key (suc at))) (eq-eqb (key_of (get_or names at [])) key (sym (q ∙ e))))
      head key b (no q) =
          get_or-set_other heads k key (suc at) 0 q
          ∙ x.headed key b
          ∙ sym (keyed-here key ∙ ap (λ (t : Bool). if_else t (suc at) (keyed_from names key (suc at))) (ne_eqb (key_of (get_or names at [])) key (λ p. q (sym (e ∙ p)))))

      next : (i : ℕ) → at ≤ i → i < length names → Dec (i ≡ at) → get_or (set nexts at (get_or heads k 0)) i 0 ≡ keyed_from names (key_of (get_or names i [])) (suc i)
      next i a b (yes q) =
          let l = x.nexts-long in
          subst (λ (j : ℕ). get_or (set nexts at (get_or heads k 0)) j 0 ≡ keyed_from names (key_of (get_or names j [])) (suc j)) (sym q)
          (get_or-set_same nexts at (get_or heads k 0) 0 (omega (arith, l, h)) ∙ x.headed k small ∙ ap (λ (n : ℕ). keyed_from names n (suc at)) e)
      next i a b (no q) = get_or-set_other nexts at i (get_or heads k 0) 0 q ∙ x.chained i (let z : (i ≡ at) → ⊥ = q in omega (arith, a, z)) b

-- the same for the name before a place, the key found from where it stands
pub index_listed : (text froms sizes heads nexts : List ℕ) → length froms ≡ length sizes → (at : ℕ) → 0 < at → at ≤ length froms → IndexedFrom (names_at text froms sizes) at heads nexts
    → (k : ℕ) → k ≡ key_of (name_at text (get_or froms (at - 1) 0) (get_or sizes (at - 1) 0))
    → IndexedFrom (names_at text froms sizes) (at - 1) (set heads k (at - 1 + 1)) (set nexts (at - 1) (get_or heads k 0))
index_listed text froms sizes heads nexts e at h w x k q =
    let names = names_at text froms sizes in
    let n = names-counted text froms sizes e in
    let s : at ≡ suc (at - 1) = omega (arith, h) in
    let t : suc (at - 1) ≡ at - 1 + 1 = omega arith in
    subst (λ (m : ℕ). IndexedFrom names (at - 1) (set heads k m) (set nexts (at - 1) (get_or heads k 0))) t
    (index-step names (at - 1) (omega (arith, n, h, w)) heads nexts (subst (λ (m : ℕ). IndexedFrom names m heads nexts) s x) k
    (q ∙ ap key_of (sym (name-listed text froms sizes e (at - 1) (omega (arith, h, w))))))
