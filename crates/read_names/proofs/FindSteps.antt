-- The search for a name along the chain of its key.
use mathlib.Core.Path.{◌≡◌, refl, sym, ap, subst, ◌∙◌}
use mathlib.Core.Bool.{Bool, true, false}
use mathlib.Core.List.{List, [], ◌∷◌}
use mathlib.Core.Logic.{◌⊎◌, inl, inr}
use Prim.Native.Nat.{ℕ, zero, suc, ◌+◌, ◌-◌, ◌≤◌, ◌<◌}
use native.Mathlib.Omega.{arith}
use native.Mathlib.Nat.{zero-add}
use native.Mathlib.Decide.{ℕ_discrete}
use lib.ListN.{length, get_or, drop, length-drop}
use lib.Seq.{drop-cons, get_or-drop, drop-drop}
use lib.Dec.{eqb}
use borrow.Author.Tests.{eq-eqb, ne_eqb}
use Rattle.meaning.specs.Basics.{if_else}
use Rattle.meaning.specs.Lines.{same}
use Rattle.meaning.proofs.NoFault.{same-is}
use Rattle.grammar.specs.TextRows.{name_row}
use Rattle.read_names.specs.Keys.{key_of, first_keyed, keyed_from, Indexed}
use Rattle.read_names.proofs.KeySteps.{key-small}

-- no name has the key: none is the name
none-keyed : (name : List ℕ) (i : ℕ) (ns : List (List ℕ)) → first_keyed (key_of name) i ns ≡ 0 → name_row ns name ≡ length ns
unfolding first_keyed name_row
none-keyed name i [] h = refl
none-keyed name i (n ∷ ns) h = go (same name n) refl (ℕ_discrete (key_of n) (key_of name)) (none-keyed name (suc i) ns)
  where
    go : (t : Bool) → same name n ≡ t → Dec (key_of n ≡ key_of name) → (first_keyed (key_of name) (suc i) ns ≡ 0 → name_row ns name ≡ length ns) → if_else t 0 (suc (name_row ns name)) ≡ suc (length ns)
    go t q (yes e) rest = absurd (let z : suc i ≡ 0 = sym (ap (λ (b : Bool). if_else b (suc i) (first_keyed (key_of name) (suc i) ns)) (eq-eqb (key_of n) (key_of name) e)) ∙ h in omega (arith, z))
    go true q (no e) rest = absurd (e (sym (ap key_of (same-is name n q))))
    go false q (no e) rest = ap suc (rest (sym (ap (λ (b : Bool). if_else b (suc i) (first_keyed (key_of name) (suc i) ns)) (ne_eqb (key_of n) (key_of name) e)) ∙ h))

-- the first name with the key: those before it are not the name
record Keyed (name : List ℕ) (i : ℕ) (ns : List (List ℕ)) (at : ℕ) : Type 0 where
  place : ℕ
  is-place : at ≡ i + place
  there : place < length ns
  row-later : name_row ns name ≡ place + name_row (drop place ns) name
  same_key : key_of (get_or ns place []) ≡ key_of name

some-keyed : (name : List ℕ) (i : ℕ) (ns : List (List ℕ)) (at : ℕ) → first_keyed (key_of name) i ns ≡ suc at → Keyed name i ns at
unfolding first_keyed name_row
some-keyed name i [] at h = absurd (omega (arith, h))
some-keyed name i (n ∷ ns) at h = go (same name n) refl (ℕ_discrete (key_of n) (key_of name)) (some-keyed name (suc i) ns at)
  where
    go : (t : Bool) → same name n ≡ t → Dec (key_of n ≡ key_of name) → (first_keyed (key_of name) (suc i) ns ≡ suc at → Keyed name (suc i) ns at) → Keyed name i (n ∷ ns) at
    go t q (yes e) rest =
        let z : suc i ≡ suc at = sym (ap (λ (b : Bool). if_else b (suc i) (first_keyed (key_of name) (suc i) ns)) (eq-eqb (key_of n) (key_of name) e)) ∙ h in
        record { place = 0; is-place = omega (arith, z); there = omega arith; row-later = sym (zero-add (name_row (n ∷ ns) name)); same_key = e }
    go true q (no e) rest = absurd (e (sym (ap key_of (same-is name n q))))
    go false q (no e) rest =
        let r = rest (sym (ap (λ (b : Bool). if_else b (suc i) (first_keyed (key_of name) (suc i) ns)) (ne_eqb (key_of n) (key_of name) e)) ∙ h) in
        let p = r.is-place in
        let l = r.there in
        record {
          place = suc r.place;
          is-place = omega (arith, p);
          there = omega (arith, l);
          row-later = let w = ap (λ (t : Bool). if_else t 0 (suc (name_row ns name))) q in let v = r.row-later in omega (arith, w, v);
          same_key = r.same_key;
        }

-- the names before a number are not the name, and the chain goes on with the others
pub record Finding (names : List (List ℕ)) (name : List ℕ) (at : ℕ) : Type 0 where
  pub from : ℕ
  pub within : from ≤ length names
  pub chain : at ≡ keyed_from names (key_of name) from
  pub row-left : name_row names name ≡ from + name_row (drop from names) name

-- a name of the chain: those before it are not the name, and it has the same key
pub record AtName (names : List (List ℕ)) (name : List ℕ) (row : ℕ) : Type 0 where
  pub there : row < length names
  pub row-left : name_row names name ≡ row + name_row (drop row names) name
  pub same_key : key_of (get_or names row []) ≡ key_of name

-- how far a chain can go on
abbrev pub chain_left : ℕ → ℕ → ℕ
chain_left n zero = 0
chain_left n (suc k) = suc n - suc k

-- names with a key stand behind those passed
keyed-behind : (key i : ℕ) (ns : List (List ℕ)) → (first_keyed key i ns ≡ 0) ⊎ (i < first_keyed key i ns)
unfolding first_keyed
keyed-behind key i [] = inl refl
keyed-behind key i (n ∷ ns) = go (eqb (key_of n) key) (keyed-behind key (suc i) ns)
  where
    go : (t : Bool) → (first_keyed key (suc i) ns ≡ 0) ⊎ (suc i < first_keyed key (suc i) ns) → (if_else t (suc i) (first_keyed key (suc i) ns) ≡ 0) ⊎ (i < if_else t (suc i) (first_keyed key (suc i) ns))
    go true r = inr (omega arith)
    go false (inl e) = inl e
    go false (inr h) = inr (omega arith)

module _ (names : List (List ℕ)) (name : List ℕ) where
  -- no name is left
  pub finding-end : (at : ℕ) → Finding names name at → at ≤ 0 → length names ≡ name_row names name
  finding-end at f h =
      let z : at ≡ 0 = omega arith in
      let n = none-keyed name f.from (drop f.from names) (sym f.chain ∙ z) in
      let d = length-drop f.from names in
      let r = f.row-left in
      let w = f.within in
      omega (arith, n, d, r, w)

  -- one is
  pub finding-name : (at : ℕ) → Finding names name at → 0 < at → AtName names name (at - 1)
  finding-name zero f h = absurd (omega arith)
  finding-name (suc k) f h =
      let y = some-keyed name f.from (drop f.from names) k (sym f.chain) in
      let p = y.is-place in
      let t = y.there in
      let d = length-drop f.from names in
      let r = y.row-later in
      let l = f.row-left in
      let e : k ≡ suc k - 1 = omega arith in
      subst (AtName names name) e (record {
        there = omega (arith, p, t, d);
        row-left =
            let q = ap (λ (ns : List (List ℕ)). name_row ns name) (drop-drop y.place f.from names) in
            let u = ap (λ (n : ℕ). name_row (drop n names) name) p in
            omega (arith, q, u, r, l, p);
        same_key = ap (λ (n : ℕ). key_of (get_or names n [])) p ∙ ap key_of (sym (get_or-drop f.from names y.place [])) ∙ y.same_key;
      })

  module _ (row : ℕ) (a : AtName names name row) where
    row_here : name_row (drop row names) name ≡ if_else (same name (get_or names row [])) 0 (suc (name_row (drop (suc row) names) name))
    unfolding name_row
    row_here = ap (λ (ns : List (List ℕ)). name_row ns name) (drop-cons names row [] a.there)

    -- it is the name
    pub found : same name (get_or names row []) ≡ true → row ≡ name_row names name
    found e =
        let z = row_here ∙ ap (λ (t : Bool). if_else t 0 (suc (name_row (drop (suc row) names) name))) e in
        let r = a.row-left in
        omega (arith, z, r)

    module _ (heads nexts : List ℕ) (x : Indexed names heads nexts) where
      next-is : get_or nexts row 0 ≡ keyed_from names (key_of name) (suc row)
      next-is = x.chained row (omega arith) a.there ∙ ap (λ (k : ℕ). keyed_from names k (suc row)) a.same_key

      -- it is not
      pub finding-next : same name (get_or names row []) ≡ false → Finding names name (get_or nexts row 0)
      finding-next e =
          let z = row_here ∙ ap (λ (t : Bool). if_else t 0 (suc (name_row (drop (suc row) names) name))) e in
          let r = a.row-left in
          let t = a.there in
          record { from = suc row; within = omega (arith, t); chain = next-is; row-left = omega (arith, z, r) }

      -- the chain goes on with fewer
      pub chain-less : (at : ℕ) → 0 < at → row ≡ at - 1 → chain_left (length names) (get_or nexts row 0) < chain_left (length names) at
      chain-less zero h e = absurd (omega arith)
      chain-less (suc k) h e = go (get_or nexts row 0) refl
        where
          go : (n : ℕ) → get_or nexts row 0 ≡ n → chain_left (length names) n < suc (length names) - suc k
          go zero q = let t = a.there in omega (arith, t, e)
          go (suc n) q = later (keyed-behind (key_of name) (suc row) (drop (suc row) names))
            where
              later : (keyed_from names (key_of name) (suc row) ≡ 0) ⊎ (suc row < keyed_from names (key_of name) (suc row)) → suc (length names) - suc n < suc (length names) - suc k
              later (inl z) = absurd (let i = next-is in omega (arith, q, i, z))
              later (inr b) = let i = next-is in let t = a.there in omega (arith, q, i, b, e, t)

  -- none is passed
  pub finding-start : (heads nexts : List ℕ) → Indexed names heads nexts → (k : ℕ) → k ≡ key_of name → Finding names name (get_or heads k 0)
  finding-start heads nexts x k e =
      let s = key-small name in
      record { from = 0; within = omega arith; chain = x.headed k (omega (arith, s, e)) ∙ ap (λ (n : ℕ). keyed_from names n 0) e; row-left = sym (zero-add (name_row names name)) }
