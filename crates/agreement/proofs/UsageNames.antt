-- The numbers that a variable or a channel counts for, with the subscript at a row, are those of its places that the subscript counts for.
use mathlib.Core.Path.{◌≡◌, refl, sym, ap, ◌∙◌, subst}
use mathlib.Core.Logic.{◌⊎◌, inl, inr, ⊎_elim, ◌↔◌}
use mathlib.Core.Bool.{Bool, true, false, ◌||◌}
use mathlib.Core.List.Memᴰ
use mathlib.Core.List.{List, [], ◌∷◌, Memᴰ}
use Prim.Native.Nat.{ℕ}
use native.Mathlib.Omega.{arith}
use lib.IntN.{ℤ}
use Rattle.meaning.specs.Basics.{if_else}
use Rattle.meaning.specs.Rows.{natural_at, kind_at}
use Rattle.meaning.specs.Kinds.{expressions}
use Rattle.meaning.specs.Declarations.{declarations, Variable, Channel, no_variable, no_channel, sum_below, is_variable, has_role, cells_at, elements_at, host_channels_at, capacity_at, variable_at, channel_at}
use Rattle.meaning.specs.Tree.{content_at}
use Rattle.meaning.specs.Usage.{counts_for}
use Rattle.meaning.specs.References.{IsTarget}
use Rattle.meaning.specs.Clash.{Counts}
use Rattle.meaning.proofs.Decides.{decides_and, decides-lt, decides_eq, is_true}
use Rattle.agreement.specs.VerdictClaims.{Passed}
use Rattle.agreement.proofs.UsageRows.{ToChannel}
use Rattle.agreement.proofs.UsageNumbers.{Numbers, Counted, counts-below, counts-is}

module _ (rows : List ℤ) where
  -- the numbers that a name counts for with the subscript at row b, as places in it
  abbrev pub Located : (ℕ → ℕ) → ℕ → ℕ → ℕ → Type 0
  Located size n v b = (i : ℕ) × Numbers size n v i × Counts rows (size v) b i

  -- the cells of a variable
  pub variable-first : (v : ℕ) → ((variable_at rows v).first ≡ sum_below (cells_at rows) v) ⊎ (cells_at rows v ≡ 0)
  unfolding variable_at cells_at
  variable-first v = go (is_variable rows v)
    where
      go : (t : Bool) → ((if_else {A = Variable} t (record { first = sum_below (cells_at rows) v; size = if_else t (natural_at rows v 1) 0 }) no_variable).first ≡ sum_below (cells_at rows) v) ⊎ (if_else t (natural_at rows v 1) 0 ≡ 0)
      go true = inl refl
      go false = inr refl

  pub variable-size : (v : ℕ) → (variable_at rows v).size ≡ cells_at rows v
  unfolding variable_at cells_at
  variable-size v = go (is_variable rows v)
    where
      go : (t : Bool) → (if_else {A = Variable} t (record { first = sum_below (cells_at rows) v; size = if_else t (natural_at rows v 1) 0 }) no_variable).size ≡ if_else t (natural_at rows v 1) 0
      go true = refl
      go false = refl

  -- the elements of a channel that may be named
  channel-is : (role c : ℕ) → ToChannel rows (0 ∷ role ∷ []) c → ((channel_at role rows c).first ≡ sum_below (elements_at rows) c) × ((channel_at role rows c).size ≡ elements_at rows c)
  unfolding channel_at
  channel-is role c h = go (has_role 0 rows c || has_role role rows c) named
    where
      of : (j : ℕ) → natural_at rows c 2 ≡ j → has_role j rows c ≡ true
      of j e = is_true (decides_and (decides_and (decides-lt c (declarations rows)) (decides_eq (kind_at rows c) 2)) (decides_eq (natural_at rows c 2) j)) ((h.0, h.1), e)

      or_left : (s t : Bool) → s ≡ true → (s || t) ≡ true
      or_left s t e = ap (λ (x : Bool). x || t) e

      or_right : (s t : Bool) → t ≡ true → (s || t) ≡ true
      or_right true t e = refl
      or_right false t e = e

      named : (has_role 0 rows c || has_role role rows c) ≡ true
      named =
          ⊎_elim (λ e. or_left (has_role 0 rows c) (has_role role rows c) (of 0 (h.2.2 ∙ e)))
          (λ m. or_right (has_role 0 rows c) (has_role role rows c) (of role (h.2.2 ∙ ⊎_elim (λ e. e) (λ i. absurd (Memᴰ.not-nil i)) (Memᴰ.cases_cons m))))
          (Memᴰ.cases_cons h.2.1)

      whole : Channel
      whole = record {
        first = sum_below (elements_at rows) c;
        size = elements_at rows c;
        host = has_role role rows c;
        number = sum_below (host_channels_at role rows) c;
        capacity = capacity_at rows c;
      }

      go : (t : Bool) → t ≡ true → ((if_else t whole no_channel).first ≡ sum_below (elements_at rows) c) × ((if_else t whole no_channel).size ≡ elements_at rows c)
      go t e = subst (λ (s : Bool). ((if_else s whole no_channel).first ≡ sum_below (elements_at rows) c) × ((if_else s whole no_channel).size ≡ elements_at rows c)) (sym e) (refl, refl)

  module _ (passed : Passed rows) (n : ℕ) where
    located-is : (size : ℕ → ℕ) (v b first k : ℕ) → k ≡ size v → (first ≡ sum_below size v) ⊎ (size v ≡ 0) → Counted rows passed n first k b ↔ Located size n v b
    located-is size v b first k e f = (λ h. to h f, λ h. from h f)
      where
        to : Counted rows passed n first k b → (first ≡ sum_below size v) ⊎ (size v ≡ 0) → Located size n v b
        to h (inl g) = let l = counts-below rows h.2 in let m = h.1 in (h.0, (omega arith, omega arith), subst (λ (j : ℕ). Counts rows j b h.0) e h.2)
        to h (inr g) = absurd (let l = counts-below rows h.2 in omega arith)

        from : Located size n v b → (first ≡ sum_below size v) ⊎ (size v ≡ 0) → Counted rows passed n first k b
        from h (inl g) = let m = h.1.0 in (h.0, omega arith, subst (λ (j : ℕ). Counts rows j b h.0) (sym e) h.2)
        from h (inr g) = absurd (let l = h.1.1 in omega arith)

    pub cells_is : (r v b : ℕ) → IsTarget rows r expressions b → Memᴰ n (counts_for (variable_at rows v).first (variable_at rows v).size (content_at rows b).expr) ↔ Located (cells_at rows) n v b
    cells_is r v b t =
        let e = counts-is rows passed n (variable_at rows v).first (variable_at rows v).size b t.1 t.2 in
        let f = located-is (cells_at rows) v b (variable_at rows v).first (variable_at rows v).size (variable-size v) (variable-first v) in
        (λ m. f.0 (e.0 m), λ h. e.1 (f.1 h))

    pub elements-is : (r role c b : ℕ) → ToChannel rows (0 ∷ role ∷ []) c → IsTarget rows r expressions b → Memᴰ n (counts_for (channel_at role rows c).first (channel_at role rows c).size (content_at rows b).expr) ↔ Located (elements_at rows) n c b
    elements-is r role c b h t =
        let e = counts-is rows passed n (channel_at role rows c).first (channel_at role rows c).size b t.1 t.2 in
        let f = located-is (elements_at rows) c b (channel_at role rows c).first (channel_at role rows c).size (channel-is role c h).1 (inl (channel-is role c h).0) in
        (λ m. f.0 (e.0 m), λ h. e.1 (f.1 h))
