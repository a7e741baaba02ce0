-- The lowest block of each name, as the rows are gone through and as it is noted.
use mathlib.Core.Path.{◌≡◌, refl, sym, ap, ◌∙◌, subst}
use mathlib.Core.Bool.{Bool, true, false, ◌&&◌}
use mathlib.Core.List.{List}
use mathlib.Core.Option as maybe
use mathlib.Core.Option.{none, some}
use Rattle.std.specs.Prelude.{Option, Some, None, is_none}
use Prim.Native.Nat.{ℕ, zero, suc, ◌+◌, ◌<◌}
use native.Mathlib.Omega.{arith}
use lib.IntN.{ℤ}
use lib.ListN.{length, get_or, set, replicate, length-set, length-replicate, get_or-replicate}
use lib.Seq.{get_or-set_same, get_or-set_other}
use borrow.Author.Tests.{eq-eqb, ne_eqb}
use Rattle.meaning.specs.Basics.{if_else, lowest_from, lowest, Lowest}
use Rattle.meaning.specs.Rows.{row_count, natural_at, kind_at}
use Rattle.meaning.specs.Verdict.{is_block, block_of}
use Rattle.meaning.proofs.Decides.{Decides, holding, failing, decides_and, decides_eq, lowest-decided}
use Rattle.base_kinds.proofs.Truth.{and-false}
use Rattle.base_rows.specs.Places.{place_of}
use Rattle.base_rows.proofs.LowestFound.{place-some, place_none}
use Rattle.check_blocks.specs.Blocks.{FromRoot, is_block_of, BlocksNoted, with_row}
use Rattle.check_blocks.proofs.NamedRows.{block-from-root}

first_of : maybe.Option ℕ → maybe.Option ℕ → maybe.Option ℕ
first_of none o = o
first_of (some k) o = some k

module _ (p : ℕ → Bool) where
  last_of : ℕ → maybe.Option ℕ
  last_of n = if_else (p n) (some n) none

  from_more : (k at : ℕ) → lowest_from p at (suc k) ≡ first_of (lowest_from p at k) (last_of (at + k))
  unfolding lowest_from first_of last_of
  from_more zero at = let e : at + 0 ≡ at = omega arith in rw e
  from_more (suc k) at = let e : at + suc k ≡ suc at + k = omega arith in rw e (go (p at) (from_more k (suc at)))
    where
      go : (t : Bool) → lowest_from p (suc at) (suc k) ≡ first_of (lowest_from p (suc at) k) (last_of (suc at + k))
          → if_else t (some at) (lowest_from p (suc at) (suc k)) ≡ first_of (if_else t (some at) (lowest_from p (suc at) k)) (last_of (suc at + k))
      go true e = refl
      go false e = e

  lowest-more : (n : ℕ) → lowest p (suc n) ≡ first_of (lowest p n) (last_of n)
  unfolding lowest
  lowest-more n = let e : 0 + n ≡ n = omega arith in rw e at (from_more n 0)

module _ (rows : List ℤ) where
  -- row k is a block of the name v
  abbrev IsBlockOf : ℕ → ℕ → Type 0
  IsBlockOf v k = (kind_at rows k ≡ 35) × (natural_at rows k 1 ≡ v)

  is-block-of : (v k : ℕ) → Decides (IsBlockOf v k) (is_block_of rows v k)
  is-block-of v k = decides_and (decides_eq (kind_at rows k) 35) (decides_eq (natural_at rows k 1) v)

  lowest-of : (v n : ℕ) → Lowest (IsBlockOf v) n (lowest (is_block_of rows v) n)
  lowest-of v n = lowest-decided (IsBlockOf v) (is_block_of rows v) (is-block-of v) n

  -- a row is noted, or not
  pub row-noted : (r v : ℕ) (blocks : List (Option ℕ)) → kind_at rows r ≡ 35 → v ≡ natural_at rows r 1 → is_none (get_or blocks v None) ≡ true → set blocks v (Some r) ≡ with_row rows r blocks
  unfolding with_row
  row-noted r v blocks e i n =
      let q = subst (λ (w : ℕ). is_none (get_or blocks w None) ≡ true) i n in
      rw (i, eq-eqb (kind_at rows r) 35 e, q)

  pub lower-noted : (r v : ℕ) (blocks : List (Option ℕ)) → v ≡ natural_at rows r 1 → is_none (get_or blocks v None) ≡ false → blocks ≡ with_row rows r blocks
  unfolding with_row
  lower-noted r v blocks i n =
      let q = subst (λ (w : ℕ). is_none (get_or blocks w None) ≡ false) i n in
      rw (q, and-false (is_block rows r))

  pub not_noted : (r : ℕ) (blocks : List (Option ℕ)) → ¬ (kind_at rows r ≡ 35) → blocks ≡ with_row rows r blocks
  unfolding with_row
  not_noted r blocks n = rw (ne_eqb (kind_at rows r) 35 n)

  -- no block is noted yet
  pub none-noted : BlocksNoted rows 0 (replicate 1024 None)
  unfolding BlocksNoted lowest lowest_from
  none-noted = (length-replicate {A = Option ℕ} 1024 None, λ v l. get_or-replicate {A = Option ℕ} 1024 v None None l)

  -- one row more
  more-noted : (r : ℕ) (x : Option ℕ) (o : maybe.Option ℕ) → x ≡ place_of o → if_else (is_none x) (Some r) x ≡ place_of (first_of o (some r))
  unfolding first_of
  more-noted r x none e = rw e
  more-noted r x (some k) e = rw e

  first-only : (o : maybe.Option ℕ) → first_of o none ≡ o
  unfolding first_of
  first-only none = refl
  first-only (some k) = refl

  set_there : (blocks : List (Option ℕ)) (w r : ℕ) → w < length blocks → (t : Bool) → get_or (if_else t (set blocks w (Some r)) blocks) w None ≡ if_else t (Some r) (get_or blocks w None)
  set_there blocks w r l true = get_or-set_same blocks w (Some r) None l
  set_there blocks w r l false = refl

  set-elsewhere : (blocks : List (Option ℕ)) (w r v : ℕ) → ¬ (w ≡ v) → (t : Bool) → get_or (if_else t (set blocks w (Some r)) blocks) v None ≡ get_or blocks v None
  set-elsewhere blocks w r v n true = get_or-set_other blocks w v (Some r) None (λ e. n (sym e))
  set-elsewhere blocks w r v n false = refl

  pub noted_more : (r : ℕ) (blocks : List (Option ℕ)) → (kind_at rows r ≡ 35 → natural_at rows r 1 < 1024) → BlocksNoted rows r blocks → BlocksNoted rows (suc r) (with_row rows r blocks)
  unfolding BlocksNoted with_row last_of
  noted_more r blocks b (n, f) = (
    same_length (is_block rows r && is_none (get_or blocks w None)) ∙ n,
    λ v l. go v l (decides_eq (kind_at rows r) 35) (decides_eq w v) ∙ ap place_of (sym (lowest-more (is_block_of rows v) r)),
  )
    where
      w : ℕ
      w = natural_at rows r 1

      o : ℕ → maybe.Option ℕ
      o v = lowest (is_block_of rows v) r

      same_length : (t : Bool) → length (if_else t (set blocks w (Some r)) blocks) ≡ length blocks
      same_length true = length-set blocks w (Some r)
      same_length false = refl

      go : (v : ℕ) → v < 1024 → {s t : Bool} → Decides (kind_at rows r ≡ 35) s → Decides (w ≡ v) t
          → get_or (if_else (s && is_none (get_or blocks w None)) (set blocks w (Some r)) blocks) v None ≡ place_of (first_of (o v) (if_else (s && t) (some r) none))
      go v l (failing a) d = f v l ∙ ap place_of (sym (first-only (o v)))
      go v l (holding a) (failing e) = set-elsewhere blocks w r v e (is_none (get_or blocks w None)) ∙ f v l ∙ ap place_of (sym (first-only (o v)))
      go v l (holding a) (holding e) =
          ap (λ (u : ℕ). get_or (if_else (is_none (get_or blocks w None)) (set blocks w (Some r)) blocks) u None) (sym e)
          ∙ set_there blocks w r (omega arith) (is_none (get_or blocks w None))
          ∙ more-noted r (get_or blocks w None) (o v) (ap (λ (u : ℕ). get_or blocks u None) e ∙ f v l)

  -- what is noted of a name
  module _ (blocks : List (Option ℕ)) (f : BlocksNoted rows (row_count rows) blocks) (v : ℕ) (l : v < 1024) where
    pub no_block : get_or blocks v None ≡ None → block_of rows v ≡ none
    unfolding BlocksNoted block_of
    no_block e = place_none (block_of rows v) (sym e ∙ f.1 v l)

    pub its-block : (k : ℕ) → get_or blocks v None ≡ Some k → (block_of rows v ≡ some k) × FromRoot rows k
    unfolding BlocksNoted block_of
    its-block k e =
        let i = place-some (block_of rows v) k (sym e ∙ f.1 v l) in
        let w = subst (Lowest (IsBlockOf v) (row_count rows)) i (lowest-of v (row_count rows)) in
        (i, (block-from-root rows k w.1.0, w.0))
