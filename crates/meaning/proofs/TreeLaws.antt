-- The stage 5 answers with the lowest place that is not right.
use mathlib.Core.Path.{◌≡◌, refl, sym, ◌∙◌, subst}
use mathlib.Core.Bool.{Bool, not}
use mathlib.Core.List.{List}
use mathlib.Core.Option.{Option, none, some, none-ne-some, some-injective}
use Prim.Native.Nat.{ℕ, suc}
use lib.IntN.{ℤ, pos, negsuc, pos-ne-negsuc}
use lib.Dec.{eqb}
use Rattle.meaning.specs.Rows.{row_count, field_at, kind_at}
use Rattle.meaning.specs.Basics.{if_else, lowest}
use Rattle.meaning.proofs.Decides.{Decides, holding, failing, decides-iff, decides_and, decides_or, decides-lt, decides-le, decides_eq, decides-eq_z, pos-injective, Faults, faults-not, faults-is, faults-or, faults-if, faults-iff, lowest-wrong}
use Rattle.meaning.specs.Kinds.{Field, unused, literal_value, within, elements, capacity, operator, variable, channel, reference, link, Shape, shape_of, processes}
use Rattle.meaning.specs.Declarations.{declarations}
use Rattle.meaning.specs.Verdict.{refers, leads, targets_below, occurrences, leads_by, not_referred_once, row_fault_at, tree_fault_at, tree_fault}
use Rattle.meaning.proofs.ReferenceCounts.{decides-among, decides-target, Never, count-all, never-zero, once-one}
use Rattle.meaning.specs.References.{IsOf, IsTarget, Column, of-a, of-b, of_c, field_of, number_of, Refers}
use Rattle.meaning.specs.Faults.{Leads, Once, Placed, WellPlaced}
use Rattle.meaning.specs.StageClaims.{TreeStage}

-- References --------------------------------------------------------------------------------------------------------------------

decides-refers : (rows : List ℤ) (r : ℕ) (kinds : List ℕ) (z : ℤ) → Decides ((t : ℕ) × (z ≡ pos t) × IsTarget rows r kinds t) (refers rows r kinds z)
decides-refers rows r kinds (pos t) =
    decides-iff (λ h. (t, refl, h)) (λ h. subst (IsTarget rows r kinds) (sym (pos-injective h.1)) h.2) (decides-target rows r kinds t)
decides-refers rows r kinds (negsuc i) = failing (λ h. pos-ne-negsuc h.0 i (sym h.1))

decides-leads : (rows : List ℤ) (r : ℕ) (f : Field) (z : ℤ) → Decides (Leads rows r f z) (leads rows r f z)
unfolding Leads leads
decides-leads rows r unused z = holding tt
decides-leads rows r literal_value z = holding tt
decides-leads rows r (within lo hi) z = holding tt
decides-leads rows r elements z = holding tt
decides-leads rows r capacity z = holding tt
decides-leads rows r operator z = holding tt
decides-leads rows r variable z = holding tt
decides-leads rows r (channel roles) z = holding tt
decides-leads rows r (reference kinds) z = decides-refers rows r kinds z
decides-leads rows r (link kinds) z = decides_or (decides-eq_z z (negsuc 0)) (decides-refers rows r kinds z)

decides-leads_by : (rows : List ℤ) (r : ℕ) (o : Option Shape) → shape_of (kind_at rows r) ≡ o
    → Decides ((s : Shape) → IsOf rows r s → (p : Column) → Leads rows r (field_of s p) (number_of rows r p)) (leads_by rows r o)
decides-leads_by rows r none e = holding (λ s h p. absurd (none-ne-some s (sym e ∙ h)))
decides-leads_by rows r (some s) e =
    decides-iff
    (λ h t i p. subst (λ (u : Shape). Leads rows r (field_of u p) (number_of rows r p)) (some-injective s t (sym e ∙ i)) (each h p))
    (λ h. ((h s e of-a, h s e of-b), h s e of_c))
    (decides_and (decides_and (decides-leads rows r s.a (field_at rows r 1)) (decides-leads rows r s.b (field_at rows r 2))) (decides-leads rows r s.c (field_at rows r 3)))
  where
    each : ((Leads rows r s.a (field_at rows r 1) × Leads rows r s.b (field_at rows r 2)) × Leads rows r s.c (field_at rows r 3)) → (p : Column) → Leads rows r (field_of s p) (number_of rows r p)
    each h of-a = h.0.0
    each h of-b = h.0.1
    each h of_c = h.1

-- The stage ---------------------------------------------------------------------------------------------------------------------

counted : (rows : List ℤ) (r : ℕ) → Faults (((r ≡ declarations rows) → (q : ℕ) (o : Column) → ¬ Refers rows q o r) × (¬ (r ≡ declarations rows) → Once rows r)) (not_referred_once (targets_below rows (row_count rows)) (declarations rows) r)
unfolding Never
counted rows r = go (decides_eq r (declarations rows))
  where
    c : ℕ
    c = occurrences r (targets_below rows (row_count rows))

    go : {b : Bool} → Decides (r ≡ declarations rows) b → Faults (((r ≡ declarations rows) → (q : ℕ) (o : Column) → ¬ Refers rows q o r) × (¬ (r ≡ declarations rows) → Once rows r)) (not (eqb c (if_else b 0 1)))
    go (holding e) =
        faults-iff
        (λ z. (λ i. (never-zero rows r (count-all rows r)).0 z, λ n. absurd (n e)))
        (λ h. (never-zero rows r (count-all rows r)).1 (h.0 e))
        (faults-not (decides_eq c 0))
    go (failing n) =
        faults-iff
        (λ z. (λ i. absurd (n i), λ i. (once-one rows r (count-all rows r)).0 z))
        (λ h. (once-one rows r (count-all rows r)).1 (h.1 n))
        (faults-not (decides_eq c 1))

placed : (rows : List ℤ) (r : ℕ) → Faults (Placed rows r) (row_fault_at rows (declarations rows) (targets_below rows (row_count rows)) r)
unfolding Placed
placed rows r =
    faults-iff (λ h. (h.0.0, h.0.1, h.1.0, h.1.1)) (λ h. ((h.0, h.1), (h.2, h.3)))
    (faults-or
    (faults-or
    (faults-not (decides-leads_by rows r (shape_of (kind_at rows r)) refl))
    (faults-if (decides_eq r (declarations rows)) (faults-not (decides-among (kind_at rows r) processes))))
    (counted rows r))

pub well-placed : (rows : List ℤ) (r : ℕ) → Faults (WellPlaced rows r) (tree_fault_at rows (declarations rows) (targets_below rows (row_count rows)) r)
unfolding WellPlaced
well-placed rows r =
    faults-or
    (faults-if (decides_eq r (row_count rows)) (faults-is (decides_eq (declarations rows) r)))
    (faults-if (decides_and (decides-le (declarations rows) r) (decides-lt r (row_count rows))) (placed rows r))

pub tree-stage : TreeStage
unfolding TreeStage tree_fault
tree-stage rows = (
  lowest (tree_fault_at rows (declarations rows) (targets_below rows (row_count rows))) (suc (row_count rows)),
  refl,
  lowest-wrong (WellPlaced rows) (tree_fault_at rows (declarations rows) (targets_below rows (row_count rows))) (well-placed rows) (suc (row_count rows)),
)
