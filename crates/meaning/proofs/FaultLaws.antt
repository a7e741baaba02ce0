-- The stages 4 and 6 answer with the lowest row that is not right.
use mathlib.Core.Path.{◌≡◌, refl, sym, ◌∙◌, subst}
use mathlib.Core.Bool.{Bool, not}
use mathlib.Core.List.{List, Memᴰ}
use mathlib.Core.Option.{Option, none, some, none-ne-some, some-injective}
use Prim.Native.Nat.{ℕ, suc, ◌≤◌, ◌<◌}
use native.Mathlib.Omega.{arith}
use lib.IntN.{ℤ, pos, negsuc, pos-ne-negsuc}
use lib.Dec.{eqb}
use Rattle.meaning.specs.Limits.{max_cells, max_elements, max_host_channels, max_capacity, min_number, max_number}
use Rattle.meaning.specs.Rows.{row_count, field_at, natural_at, kind_at}
use Rattle.meaning.specs.Declarations.{declarations, sum_below, has_role, cells_at, elements_at, host_channels_at, capacity_at}
use Rattle.meaning.specs.Basics.{any_passes, lowest}
use Rattle.meaning.proofs.Decides.{Decides, holding, failing, decides-iff, decides_and, decides_not, decides_or, decides-lt, decides-le, decides_eq, decides-eq_z, decides-inside, decides-any, pos-injective, Faults, right, wrong, faults-not, faults-or, faults-if, faults-iff, faults-over, lowest-wrong}
use Rattle.meaning.specs.Kinds.{Field, unused, literal_value, within, elements, capacity, operator, variable, channel, reference, link, Shape, shape_of}
use Rattle.meaning.specs.Verdict.{names, may_hold, fits, form_fault_at, form_fault, over_limit, limit_fault}
use Rattle.meaning.specs.References.{IsOf}
use Rattle.meaning.specs.Faults.{MayHold, WellFormed, WithinLimits}
use Rattle.meaning.specs.StageClaims.{FormStage, LimitStage}

-- 6 ---------------------------------------------------------------------------------------------------------------------------

pub within-limits : (rows : List ℤ) (r : ℕ) → Faults (WithinLimits rows r) (over_limit rows r)
unfolding WithinLimits
within-limits rows r =
    faults-iff (λ p. (p.0.0.0.0, p.0.0.0.1, p.0.0.1, p.0.1, p.1)) (λ p. ((((p.0, p.1), p.2), p.3), p.4))
    (faults-or (faults-or (faults-or (faults-or
    (faults-over max_cells (sum_below (cells_at rows) (suc r)))
    (faults-over max_elements (sum_below (elements_at rows) (suc r))))
    (faults-over max_host_channels (sum_below (host_channels_at 1 rows) (suc r))))
    (faults-over max_host_channels (sum_below (host_channels_at 2 rows) (suc r))))
    (faults-over max_capacity (sum_below (capacity_at rows) (suc r))))

pub limit-stage : LimitStage
unfolding LimitStage limit_fault
limit-stage rows =
    (lowest (over_limit rows) (declarations rows), refl, lowest-wrong (WithinLimits rows) (over_limit rows) (within-limits rows) (declarations rows))

-- 4 ---------------------------------------------------------------------------------------------------------------------------

-- one of the first d rows, of which a test decides a statement
decides-name : (d : ℕ) (P : ℕ → Type 0) (p : ℕ → Bool) → ((r : ℕ) → Decides (P r) (p r)) → (z : ℤ) → Decides ((r : ℕ) × ((z ≡ pos r) × (r < d) × P r)) (names d p z)
decides-name d P p f (pos r) =
    decides-iff
    (λ h. (r, (refl, h.0, h.1)))
    (λ h. let e = sym (pos-injective h.1.0) in (subst (λ (q : ℕ). q < d) e h.1.1, subst P e h.1.2))
    (decides_and (decides-lt r d) (f r))
decides-name d P p f (negsuc r) = failing (λ h. pos-ne-negsuc h.0 r (sym h.1.0))

-- what a field may hold
decides-holds : (rows : List ℤ) (r : ℕ) (f : Field) (z : ℤ) → Decides (MayHold rows r f z) (may_hold rows (declarations rows) r f z)
unfolding MayHold may_hold
decides-holds rows r unused z = decides-eq_z z (pos 0)
decides-holds rows r literal_value z = decides-inside min_number max_number z
decides-holds rows r (within lo hi) z = decides-inside lo hi z
decides-holds rows r elements z = decides_and (decides-inside (pos 1) (pos 64) z) (decides_or (decides-eq_z (field_at rows r 2) (pos 0)) (decides-eq_z z (pos 1)))
decides-holds rows r capacity z = decides_and (decides-inside (pos 0) (pos 256) z) (decides_or (decides-eq_z (field_at rows r 2) (pos 2)) (decides-eq_z z (pos 0)))
decides-holds rows r operator z =
    decides_and (decides-inside (pos 0) (pos 2) z) (decides_not (decides_and (decides-eq_z z (pos 2)) (decides-name (row_count rows)
    (λ t. ¬ (kind_at rows t ≡ 11)) (λ t. not (eqb (kind_at rows t) 11)) (λ t. decides_not (decides_eq (kind_at rows t) 11)) (field_at rows r 2))))
decides-holds rows r variable z = decides-name (declarations rows) (λ q. kind_at rows q ≡ 1) (λ q. eqb (kind_at rows q) 1) (λ q. decides_eq (kind_at rows q) 1) z
decides-holds rows r (channel roles) z =
    decides-iff
    (λ h. (h.0, (h.1.0, h.1.1, h.1.2.2.0.1), (h.1.2.0, h.1.2.1, h.1.2.2.1)))
    (λ h. (h.0, (h.1.0, h.1.1, (h.2.0, h.2.1, ((h.1.1, h.1.2), h.2.2)))))
    (decides-name (declarations rows) (λ q. (role : ℕ) × Memᴰ role roles × Of q role) (λ q. any_passes (λ role. has_role role rows q) roles) (λ q. decides-any (Of q) (λ role. has_role role rows q) (of q) roles) z)
  where
    Of : ℕ → ℕ → Type 0
    Of q role = ((q < declarations rows) × (kind_at rows q ≡ 2)) × (natural_at rows q 2 ≡ role)

    of : (q role : ℕ) → Decides (Of q role) (has_role role rows q)
    of q role = decides_and (decides_and (decides-lt q (declarations rows)) (decides_eq (kind_at rows q) 2)) (decides_eq (natural_at rows q 2) role)
decides-holds rows r (reference kinds) z = holding tt
decides-holds rows r (link kinds) z = holding tt

-- a row has the shape of its kind
decides-fits : (rows : List ℤ) (r : ℕ) (o : Option Shape) → shape_of (kind_at rows r) ≡ o
    → Decides ((s : Shape) × IsOf rows r s × MayHold rows r s.a (field_at rows r 1) × MayHold rows r s.b (field_at rows r 2) × MayHold rows r s.c (field_at rows r 3)) (fits rows (declarations rows) r o)
decides-fits rows r none e = failing (λ h. none-ne-some h.0 (sym e ∙ h.1))
decides-fits rows r (some s) e =
    decides-iff
    (λ h. (s, e, h.0.0, h.0.1, h.1))
    (λ h. subst (λ (t : Shape). (MayHold rows r t.a (field_at rows r 1) × MayHold rows r t.b (field_at rows r 2)) × MayHold rows r t.c (field_at rows r 3))
    (some-injective h.0 s (sym h.1 ∙ e)) ((h.2, h.3), h.4))
    (decides_and (decides_and (decides-holds rows r s.a (field_at rows r 1)) (decides-holds rows r s.b (field_at rows r 2))) (decides-holds rows r s.c (field_at rows r 3)))

-- a row of a well-formed table: field a holds what its shape says
pub holds-a : (rows : List ℤ) (r : ℕ) (s : Shape) → WellFormed rows r → IsOf rows r s → MayHold rows r s.a (field_at rows r 1)
unfolding WellFormed
holds-a rows r s w h = let f = w.1 in subst (λ (u : Shape). MayHold rows r u.a (field_at rows r 1)) (some-injective f.0 s (sym f.1 ∙ h)) f.2

pub well-formed : (rows : List ℤ) (r : ℕ) → Faults (WellFormed rows r) (form_fault_at rows (declarations rows) r)
unfolding WellFormed
well-formed rows r =
    faults-or
    (faults-if (decides_or (decides_eq (kind_at rows r) 1) (decides_eq (kind_at rows r) 2)) (late (decides-le (declarations rows) r)))
    (faults-not (decides-fits rows r (shape_of (kind_at rows r)) refl))
  where
    late : {t : Bool} → Decides (declarations rows ≤ r) t → Faults (r < declarations rows) t
    late (holding h) = wrong (λ l. omega arith)
    late (failing h) = right (omega arith)

pub form-stage : FormStage
unfolding FormStage form_fault
form-stage rows =
    (lowest (form_fault_at rows (declarations rows)) (row_count rows), refl, lowest-wrong (WellFormed rows) (form_fault_at rows (declarations rows)) (well-formed rows) (row_count rows))
