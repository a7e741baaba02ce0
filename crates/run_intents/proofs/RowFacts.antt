-- What the numbers of a prepared row tell beside what `run_code` says: a channel's number is one of the host channels, and a guard's row refers to a SKIP or an input.
use mathlib.Core.Path.{◌≡◌, refl, ap, ◌∙◌}
use mathlib.Core.Bool.{Bool, true, false}
use mathlib.Core.List.{List, [], ◌∷◌, Memᴰ}
use Prim.Native.Nat.{ℕ, suc, ◌<◌, ◌≤◌}
use native.Mathlib.Omega.{arith}
use lib.IntN.{ℤ}
use Rattle.meaning.specs.Basics.{if_else}
use Rattle.meaning.specs.Rows.{row_count, natural_of, natural_at, kind_at}
use Rattle.meaning.specs.Declarations.{Channel, source_at, sink_at}
use Rattle.meaning.specs.Kinds.{unused, reference, shape, shape_of, shape_in, shapes, expression}
use Rattle.meaning.specs.References.{of-b}
use Rattle.meaning.specs.Faults.{Leads}
use Rattle.meaning.proofs.AnswerLaws.{accepted}
use Rattle.agreement.proofs.TableReferences.{leads-at}
use Rattle.machine.proofs.Declared.{source-below, sink-below, room}
use Rattle.run_code.specs.declared.Row.{Row}
use Rattle.run_code.specs.Prepared.{host_note, row_of_kind, Prepared, place_at}
use Rattle.run_code.proofs.Entries.{what-at}
use Rattle.run_code.proofs.Referred.{referred-is}
use Rattle.run_code.proofs.RowKinds.{row-of-kind, kind-in}
use Rattle.run_code.proofs.Codes.{here, kind-is, second_is, input-host, output-host}

note-few : (c : Channel) → (c.host ≡ true → c.number < 8) → host_note c ≤ 8
note-few c f = go c.host f
  where
    go : (t : Bool) → (t ≡ true → c.number < 8) → if_else t (suc c.number) 0 ≤ 8
    go true f = omega (arith, f refl)
    go false f = omega arith

module _ {rows : List ℤ} {code : List ℕ} (p : Prepared rows code) (r : ℕ) (h : r ≤ 1024) where
  -- a kind tells what a row is
  pub what-here : (k : ℕ) → r < row_count rows → kind_at rows r ≡ k → place_at code r 0 ≡ (row_of_kind rows r k).what
  what-here k l e = what-at p r h ∙ ap (λ (w : Row). w.what) (row-of-kind rows r k (kind-in rows r k l e))

  pub input-few : place_at code r 0 ≡ 23 → {k n : ℕ} → k ≡ place_at code r 1 → n ≡ place_at code k 3 → n ≤ 8
  input-few e j q = rw (q ∙ ap (λ (k : ℕ). place_at code k 3) j ∙ input-host p r h e) (note-few (source_at rows (natural_at rows r 1)) (λ i. let b = source-below rows (natural_at rows r 1) i in omega (arith, (room rows p.accepted).places)))

  pub output-few : place_at code r 0 ≡ 24 → {k n : ℕ} → k ≡ place_at code r 1 → n ≡ place_at code k 3 → n ≤ 8
  output-few e j q = rw (q ∙ ap (λ (k : ℕ). place_at code k 3) j ∙ output-host p r h e) (note-few (sink_at rows (natural_at rows r 1)) (λ i. let b = sink-below rows (natural_at rows r 1) i in omega (arith, (room rows p.accepted).outputs)))

  pub guard-input : place_at code r 0 ≡ 43 → (place_at code r 2 < row_count rows) × Memᴰ (kind_at rows (place_at code r 2)) (21 ∷ 23 ∷ [])
  unfolding shape_of shapes shape_in Leads
  guard-input e =
      let l = here p r h 43 e (λ z. omega arith) in
      let k = kind-is p r h 43 e (λ z. omega arith) in
      let (t, z, m) = leads-at rows ((accepted rows).0 p.accepted) r 43 (shape 43 expression (reference (21 ∷ 23 ∷ [])) unused) l (k, omega arith, refl) of-b in
      rw (second_is p r h 43 e (λ z. omega arith) ∙ referred-is rows r 2 t (ap natural_of z) m.0 m.1) (m.1, m.2)
