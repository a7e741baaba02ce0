-- GIVEN: what it gives of an element, and that in an accepted table a row of it refers to one.
use mathlib.Core.Path.{◌≡◌, refl, ap, ◌∙◌, subst}
use mathlib.Core.Option.{none, some, none-ne-some}
use mathlib.Core.List.Memᴰ
use mathlib.Core.List.{List, [], ◌∷◌}
use Prim.Native.Nat.{ℕ, ◌+◌, ◌*◌, ◌<◌, ◌≤◌}
use native.Mathlib.Omega.{arith}
use native.Mathlib.Decide.{dec_lt}
use lib.IntN.{ℤ, pos}
use lib.ListN.{length, get_or, get_or-eq_default}
use Rattle.meaning.specs.declared.Node.TheVariants.{Element}
use Rattle.meaning.specs.Basics.{is_some}
use Rattle.meaning.specs.Rows.{natural_of, row_count, natural_at, kind_at}
use Rattle.meaning.specs.Kinds.{operator, unused, expression, shape, shape_of, shapes, shape_in}
use Rattle.meaning.specs.Declarations.{variable_at}
use Rattle.meaning.specs.Nodes.{node_at}
use Rattle.meaning.specs.Tree.{given, Content, operation, content_of, content_at}
use Rattle.meaning.specs.Values.{Message, given_value, truth, value, index}
use Rattle.meaning.specs.References.{of-b, IsTarget}
use Rattle.meaning.proofs.AnswerLaws.{RightRows, accepted}
use Rattle.agreement.specs.ValueClaims.{Tells, GivenExact, GivenRows}
use Rattle.agreement.proofs.VerdictStages.{whole-passes}
use Rattle.agreement.proofs.TableReferences.{few-rows, refers_to}
use Rattle.agreement.proofs.UsageRows.{node-of-kind, Fits, fits}
use Rattle.agreement.proofs.UsageParts.{part-is}

-- a cell that is set, told
set_told : (m : Message) → Tells (truth (is_some m)) ((z : ℤ) × (m ≡ some z))
set_told none = (λ h. absurd (none-ne-some h.0 h.1), λ h. refl)
set_told (some z) = (λ h. refl, λ h. absurd (h (z, refl)))

pub given-exact : GivenExact
unfolding value index
given-exact cells v e =
    record {
      inside = λ a p. rw (ap (given_value cells) p) (set_told (get_or cells a none));
      outside = λ k p. ap (given_value cells) p;
    }

module _ (rows : List ℤ) (A : RightRows rows) where
  each_fits : (r : ℕ) → r < row_count rows → Fits rows r (node_at rows r)
  each_fits = fits rows (few-rows rows A) A.1 A.2

  -- a row past the table is of no kind
  row-of-kind : (r k : ℕ) → kind_at rows r ≡ k → 0 < k → r < row_count rows
  row-of-kind r k e h = go (dec_lt r (row_count rows))
    where
      go : Dec (r < row_count rows) → r < row_count rows
      go (yes l) = l
      go (no l) =
          let past : length rows ≤ 4 * r + 0 = omega (arith, ((whole-passes rows).0 A.0).0) in
          let none-there : kind_at rows r ≡ 0 = ap natural_of (get_or-eq_default rows (pos 0) past) in
          absurd (omega arith)

  -- what stands at a row of a kind
  element-is : (t : ℕ) → t < row_count rows → kind_at rows t ≡ 11 → content_at rows t ≡ content_of rows t (content_at rows) (Element (natural_at rows t 1) (natural_at rows t 2))
  element-is t l e = part-is rows t l (each_fits t l) ∙ ap (content_of rows t (content_at rows)) (node-of-kind rows t 11 e)

  operation-is : (r : ℕ) → r < row_count rows → kind_at rows r ≡ 12 → natural_at rows r 1 ≡ 2
      → (content_at rows r).expr ≡ given (content_at rows (natural_at rows r 2)).target.name (content_at rows (natural_at rows r 2)).target.subscript
  operation-is r l e o =
      ap (λ (x : Content). x.expr) (part-is rows r l (each_fits r l) ∙ ap (content_of rows r (content_at rows)) (node-of-kind rows r 12 e))
      ∙ ap (λ (op : ℕ). operation op (content_at rows (natural_at rows r 2))) o

pub given-rows : GivenRows
unfolding shape_of shapes shape_in
given-rows rows r ok e o =
    let A = (accepted rows).0 ok in
    let t = natural_at rows r 2 in
    let l = row-of-kind rows A r 12 e (omega arith) in
    let two : natural_at rows r 1 ≡ 2 = ap natural_of o in
    let operand : IsTarget rows r (11 ∷ []) t = (subst (Fits rows r) (node-of-kind rows r 12 e) (each_fits rows A r l)).1 two in
    let c = element-is rows A t operand.1 (Memᴰ.eq_of_singleton operand.2) in
    let v = variable_at rows (natural_at rows t 1) in
    let s = (content_at rows (natural_at rows t 2)).expr in (
      t,
      refers_to rows A r 12 t (shape 12 operator expression unused) of-b l (e, omega arith, refl) tt refl operand.1,
      (v, (s, ap (λ (x : Content). x.expr) c, operation-is rows A r l e two ∙ ap (λ (x : Content). given x.target.name x.target.subscript) c)),
    )
