-- The rows of a token, case by case.
use mathlib.Core.Path.{◌≡◌, sym, ap, ap₂, ◌∙◌}
use mathlib.Core.Bool.{Bool, true, false}
use mathlib.Core.List.{List, ◌++◌, append_assoc}
use Prim.Native.Nat.{ℕ, ◌+◌, ◌-◌, ◌*◌, ◌≤◌}
use native.Mathlib.Omega.{arith}
use lib.IntN.{ℤ, pos}
use lib.ListN.{length, take, drop}
use lib.Seq.{take-length}
use borrow.Rule.Slice.PartMut.{put_mid}
use Rattle.std.proofs.lemmas.Slice.{put_mid-paste}
use Rattle.read_expressions.specs.Overlay.{overlay}
use Rattle.read_expressions.specs.TokenRows.{fields, name_rows, name_size}
use Rattle.read_expressions.proofs.OverlayLaws.{overlay-after}

-- four numbers copied over a part
pub row-copied : (rows : List ℤ) (p : ℕ) (ws vs : List ℤ) → ws ≡ vs → length vs ≡ 4 → put_mid p (p + 4 - p) rows ws ≡ overlay rows p vs
unfolding overlay
row-copied rows p ws vs is e =
    put_mid-paste p (p + 4 - p) rows ws vs 4 is (omega arith) (sym e)
    ∙ ap₂ (λ (xs : List ℤ) (k : ℕ). take p rows ++ xs ++ drop (p + k) rows) (ap (λ (k : ℕ). take k vs) (sym e) ∙ take-length vs) (sym e)
    ∙ append_assoc (take p rows) vs (drop (p + length vs) rows)

-- a name has at least one row
pub name-size : (b : Bool) → 1 ≤ name_size b
name-size true = omega arith
name-size false = omega arith

-- a bare name's two rows
pub named-alone : (rows laid out : List ℤ) (n : ℕ) (r : ℤ) → 4 * (n + 2) ≤ length rows → laid ≡ overlay rows (4 * n) (name_rows r n true) → out ≡ overlay laid (4 * (n + 1)) (fields 10 (pos 0) (pos 0) (pos 0))
    → out ≡ overlay rows (4 * n) (name_rows r n false)
named-alone rows laid out n r h e f =
    let i : 4 * (n + 1) ≡ 4 * n + 4 = omega arith in
    f ∙ ap₂ (λ (l : List ℤ) (p : ℕ). overlay l p (fields 10 (pos 0) (pos 0) (pos 0))) e i ∙ overlay-after rows (4 * n) (name_rows r n true) (fields 10 (pos 0) (pos 0) (pos 0)) (omega (arith, h))
