-- A row whose action is an output is one by its kind, and where its strip begins is prepared.
use mathlib.Core.Path.{◌≡◌, sym, ap, ◌∙◌}
use mathlib.Core.Bool.{true}
use mathlib.Core.List.{List}
use Prim.Native.Nat.{ℕ, ◌<◌, ◌≤◌}
use native.Mathlib.Omega.{arith}
use lib.IntN.{ℤ}
use lib.Dec.{eqb}
use borrow.Author.Tests.{eqb-true}
use Rattle.meaning.specs.declared.Node.{Node}
use Rattle.meaning.specs.Rows.{row_count, natural_at, kind_at}
use Rattle.meaning.specs.Nodes.{node_at}
use Rattle.meaning.specs.Declarations.{Channel, sink_at}
use Rattle.meaning.specs.Tree.{Expr, output, Content, content_of, or_stop, action_of}
use Rattle.meaning.specs.State.{program, process_at}
use Rattle.meaning.specs.ContentClaims.{higher_content}
use Rattle.agreement.proofs.TableTree.{part_at, process-is}
use Rattle.agreement.proofs.TableReferences.{if-else}
use Rattle.machine.specs.Held.{strip_start}
use Rattle.run_code.specs.declared.Row.{Row}
use Rattle.run_code.specs.Prepared.{strip_of, Prepared, strip_at}
use Rattle.run_code.proofs.Entries.{what-at}
use Rattle.run_code.proofs.RowKinds.{row-of-kind, kind-in}
use Rattle.run_code.proofs.Codes.{few, output-strip}

module _ (rows : List ℤ) (r : ℕ) where
  module _ (at : ℕ → Content) where
    abbrev Tells : Node → Type 0
    Tells k = (c : Channel) (e f : Expr) → action_of (or_stop (content_of rows r at k).process) ≡ output c e f → (kind_at rows r ≡ 24) × (c ≡ sink_at rows (natural_at rows r 1))

    tells : Tells (node_at rows r)
    unfolding node_at
    tells =
        if-else Tells (eqb (kind_at rows r) 10) (λ q c e f g. let y : ◌≡◌ {A = ℕ} 0 1 = cc in absurd (omega arith))
        (if-else Tells (eqb (kind_at rows r) 11) (λ q c e f g. let y : ◌≡◌ {A = ℕ} 0 1 = cc in absurd (omega arith))
        (if-else Tells (eqb (kind_at rows r) 12) (λ q c e f g. let y : ◌≡◌ {A = ℕ} 0 1 = cc in absurd (omega arith))
        (if-else Tells (eqb (kind_at rows r) 13) (λ q c e f g. let y : ◌≡◌ {A = ℕ} 0 1 = cc in absurd (omega arith))
        (if-else Tells (eqb (kind_at rows r) 20) (λ q c e f g. let y : ◌≡◌ {A = ℕ} 0 1 = cc in absurd (omega arith))
        (if-else Tells (eqb (kind_at rows r) 21) (λ q c e f g. let y : ◌≡◌ {A = ℕ} 0 1 = cc in absurd (omega arith))
        (if-else Tells (eqb (kind_at rows r) 22) (λ q c e f g. let y : ◌≡◌ {A = ℕ} 0 1 = cc in absurd (omega arith))
        (if-else Tells (eqb (kind_at rows r) 23) (λ q c e f g. let y : ◌≡◌ {A = ℕ} 0 1 = cc in absurd (omega arith))
        (if-else Tells (eqb (kind_at rows r) 24) (λ q c e f g. (eqb-true (kind_at rows r) 24 q, cc))
        (if-else Tells (eqb (kind_at rows r) 30) (λ q c e f g. let y : ◌≡◌ {A = ℕ} 0 1 = cc in absurd (omega arith))
        (if-else Tells (eqb (kind_at rows r) 31) (λ q c e f g. let y : ◌≡◌ {A = ℕ} 0 1 = cc in absurd (omega arith))
        (if-else Tells (eqb (kind_at rows r) 32) (λ q c e f g. let y : ◌≡◌ {A = ℕ} 0 1 = cc in absurd (omega arith))
        (if-else Tells (eqb (kind_at rows r) 33) (λ q c e f g. let y : ◌≡◌ {A = ℕ} 0 1 = cc in absurd (omega arith))
        (if-else Tells (eqb (kind_at rows r) 34) (λ q c e f g. let y : ◌≡◌ {A = ℕ} 0 1 = cc in absurd (omega arith))
        (if-else Tells (eqb (kind_at rows r) 35) (λ q c e f g. let y : ◌≡◌ {A = ℕ} 0 1 = cc in absurd (omega arith))
        (if-else Tells (eqb (kind_at rows r) 40) (λ q c e f g. let y : ◌≡◌ {A = ℕ} 0 1 = cc in absurd (omega arith))
        (if-else Tells (eqb (kind_at rows r) 41) (λ q c e f g. let y : ◌≡◌ {A = ℕ} 0 1 = cc in absurd (omega arith))
        (if-else Tells (eqb (kind_at rows r) 42) (λ q c e f g. let y : ◌≡◌ {A = ℕ} 0 1 = cc in absurd (omega arith))
        (if-else Tells (eqb (kind_at rows r) 43) (λ q c e f g. let y : ◌≡◌ {A = ℕ} 0 1 = cc in absurd (omega arith))
        (λ c e f g. let y : ◌≡◌ {A = ℕ} 0 1 = cc in absurd (omega arith))))))))))))))))))))

  -- where the strip of its channel begins
  pub strip-is : {code : List ℕ} → Prepared rows code → r < row_count rows → (c : Channel) (e f : Expr) → action_of (process_at (program rows) r) ≡ output c e f → c.host ≡ true → strip_at code r ≡ strip_start rows c.number
  unfolding strip_of
  strip-is p l c e f g t =
      let q : action_of (or_stop (content_of rows r (higher_content rows r) (node_at rows r)).process) ≡ output c e f =
      sym (ap action_of (process-is rows r ∙ ap (λ (d : Content). or_stop d.process) (part_at rows r l))) ∙ g in
      let (k, u) = tells (higher_content rows r) c e f q in
      let h : r ≤ 1024 = omega (arith, few p) in
      output-strip p r h (what-at p r h ∙ ap (λ (w : Row). w.what) (row-of-kind rows r 24 (kind-in rows r 24 l k))) ∙ rw (← u, t)
