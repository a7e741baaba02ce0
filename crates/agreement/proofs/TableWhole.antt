-- The whole process of an accepted table: it stands at the root, a process inside it at its own row, and its rows are process rows that are not of guards.
use mathlib.Core.Path.{◌≡◌, refl, sym, ap, subst, ◌∙◌}
use mathlib.Core.Logic.{◌⊎◌, ⊎_elim}
use mathlib.Core.Option.{some, some-injective}
use mathlib.Core.List.Memᴰ
use mathlib.Core.List.{List, Memᴰ}
use Prim.Native.Nat.{ℕ, ◌<◌}
use native.Mathlib.Omega.{arith}
use lib.IntN.{ℤ}
use Rattle.meaning.specs.Rows.{row_count}
use Rattle.meaning.specs.Declarations.{declarations, root}
use Rattle.meaning.specs.References.{of-b, of_c}
use Rattle.meaning.specs.Faults.{Placed}
use Rattle.meaning.specs.Tree.{Action, Process, node, Processes, content_at, or_stop, row_of, processes_in, rows_in, rows_beneath}
use Rattle.meaning.specs.State.{program, process_at, whole}
use Rattle.meaning.proofs.AnswerLaws.{RightRows}
use Rattle.agreement.specs.TreeClaims.{IsProcess, OfGuard, of-option, of_guard}
use Rattle.agreement.proofs.Reach.{Sub, sub_in}
use Rattle.agreement.proofs.TableTree.{SubO, process-is, stands}
use Rattle.agreement.proofs.TableReferences.{placed_at}
use Rattle.agreement.proofs.TableStarts.{root_below, root-process}
use Rattle.agreement.proofs.TreeBeneath.{process-in, beneath-rows}

module _ (rows : List ℤ) (A : RightRows rows) where
  -- the whole process is that of the root
  pub whole_is : (content_at rows (root rows)).process ≡ some (whole (program rows))
  unfolding whole program
  whole_is = let (k, ms, e) = root-process rows A in e ∙ ap some (sym (process-is rows (root rows) ∙ ap or_stop e))

  -- a process inside it is what stands at its row
  pub inside-stands : (k : Action) (r : ℕ) (ms : Processes) → Sub k r ms (whole (program rows)) → (content_at rows r).process ≡ some (node k r ms)
  inside-stands k r ms h = stands rows (root rows) k r ms (subst (SubO k r ms) (sym whole_is) h)

  pub inside-placed : (k : Action) (r : ℕ) (ms : Processes) → Sub k r ms (whole (program rows)) → process_at (program rows) r ≡ node k r ms
  inside-placed k r ms h = process-is rows r ∙ ap or_stop (inside-stands k r ms h)

  -- it stands at the root
  pub whole_row : row_of (whole (program rows)) ≡ root rows
  whole_row = let (k, ms, e) = root-process rows A in ap row_of (some-injective (whole (program rows)) (node k (root rows) ms) (sym whole_is ∙ e))

  -- the root is a process, and no row of a guard
  pub root-kind : IsProcess rows (declarations rows)
  unfolding Placed
  root-kind = (placed_at rows A (declarations rows) (omega arith) (root_below rows A)).1 refl

  unreferred : ¬ OfGuard rows (declarations rows)
  unfolding Placed
  unreferred (of-option q f h) = (placed_at rows A (declarations rows) (omega arith) (root_below rows A)).2 refl q of_c h
  unreferred (of_guard q f h) = (placed_at rows A (declarations rows) (omega arith) (root_below rows A)).2 refl q of-b h

  rows_are : (b : ℕ) (p : Process) → Memᴰ b (rows_in p) → (b ≡ row_of p) ⊎ Memᴰ b (rows_beneath (processes_in p))
  rows_are b (node k r ms) m = Memᴰ.cases_cons m

  -- a row of the whole process is a process of the table, and no row of a guard
  abbrev pub TreeRow : ℕ → Type 0
  TreeRow b = (b < row_count rows) × IsProcess rows b × (¬ OfGuard rows b)

  pub tree-row : (b : ℕ) → Memᴰ b (rows_in (whole (program rows))) → TreeRow b
  unfolding whole program root
  tree-row b m =
      let (l, i) = process-in rows A (declarations rows) b (whole (program rows)) whole_is m in (
        l,
        i,
        ⊎_elim (λ f. subst (λ (x : ℕ). ¬ OfGuard rows x) (sym (f ∙ whole_row)) unreferred)
            (λ j. ((beneath-rows rows A (declarations rows) (root_below rows A) root-kind b).0 j).2) (rows_are b (whole (program rows)) m),
      )

  pub inside-row : (k : Action) (r : ℕ) (ms : Processes) → Sub k r ms (whole (program rows)) → TreeRow r
  inside-row k r ms h = tree-row r (sub_in (whole (program rows)) h)
