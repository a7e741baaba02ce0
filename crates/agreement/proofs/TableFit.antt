-- An accepted table is fit: what the proofs about orders use of it holds.
use mathlib.Core.Path.{◌≡◌, ap, subst}
use mathlib.Core.Option.{Option, none}
use mathlib.Core.List.{List}
use Prim.Native.Nat.{◌≤◌}
use lib.IntN.{ℤ}
use Rattle.meaning.specs.Rows.{row_count}
use Rattle.meaning.specs.Declarations.{root}
use Rattle.meaning.specs.Tree.{parallel, Process, action_of}
use Rattle.meaning.specs.State.{program, process_at, whole}
use Rattle.meaning.specs.Answers.{check}
use Rattle.meaning.proofs.AnswerLaws.{RightRows, accepted}
use Rattle.agreement.proofs.Fit.{Fit}
use Rattle.agreement.proofs.Separate.{processes-length}
use Rattle.agreement.proofs.TableTree.{plain}
use Rattle.agreement.proofs.TableReferences.{few-rows}
use Rattle.agreement.proofs.TableRows.{SoundO, sound-at}
use Rattle.agreement.proofs.TableStarts.{starts-at}
use Rattle.agreement.proofs.TableUsage.{clear}
use Rattle.agreement.proofs.TableApart.{apart-apt}
use Rattle.agreement.proofs.TableBlocks.{used-beneath, blocks-apart}
use Rattle.agreement.proofs.TableHosts.{source_of, sink_of, hosts-at}
pub use Rattle.agreement.proofs.TableWhole.{whole_is, inside-stands, inside-placed, whole_row}

module _ (rows : List ℤ) (A : RightRows rows) where
  pub fit-rows : Fit (program rows) (row_count rows)
  unfolding whole program
  fit-rows =
      record {
        size = processes-length rows;
        at-root = whole_row rows A;
        sound = subst (λ (o : Option Process). SoundO o (row_count rows)) (whole_is rows A) (sound-at rows A (root rows));
        plain = plain rows (program rows).root;
        placed = inside-placed rows A;
        starts = λ k r ms h. starts-at rows A r k ms (inside-stands rows A k r ms h);
        apart = apart-apt (whole (program rows)) (λ r. action_of (process_at (program rows) r)) (λ k r ms h. ap action_of (inside-placed rows A k r ms h)) (λ r ms h c. clear rows A.5 r ms (inside-stands rows A parallel r ms h) c);
        local = used-beneath rows A;
        locals-apart = blocks-apart rows A;
        source = source_of rows;
        sink = sink_of rows;
        hosts = λ k r ms h. hosts-at rows A r k ms (inside-stands rows A k r ms h);
      }

pub fit : (rows : List ℤ) → check rows ≡ none → Fit (program rows) (row_count rows)
fit rows e = fit-rows rows ((accepted rows).0 e)

-- there are at most 1,024 rows
pub rows-limit : (rows : List ℤ) → check rows ≡ none → row_count rows ≤ 1024
rows-limit rows e = few-rows rows ((accepted rows).0 e)
