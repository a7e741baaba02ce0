-- By the first of the stages 13 and 3 that finds a fault. Assumes nothing.
use mathlib.Core.Path.{◌≡◌, refl, ap, ap₂, ◌∙◌}
use mathlib.Core.List.{List}
use Prim.Native.Nat.{ℕ, ◌≤◌}
use native.Mathlib.Omega.{arith}
use lib.IntN.{ℤ}
use borrow.Author.Rules.{rules}
use Rattle.std.specs.Prelude.{Result, Ok, Err}
use Rattle.grammar.specs.TextRows.{text_rows}
use Rattle.meaning.specs.Rows.{row_count}
use Rattle.read_text.specs.Naming.{named_fault}
use Rattle.read_text.specs.declared.Refused.{Refused}
use Rattle.read_text.specs.Reading.{refused, text_read}
use Rattle.read_text.proofs.ReadingLaws.{names-wrong, too_many, is_read}
use Rattle.read_counts.proofs.ListedLaws.{spans-told, rows_told}
use Rattle.read_text.proofs.read_listed.Goals as goal

pub resolve-requires : goal.resolve-requires
resolve-requires c =
    (c.requires.0, omega (arith, c.requires.0.lines.kinds-long, c.requires.2))

pub returns-in_err-declared : goal.returns-in_err-declared
returns-in_err-declared c = go c.resolve.result refl
  where
    go : (r : Result ℕ ℕ) → c.resolve.result ≡ r → ◌≡◌ {A = Result ℕ Refused × List ℤ} (c.from_residual.result, c.args.rows.now) (text_read c.args.text.now c.args.rows.now)
    go (Ok n) e = let k : c.map_err.result ≡ Ok n = rw e at c.map_err.ensures.cases in let v = c.in_err-declared.was in absurd cc
    go (Err l) e = let f : c.from_residual.result ≡ refused 13 l = search rules in rw f (names-wrong c.args.text.now c.args.rows.now c.requires.3 c.requires.0.of-grammar l (c.resolve.ensures.place ∙ ap named_fault e))

pub count_rows-made-requires : goal.count_rows-made-requires
count_rows-made-requires c = spans-told c.requires.0.lines

pub returns-then-made-gt1024 : goal.returns-then-made-gt1024
returns-then-made-gt1024 c =
    let text = c.args.text.now in
    let found = c.resolve.ensures in
    let ok : c.resolve.result ≡ Ok c.in_ok-declared.declared = search rules in
    let made = rows_told text c.requires.0.of-grammar (found.resolved c.in_ok-declared.declared ok).1.lines in
    too_many text c.args.rows.now c.requires.3 c.requires.0.of-grammar (found.place ∙ ap named_fault ok) (omega (arith, c.if-made-gt1024.true, c.count_rows-made.ensures, made))

pub write_rows-requires : goal.write_rows-requires
write_rows-requires c =
    let text = c.args.text.now in
    let found = c.resolve.ensures in
    let ok : c.resolve.result ≡ Ok c.in_ok-declared.declared = search rules in
    let is = found.resolved c.in_ok-declared.declared ok in
    let made = rows_told text c.requires.0.of-grammar is.1.lines in
    ((text, record { resolved = is.1; levelled = c.requires.1; few = omega (arith, c.if-made-gt1024.false, c.count_rows-made.ensures, made); counted = is.0 }), search rules)

pub returns : goal.returns
returns c =
    let text = c.args.text.now in
    let found = c.resolve.ensures in
    let ok : c.resolve.result ≡ Ok c.in_ok-declared.declared = search rules in
    let is = found.resolved c.in_ok-declared.declared ok in
    let counted = c.count_rows-made.ensures ∙ rows_told text c.requires.0.of-grammar is.1.lines in
    let few : row_count (text_rows text) ≤ 1024 = omega (arith, c.if-made-gt1024.false, counted) in
    ap₂ {C = Result ℕ Refused × List ℤ} (λ (n : ℕ) (l : List ℤ). (Ok n, l)) counted (c.write_rows.ensures text (record { resolved = is.1; levelled = c.requires.1; few = few; counted = is.0 }))
    ∙ is_read text c.args.rows.now c.requires.3 c.requires.0.of-grammar (found.place ∙ ap named_fault ok) few
