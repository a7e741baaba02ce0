-- By where the spaces end, and by the token of the bytes that are looked at. Assumes nothing.
use mathlib.Core.Path.{◌≡◌, sym, ap, ◌∙◌}
use mathlib.Core.List.{List}
use Prim.Native.Nat.{ℕ, ◌+◌}
use native.Mathlib.Omega.{arith}
use lib.ListN.{take, drop}
use lib.Seq.{length-take-le}
use Rattle.read_tokens.specs.Chunks.{chunk_size}
use Rattle.read_scan.specs.Nexts.{reach_from}
use Rattle.read_scan.proofs.NextSteps.{reach-within, to-within, next-past-end, next-none, next-there}
use Rattle.read_scan.proofs.next_token.Goals as goal

-- where the chunk ends, by where it is looked for
looked-for : (line : List ℕ) (from end to : ℕ) → end ≡ reach_from line from → to ≡ from + chunk_size (drop from (take end line)) → to ≡ from + chunk_size (drop from (take (reach_from line from) line))
looked-for line from end to e h = h ∙ ap (λ (n : ℕ). from + chunk_size (drop from (take n line))) e

pub returns-then-line-from : goal.returns-then-line-from
returns-then-line-from c =
    let a = c.args in
    c.none_at.ensures ∙ next-past-end a.line.now a.at c.blank_end-from.result c.blank_end-from.ensures c.if-line-from.true

pub slice_bounds-chunk_end-end : goal.slice_bounds-chunk_end-end
slice_bounds-chunk_end-end c =
    let a = c.args in
    let w = reach-within a.line.now c.blank_end-from.result c.if-line-from.false in
    sym (length-take-le c.reach-end.result a.line.now (omega (arith, w, c.reach-end.ensures)))

pub slice_bounds-token_of-end : goal.slice_bounds-token_of-end
slice_bounds-token_of-end c =
    let line = c.args.line.now in
    let from = c.blank_end-from.result in
    (to-within line from c.chunk_end-to.result c.if-line-from.false (looked-for line from c.reach-end.result c.chunk_end-to.result c.reach-end.ensures c.chunk_end-to.ensures)).1

pub returns-in-Some : goal.returns-in-Some
returns-in-Some c =
    let a = c.args in
    let line = a.line.now in
    let from = c.blank_end-from.result in
    next-there line a.at from c.blank_end-from.ensures c.chunk_end-to.result c.if-line-from.false
    (looked-for line from c.reach-end.result c.chunk_end-to.result c.reach-end.ensures c.chunk_end-to.ensures) c.in-Some.token (sym c.in-Some.is ∙ c.token_of.ensures)

pub returns-in-None : goal.returns-in-None
returns-in-None c =
    let a = c.args in
    let line = a.line.now in
    let from = c.blank_end-from.result in
    c.none_at-in-None.ensures
    ∙ next-none line a.at from c.blank_end-from.ensures c.chunk_end-to.result c.if-line-from.false
    (looked-for line from c.reach-end.result c.chunk_end-to.result c.reach-end.ensures c.chunk_end-to.ensures) (sym c.in-None.is ∙ c.token_of.ensures)
