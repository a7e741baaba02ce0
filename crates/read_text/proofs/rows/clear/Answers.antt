-- The first places filled with 0. Assumes nothing.
use mathlib.Core.Path.{◌≡◌, ap, ◌∙◌}
use mathlib.Core.List.{List, ◌++◌}
use Prim.Native.Nat.{ℕ}
use lib.IntN.{ℤ, pos}
use lib.ListN.{drop, replicate}
use lib.Seq.{length-take-le}
use Rattle.read_text.proofs.RowsLaws.{cleared-is}
use Rattle.read_text.proofs.rows.clear.Goals as goal

pub returns : goal.returns
returns c =
    let old = c.args.rows.now in
    let zeros : c.fill.new.self ≡ replicate 4096 (pos 0) = c.fill.ensures.after (λ y e. e) ∙ ap (λ (n : ℕ). replicate n (pos 0)) (length-take-le 4096 old c.requires) in
    ap (λ (l : List ℤ). l ++ drop 4096 old) zeros ∙ cleared-is old
