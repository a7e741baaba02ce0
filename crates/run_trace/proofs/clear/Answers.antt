-- A short list is left; else 0 is put into the first places. Assumes nothing.
use mathlib.Core.Path.{◌≡◌, sym, ap, ◌∙◌}
use mathlib.Core.Bool.{Bool}
use mathlib.Core.List.{List, [], ◌++◌}
use Prim.Native.Nat.{ℕ}
use borrow.Author.Tests.{lt-ltb, le-ltb}
use lib.ListN.{length, take, drop, replicate}
use Rattle.std.proofs.Common.{length-take-le}
use Rattle.meaning.specs.Basics.{if_else}
use Rattle.meaning.specs.Limits.{max_budget}
use Rattle.meaning.specs.Buffers.{lent}
use Rattle.run_trace.specs.Cleared.{cleared}
use Rattle.run_trace.proofs.Lists.{lent_nothing}
use Rattle.run_trace.proofs.clear.Goals as goal

pub returns-then-list-lt65536 : goal.returns-then-list-lt65536
unfolding cleared
returns-then-list-lt65536 c = rw (lt-ltb _ 65536 c.if-list-lt65536.true)

pub returns : goal.returns
unfolding cleared
returns c =
    let old = c.args.list.now in
    let full : length (take 65536 old) ≡ 65536 = length-take-le 65536 old c.if-list-lt65536.false in
    ap (λ (l : List ℕ). l ++ drop 65536 old) (c.fill.ensures.after (λ y e. e) ∙ ap (λ (n : ℕ). replicate n 0) full)
    ∙ sym (lent_nothing 0 max_budget old)
    ∙ sym (ap (λ (t : Bool). if_else t old (lent max_budget 0 [] old)) (le-ltb (length old) 65536 c.if-list-lt65536.false))
