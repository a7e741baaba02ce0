-- By the sort there, if there is a token. Assumes nothing.
use mathlib.Core.Path.{◌≡◌, sym, ap, ◌∙◌}
use mathlib.Core.List.{List}
use Prim.Native.Nat.{ℕ, ◌<◌}
use native.Mathlib.Omega.{arith}
use native.Mathlib.Decide.{dec_lt}
use lib.Dec.{eqb}
use lib.ListN.{length, get_or, drop, drop_of_length-le, get_or-eq_default}
use lib.Seq.{drop-cons}
use Rattle.std.proofs.lemmas.Grind.{common_steps}
use Rattle.read_tokens.specs.Sorts as sorts
use Rattle.read_expressions.specs.TokenRows.{subscripted}
use Rattle.read_expressions.proofs.begins_subscript.Goals as goal

by-sort : (ts : List ℕ) (at : ℕ) → eqb (get_or ts at 0) sorts.square_open ≡ subscripted (drop at ts)
unfolding subscripted
by-sort ts at = go (dec_lt at (length ts))
  where
    go : Dec (at < length ts) → eqb (get_or ts at 0) sorts.square_open ≡ subscripted (drop at ts)
    go (yes h) = sym (ap subscripted (drop-cons ts at 0 h))
    go (no h) = ap (λ (s : ℕ). eqb s sorts.square_open) (get_or-eq_default ts 0 (omega (arith, h))) ∙ sym (ap subscripted (drop_of_length-le ts (omega (arith, h))))

pub returns : goal.returns
returns c =
    let a = c.args in
    let e : c.eq.result ≡ eqb (get_or a.tokens.now a.at 0) sorts.square_open = grind (arith, common_steps) in
    e ∙ by-sort a.tokens.now a.at
