-- `unset_range` meets its contract: both arrays are filled with 0 from a on.
use Rattle.std.proofs.Common.{◌≡◌, ◌+◌, ◌-◌, length, take, drop, rules, arith}
use Rattle.std.proofs.lemmas.List.{length-take, length-drop}
use Rattle.run_values.proofs.CellLaws.{written-unset}
use Rattle.run_values.proofs.store.State.unset_range.Goals as goal

pub returns : goal.returns
returns c =
    let s = c.args.self in
    let a = c.args.a in
    let n = c.args.n in
    let v : length s.values ≡ 256 = search rules in
    let m : length s.marks ≡ 256 = search rules in
    let p : length (take (a + n - a) (drop a s.values)) ≡ n = simp (length-take, length-drop) (omega (arith, c.requires)) in
    let q : length (take (a + n - a) (drop a s.marks)) ≡ n = simp (length-take, length-drop) (omega (arith, c.requires)) in
    written-unset a n (a + n - a) s c.fill.new.self c.fill-2.new.self (omega arith) (omega (arith, c.requires)) (omega (arith, c.requires)) (rw (← p) (c.fill.ensures.after (λ y h. h))) (rw (← q) (c.fill-2.ensures.after (λ y h. h)))
