-- `choose` meets its contract: the row picked is that of the test whose rows are shown.
use Rattle.std.proofs.Common.{◌≡◌, get_or, sym, ◌∙◌, mod-lt, arith, eq-eqb, ne_eqb}
use Rattle.run_ready_bits.proofs.Raises.{shown-picked}
use Rattle.run_ready_bits.proofs.choose.Goals as goal

pub returns-then-n-eq0 : goal.returns-then-n-eq0
returns-then-n-eq0 c =
    let none_in : get_or c.args.bits.now 32 0 ≡ 0 = c.if-n-eq0.true in
    record { numbers = sym (rw (eq-eqb _ 0 none_in)); meaning = λ f n S l. absurd (omega arith) }

pub returns : goal.returns
returns c =
    let some_in : get_or c.args.bits.now 32 0 ≡ 0 → ⊥ = c.if-n-eq0.false in
    record { numbers = c.pick.ensures.numbers ∙ sym (rw (ne_eqb _ 0 some_in)); meaning = λ f n S l. shown-picked f n _ S _ _ (mod-lt _ l) (c.pick.ensures.meaning S.counted) }
