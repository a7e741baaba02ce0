-- `in_par` meets its contract: only a PAR has pairs, and its members' rows are those of its components.
use mathlib.Core.Path.{sym, ap, ◌∙◌, subst}
use mathlib.Core.List.{List}
use Prim.Native.Nat.{ℕ}
use native.Mathlib.Omega.{arith}
use lib.ListN.{take, length-take}
use Rattle.meaning.specs.Tree.{content_at}
use Rattle.check_usage.specs.Search.{meet_by, searched, HaveSets}
use Rattle.check_usage.proofs.SearchLaws.{all_most}
use Rattle.check_components.proofs.ListedProcesses.{listed-stand}
use Rattle.check_usage.proofs.Compared.{have-sets}
use Rattle.check_usage.proofs.FirstClash.{par-tests, no_pairs}
use Rattle.check_usage.proofs.in_par.Goals as goal

pub among-requires : goal.among-requires
among-requires c =
    let m = c.members_of-count in
    let rows = c.args.rows.now in
    let a = c.operand.result in
    let l = length-take m.result m.new.members in
    (omega (arith, l, m.ensures.0), omega (arith, l, m.ensures.0, c.requires.3), subst (λ (ps : List ℕ). HaveSets ps c.args.sets.now) (sym m.ensures.1) (have-sets rows c.args.sets.now c.requires.0.gathered.pars.0 (content_at rows a).listed (listed-stand rows a)))

pub returns-then-natural-eq31 : goal.returns-then-natural-eq31
returns-then-natural-eq31 c =
    let m = c.members_of-count in
    let rows = c.args.rows.now in
    let mem = m.new.members in
    let e = c.among.ensures in (
      e ∙ ap (searched c.args.before) (par-tests rows c.args.number c.args.r c.requires.0.limits c.requires.1 (sym c.natural.ensures ∙ c.if-natural-eq31.true) c.operand.ensures c.requires.0.gathered m.ensures.1),
      all_most (meet_by c.args.sets.now c.args.number) (take m.result mem) c.args.before (omega (arith, length-take m.result mem, m.ensures.0)) e,
    )

pub returns : goal.returns
unfolding searched
returns c =
    (rw (no_pairs c.args.rows.now c.args.number c.args.r c.requires.1 (λ e. c.if-natural-eq31.false (c.natural.ensures ∙ e))), omega arith)
