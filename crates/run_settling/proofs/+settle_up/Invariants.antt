use Rattle.run_settling.proofs.+settle_up.Given as goal

abbrev pub decreases-settle_up : goal.decreases-settle_up
decreases-settle_up l = l.r
