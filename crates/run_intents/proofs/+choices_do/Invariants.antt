use Prim.Native.Nat.{◌-◌}
use Rattle.run_intents.proofs.+choices_do.Given as goal

abbrev pub decreases-choices_do : goal.decreases-choices_do
decreases-choices_do l = 1025 - l.m
