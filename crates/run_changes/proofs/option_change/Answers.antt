-- `option_change` meets its contract, by what is noted of the option.
use Rattle.run_changes.specs.Changes.{option_change}
use Rattle.run_changes.proofs.ChangesMade.{option-rest}
use Rattle.run_changes.proofs.option_change.Goals as goal

pub returns-in-4 : goal.returns-in-4
unfolding option_change
returns-in-4 c = rw c.in-4.is c.becomes.ensures

pub returns-in-5 : goal.returns-in-5
unfolding option_change
returns-in-5 c = rw c.in-5.is c.becomes-in-5.ensures

pub returns-in-7 : goal.returns-in-7
unfolding option_change
returns-in-7 c = rw c.in-7.is c.communicates.ensures

pub returns-in_default : goal.returns-in_default
returns-in_default c =
    let args = c.args in
    option-rest args.notes.now.acts args.notes.now.sent args.notes.now.elements args.j _ args.owner args.process c.in_default.in_default-own.rest c.becomes-in_default.ensures
