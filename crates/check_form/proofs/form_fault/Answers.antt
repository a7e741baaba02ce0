-- As its callee ensures, of the declarations that it counts. Assumes nothing.
use Rattle.check_form.proofs.form_fault.Goals as goal

pub returns : goal.returns
returns c = rw c.declarations.ensures at c.first_form_fault_at.ensures
