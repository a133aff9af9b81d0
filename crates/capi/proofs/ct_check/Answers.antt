-- `capi::ct_check` meets its contract. Assumes nothing.
use Rattle.capi.proofs.ct_check.Goals as goal

pub returns-in-Ok : goal.returns-in-Ok
returns-in-Ok c = simp (← c.check.ensures, c.in-Ok.is)

pub returns-in-Err : goal.returns-in-Err
returns-in-Err c = simp (← c.check.ensures, c.in-Err.is, c.no.ensures)
