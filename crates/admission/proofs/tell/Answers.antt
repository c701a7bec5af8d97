-- `admission::tell` meets its contract. Assumes nothing.
use Rattle.admission.proofs.Calls as calls
use Rattle.admission.proofs.tell.Goals as goal

pub returns-in-Err : goal.returns-in-Err
returns-in-Err c = calls.says_11 _ _ c.requires c.reason_of.result c.reason_of.ensures

pub returns-in-Ok : goal.returns-in-Ok
returns-in-Ok c = calls.says_admitted _ _ c.requires _ c.in-Ok.ensures
