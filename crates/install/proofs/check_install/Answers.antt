-- `install::check_install` meets its contract. Assumes nothing.
use Rattle.std.proofs.lemmas.Result.{err_from_is_err_and}
use Rattle.install.proofs.Installing as installing
use Rattle.install.proofs.check_install.Goals as goal

pub returns-in_err-check_buffers : goal.returns-in_err-check_buffers
returns-in_err-check_buffers c =
    let p = err_from_is_err_and c.from_residual.result c.from_residual.ensures.1 in
    record {
      number = λ m. rw (p.1, p.2) (installing.wrong_number _ _ (c.in_err-check_buffers.ensures.number m) _ _);
      sheet_left = rw (p.1, p.2) (installing.wrong_sheet_lem _ _ (c.in_err-check_buffers.ensures.number installing.some_record_lem) _ _);
      lengths = rw p.1 tt;
    }

pub returns-clause-number : goal.returns-clause-number
returns-clause-number c m =
    installing.install-number _ _ c.admit.result c.admit.new.sheet c.admit.ensures _ (c.in_ok-check_buffers.ensures.number m)

pub returns-clause-sheet_left : goal.returns-clause-sheet_left
returns-clause-sheet_left c = installing.admit_sheet _ _ c.admit.result c.admit.new.sheet c.admit.ensures
