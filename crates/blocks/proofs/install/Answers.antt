-- `blocks::install` meets its contract. Assumes nothing.
use mathlib.Core.Path.{sym, ap, ◌∙◌}
use mathlib.Core.List.{◌++◌, append-nil}
use Rattle.blocks.proofs.Installs as installs
use Rattle.blocks.proofs.install.Goals as goal

pub returns-in-Ok-clause-line_put : goal.returns-in-Ok-clause-line_put
returns-in-Ok-clause-line_put g c =
    let l = installs.loaded _ _ c.install.ensures c.in-Ok.is in
    sym (append-nil c.args.out.now.items) ∙ ap (λ x. c.args.out.now.items ++ x) l.1

pub returns-in-Err : goal.returns-in-Err
returns-in-Err g c =
    let l = installs.not_loaded _ _ c.install.ensures c.args.out.now.items _ c.in-Err.is (rw c.from.ensures at c.put_refused.ensures.bytes) in
    record { machine_left = l.0; line_put = l.1; loaded = l.2 }
