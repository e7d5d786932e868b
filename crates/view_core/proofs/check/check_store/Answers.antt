use Rattle.std.proofs.Common.{sym, ap}
use Rattle.view_core.specs.Checking.{noted_store}
use Rattle.view_core.proofs.Checks.{store_noted}
use Rattle.view_core.proofs.check.check_store.Goals as goal

pub returns-in-Err : goal.returns-in-Err
returns-in-Err c = sym (ap noted_store c.in-Err.ensures.store)

pub returns-in-Ok : goal.returns-in-Ok
returns-in-Ok c = store_noted c.args.bytes.now c.in-Ok.parts c.in-Ok.newest c.in-Ok.ensures.store
