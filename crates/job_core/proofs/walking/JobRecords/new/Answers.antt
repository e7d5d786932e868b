use Rattle.std.proofs.Common.{refl, arith}
use Rattle.std.proofs.lemmas.Result.{err_from_is_err_and}
use Rattle.job_core.proofs.Walks.{opened, not-opened}
use Rattle.job_core.proofs.walking.JobRecords.new.Goals as goal

pub returns-in_err-epoch-clause-err : goal.returns-in_err-epoch-clause-err
returns-in_err-epoch-clause-err c =
    let p = err_from_is_err_and c.from_residual.result c.from_residual.ensures.1 in
    rw (p.1, p.2) (not-opened c.args.limits c.args.bytes.now _ (rw c.new-cursor.ensures at c.in_err-epoch.ensures.0))

pub returns-clause-ok : goal.returns-clause-ok
returns-clause-ok c =
    let e = rw c.new-cursor.ensures at c.in_ok-epoch.ensures in
    opened c.args.limits _ c.args.bytes.now (c.in_ok-epoch.epoch, c.in_ok-epoch.field-0-1) (λ i. omega (arith, c.type_inv.bytes i)) refl e.1 c.no_numbers.ensures e.0
