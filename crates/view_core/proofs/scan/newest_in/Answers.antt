use Rattle.std.proofs.Common.{sym}
use Rattle.std.proofs.lemmas.Result.{err_from_is_err_and}
use Rattle.view_core.proofs.Checks.{head_refused, first_refused, last_refused, last_read}
use Rattle.view_core.proofs.scan.newest_in.Goals as goal

pub returns-in-Err-clause-parts : goal.returns-in-Err-clause-parts
returns-in-Err-clause-parts c = head_refused c.args.bytes.now c.in-Err.fault (sym c.in-Err.ensures.head)

pub returns-in_err-first-clause-parts : goal.returns-in_err-first-clause-parts
returns-in_err-first-clause-parts c =
    let p = err_from_is_err_and c.from_residual.result c.from_residual.ensures.1 in
    rw (p.1, p.2) (first_refused c.args.bytes.now c.in-Ok.head.0 c.in-Ok.head.1 c.in_err-first.field-0.0 (sym c.in-Ok.ensures.head) c.in_err-first.ensures.part)

pub returns-in_err-last-clause-parts : goal.returns-in_err-last-clause-parts
returns-in_err-last-clause-parts c =
    let p = err_from_is_err_and c.from_residual-in_err-last.result c.from_residual-in_err-last.ensures.1 in
    let one = c.in_ok-first.ensures.part in
    rw (p.1, p.2) (last_refused c.args.bytes.now c.in-Ok.head.0 c.in-Ok.head.1 c.in_ok-first.first c.in_err-last.field-0.0 (sym c.in-Ok.ensures.head) one
    (c.in_err-last.ensures.chain one.0 one.2))

pub returns-clause-parts : goal.returns-clause-parts
returns-clause-parts c =
    let one = c.in_ok-first.ensures.part in
    last_read c.args.bytes.now c.in-Ok.head.0 c.in-Ok.head.1 c.in_ok-first.first c.in_ok-last.last c.in-Ok.ensures.few.0 (sym c.in-Ok.ensures.head) one
    (c.in_ok-last.ensures.chain one.0 one.2)
