use Rattle.std.proofs.lemmas.Result.{err_from_is_err_and}
use Rattle.view_core.specs.Scanning.{end_of}
use Rattle.view_core.proofs.Checks.{store_refused, store_longer, store_read}
use Rattle.view_core.proofs.check.newest_of_store.Goals as goal

pub returns-in_err-parts-clause-store : goal.returns-in_err-parts-clause-store
returns-in_err-parts-clause-store c =
    let p = err_from_is_err_and c.from_residual.result c.from_residual.ensures.1 in
    rw (p.1, p.2) (store_refused c.args.bytes.now c.in_err-parts.field-0.0 c.in_err-parts.ensures.parts)

pub returns-then-end-bytes-clause-store : goal.returns-then-end-bytes-clause-store
returns-then-end-bytes-clause-store c =
    let read = c.in_ok-parts.ensures.parts in
    store_longer c.args.bytes.now read.0 (end_of c.in_ok-parts.newest) read.1 c.if-end-bytes.true

pub returns-clause-store : goal.returns-clause-store
returns-clause-store c = store_read c.args.bytes.now c.in_ok-parts.parts c.in_ok-parts.newest c.in_ok-parts.ensures.parts c.if-end-bytes.false
