use Rattle.std.proofs.lemmas.Result.{err_from_is_err_and}
use Rattle.device_top.proofs.Reading.{read_refused, store_refused}
use Rattle.device_top.proofs.held.held_in.Goals as goal

pub returns-in_err-bytes-clause-refusal : goal.returns-in_err-bytes-clause-refusal
returns-in_err-bytes-clause-refusal g c =
    let p = err_from_is_err_and c.from_residual-in_err-bytes.result c.from_residual-in_err-bytes.ensures.1 in
    rw (p.1, p.2)
    (read_refused (g.D.Disk.state c.args.disk.now) (g.D.Disk.state c.attach.new.disk) (g.D.Disk.state c.read.new.disk) c.in_ok-slots.slots c.in_err-bytes.field-0.0
    c.attach.ensures.quiet c.attach.ensures.later c.in_ok-slots.ensures.ok c.in_err-bytes.ensures.refusal)

pub returns-in_err-store-clause-refusal : goal.returns-in_err-store-clause-refusal
returns-in_err-store-clause-refusal g c =
    let p = err_from_is_err_and c.from_residual-in_err-store.result c.from_residual-in_err-store.ensures.1 in
    rw (p.1, p.2)
    (store_refused (g.D.Disk.state c.args.disk.now) (g.D.Disk.state c.attach.new.disk) c.in_ok-slots.slots c.in_ok-bytes.bytes.items c.in_err-store.field-0.0
    c.attach.ensures.quiet c.in_ok-slots.ensures.ok c.in_ok-bytes.ensures.ok (rw c.deref.ensures.value at c.in_err-store.ensures))
