use Rattle.std.proofs.Common.{length}
use Rattle.slot_core.specs.declared.fault.SlotFault.TheVariants.{TooLong}
use Rattle.device_top.specs.Outcomes.{Formats}
use Rattle.device_top.proofs.Putting.{fits, not_put, not_wanting, rests_formatted, was_put}
use Rattle.device_top.proofs.Quiet.{same_disk}
use Rattle.device_top.proofs.commands.formatted.Goals as goal

pub returns-in-Ok-clause-answers : goal.returns-in-Ok-clause-answers
returns-in-Ok-clause-answers g c =
    let ok = rw c.get.ensures.value at c.in-Ok.ensures.ok in
    let long = rw c.get.ensures.value at c.in-Ok.ensures.too_long in
    was_put c.args.asked.now.device c.args.asked.now.capacity c.args.store.now (length c.args.bytes.now) (Formats c.args.asked.now.capacity c.args.bytes.now)
    (g.D.Disk.state c.args.disk.now) (g.D.Disk.state c.format.new.disk) c.stored.result
    (fits c.args.asked.now.capacity (length c.args.bytes.now) c.in-Ok.field-0 (TooLong c.args.asked.now.capacity) _ long) c.stored.ensures
    (rests_formatted c.args.asked.now.capacity c.args.bytes.now (g.D.Disk.state c.args.disk.now) (g.D.Disk.state c.format.new.disk) ok c.in-Ok.ensures.durable)

pub returns-in-Err-clause-some : goal.returns-in-Err-clause-some
returns-in-Err-clause-some g c =
    not_wanting _ _ (g.D.Disk.state c.args.disk.now) (g.D.Disk.state c.format.new.disk) c.in-Err.fault c.slot_refusal.result c.in-Err.ensures.refusal
    c.slot_refusal.ensures.no_other

pub returns-in-Err-clause-answers : goal.returns-in-Err-clause-answers
returns-in-Err-clause-answers g c =
    let long = rw c.get.ensures.value at c.in-Err.ensures.too_long in
    not_put c.args.asked.now.device c.args.asked.now.capacity c.args.store.now (length c.args.bytes.now) (Formats c.args.asked.now.capacity c.args.bytes.now)
    (g.D.Disk.state c.args.disk.now) (g.D.Disk.state c.format.new.disk) c.in-Err.fault c.slot_refusal.result
    (λ l. same_disk g.D.Disk.state c.args.disk.now c.format.new.disk (long l).1) (rw c.get.ensures.value at c.in-Err.ensures.refusal)
    (rw c.as_str.ensures at c.slot_refusal.ensures.ok)
