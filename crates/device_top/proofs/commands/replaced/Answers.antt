use Rattle.std.proofs.Common.{◌∙◌}
use Rattle.device_top.proofs.Putting.{not_replaced, was_replaced}
use Rattle.device_top.proofs.Quiet.{same_disk}
use Rattle.device_top.proofs.commands.replaced.Goals as goal

pub returns-in-Ok-clause-answers : goal.returns-in-Ok-clause-answers
returns-in-Ok-clause-answers g c =
    was_replaced c.args.name.now c.args.store.now c.deref.result.now c.args.slots (g.D.Disk.state c.args.disk.now) (g.D.Disk.state c.replace.new.disk)
    (c.deref.ensures.value ∙ c.in_ok-text.ensures.text) c.in-Ok.field-0 c.stored.result _ c.in-Ok.ensures.too_long c.in-Ok.ensures.turned c.in-Ok.ensures.ok c.stored.ensures

pub returns-clause-answers : goal.returns-clause-answers
returns-clause-answers g c = λ held.
    not_replaced c.args.name.now c.args.store.now c.deref.result.now c.args.slots (g.D.Disk.state c.args.disk.now) (g.D.Disk.state c.replace.new.disk)
    (c.deref.ensures.value ∙ c.in_ok-text.ensures.text) c.in-Err.fault c.slot_refusal.result
    (λ l. same_disk g.D.Disk.state c.args.disk.now c.replace.new.disk (c.in-Err.ensures.too_long l).1) c.in-Err.ensures.refusal c.slot_refusal.ensures.ok
