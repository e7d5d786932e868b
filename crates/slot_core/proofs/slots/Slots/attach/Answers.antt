use Rattle.std.proofs.Common.{◌∙◌}
use Rattle.slot_core.proofs.Unbroken.{IfErr-whole}
use Rattle.slot_core.proofs.Broken.{refused-there}
use Rattle.slot_core.proofs.slots.Slots.attach.Goals as goal

pub returns-clause-whole : goal.returns-clause-whole
returns-clause-whole g c = λ capacity bytes device told is.
    IfErr-whole capacity bytes device (g.D.Disk.state c.sync.new.self) (g.D.Disk.state c.examine.new.disk) c.examine.result (c.sync.ensures.quiet.same ∙ told) is c.examine.ensures.refusal

pub returns-clause-broken : goal.returns-clause-broken
returns-clause-broken g c = λ at device told breaks.
    refused-there (g.D.Disk.state c.sync.new.self) (g.D.Disk.state c.examine.new.disk) device at c.examine.result (c.sync.ensures.quiet.same ∙ told) breaks
    c.examine.ensures.ok c.examine.ensures.refusal
