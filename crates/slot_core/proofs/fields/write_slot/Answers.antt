use Rattle.std.proofs.Common.{List, ℕ, subst}
use Rattle.slot_core.specs.Disk.{Tells, Written}
use Rattle.slot_core.proofs.Torn.{Tells-two}
use Rattle.slot_core.proofs.fields.write_slot.Goals as goal

pub returns-clause-ok : goal.returns-clause-ok
returns-clause-ok g c =
    Tells-two c.args.at c.args.bytes.now (g.D.Disk.state c.args.disk.now) (g.D.Disk.state c.write_at.new.self) (g.D.Disk.state c.write_at-2.new.self)
    (subst (λ (s : List ℕ). Tells (Written c.args.at s) (g.D.Disk.state c.args.disk.now) (g.D.Disk.state c.write_at.new.self)) c.to_be_bytes.ensures c.in_ok-write_at.ensures.ok)
    c.in_ok-write_at-2.ensures.ok
