use Rattle.std.proofs.Common.{◌≡◌, List, ℕ, Some, inl, sym, ◌∙◌, subst}
use Rattle.slot_core.specs.Disk.{DiskState, Images}
use Rattle.slot_core.specs.Device.{IsDevice}
use Rattle.slot_core.specs.Attached.{HoldsStart, IsEither}
use Rattle.slot_core.proofs.Moments.{started, stays, run_on}
use Rattle.slot_core.proofs.laws.attach_and_replace.Goals as goal

same_device : (one other : List ℕ) → Some one ≡ Some other → one ≡ other
same_device one other is = cc

pub returns-clause-any_moment : goal.returns-clause-any_moment
returns-clause-any_moment g c = λ device told all.
    let start : DiskState = g.D.Disk.state c.args.disk.now in
    let mid : DiskState = g.D.Disk.state c.attach.new.disk in
    let P : Images = HoldsStart start.images c.args.bytes.now in
    let slots = c.in_ok-slots.ensures.ok device told in
    let there : slots.1.attached.device ≡ device = same_device _ _ (sym slots.1.attached.reads ∙ c.attach.ensures.quiet.same ∙ told) in
    let holds = subst (IsDevice c.in_ok-slots.slots.capacity slots.0) there slots.1.attached.holds in
    run_on start mid (g.D.Disk.state c.replace.new.disk) P (IsEither c.in_ok-slots.slots.capacity slots.0 c.args.bytes.now)
    (stays start start mid P (started start P (g.met.D.Disk.lawful c.args.disk.now) (λ image now. let h = all image now in (image, now, h.0, h.1, h.2, inl h.2))) c.attach.ensures.quiet)
    (c.replace.ensures.any_moment slots.0 slots.1)
    (λ image either. (device, (g.met.D.Disk.lawful c.args.disk.now).told_is_image device told, c.in_ok-slots.slots.capacity, slots.0, holds, either))
