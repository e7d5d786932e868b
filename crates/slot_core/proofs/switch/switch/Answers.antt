use Rattle.std.proofs.Common.{◌≡◌, ◌%◌, ℕ, not, nat_eq, ap, sym, ◌∙◌}
use Rattle.slot_core.proofs.Switching.{after_slot, after_sync, after_gate, after_all, attached-again}
use Rattle.slot_core.proofs.switch.switch.Goals as goal
use Rattle.slot_core.proofs.switch.switch.Goals.{then-second, else-second}

pub returns-in_err-write_slot-clause-any_moment : goal.returns-in_err-write_slot-clause-any_moment
returns-in_err-write_slot-clause-any_moment g c = λ held attached.
    after_slot c.args.capacity c.args.second held c.args.bytes.now c.requires.fits (g.D.Disk.state c.args.disk.now) (g.met.D.Disk.lawful c.args.disk.now) attached c.slot_at.result c.slot_at.ensures.at
    (g.D.Disk.state c.write_slot.new.disk) c.write_slot.ensures.tears

pub returns-in_err-sync-clause-any_moment : goal.returns-in_err-sync-clause-any_moment
returns-in_err-sync-clause-any_moment g c = λ held attached.
    after_sync c.args.capacity c.args.second held c.args.bytes.now c.requires.fits (g.D.Disk.state c.args.disk.now) (g.met.D.Disk.lawful c.args.disk.now) attached c.slot_at.result c.slot_at.ensures.at
    (g.D.Disk.state c.write_slot.new.disk) c.write_slot.ensures.tears (g.D.Disk.state c.sync.new.self) c.sync.ensures.quiet

pub returns-in_err-write_at-clause-any_moment : goal.returns-in_err-write_at-clause-any_moment
returns-in_err-write_at-clause-any_moment g c = λ held attached.
    after_gate c.args.capacity c.args.second held c.args.bytes.now c.requires.fits (g.D.Disk.state c.args.disk.now) (g.met.D.Disk.lawful c.args.disk.now) attached c.slot_at.result c.slot_at.ensures.at
    (g.D.Disk.state c.write_slot.new.disk) c.write_slot.ensures.tears (g.D.Disk.state c.sync.new.self) c.sync.ensures.quiet
    c.in_ok-write_slot.ensures.ok c.in_ok-sync.ensures.ok (g.D.Disk.state c.write_at.new.self) c.write_at.ensures.tears

pub returns-in_err-sync-2-clause-any_moment : goal.returns-in_err-sync-2-clause-any_moment
returns-in_err-sync-2-clause-any_moment g c = λ held attached.
    after_all c.args.capacity c.args.second held c.args.bytes.now c.requires.fits (g.D.Disk.state c.args.disk.now) (g.met.D.Disk.lawful c.args.disk.now) attached c.slot_at.result c.slot_at.ensures.at
    (g.D.Disk.state c.write_slot.new.disk) c.write_slot.ensures.tears (g.D.Disk.state c.sync.new.self) c.sync.ensures.quiet
    c.in_ok-write_slot.ensures.ok c.in_ok-sync.ensures.ok (g.D.Disk.state c.write_at.new.self) c.write_at.ensures.tears (g.D.Disk.state c.sync-2.new.self) c.sync-2.ensures.quiet

pub returns-clause-any_moment : goal.returns-clause-any_moment
returns-clause-any_moment g c = λ held attached.
    after_all c.args.capacity c.args.second held c.args.bytes.now c.requires.fits (g.D.Disk.state c.args.disk.now) (g.met.D.Disk.lawful c.args.disk.now) attached c.slot_at.result c.slot_at.ensures.at
    (g.D.Disk.state c.write_slot.new.disk) c.write_slot.ensures.tears (g.D.Disk.state c.sync.new.self) c.sync.ensures.quiet
    c.in_ok-write_slot.ensures.ok c.in_ok-sync.ensures.ok (g.D.Disk.state c.write_at.new.self) c.write_at.ensures.tears (g.D.Disk.state c.sync-2.new.self) c.sync-2.ensures.quiet

pub returns-clause-ok : goal.returns-clause-ok
returns-clause-ok g c = λ held attached.
    let picks : nat_eq (c.if-second.gate % 2) 1 ≡ not c.args.second = elim c.if-second.branch [
      | then-second w ↦ ap (λ (n : ℕ). nat_eq (n % 2) 1) w.gate-is ∙ ap not (sym w.if-second.true)
      | else-second w ↦ ap (λ (n : ℕ). nat_eq (n % 2) 1) w.gate-is ∙ ap not (sym w.if-second.false)
    ] in
    attached-again c.args.capacity c.args.second held c.args.bytes.now c.requires.fits
    (g.D.Disk.state c.args.disk.now) (g.met.D.Disk.lawful c.args.disk.now) attached c.slot_at.result c.slot_at.ensures.at
    (g.D.Disk.state c.write_slot.new.disk) c.write_slot.ensures.tears (g.D.Disk.state c.sync.new.self) c.sync.ensures.quiet
    c.in_ok-write_slot.ensures.ok c.in_ok-sync.ensures.ok (g.D.Disk.state c.write_at.new.self) c.write_at.ensures.tears (g.D.Disk.state c.sync-2.new.self) c.sync-2.ensures.quiet
    c.if-second.gate c.in_ok-write_at.ensures.ok c.in_ok-sync-2.ensures.ok picks
