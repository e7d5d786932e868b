use Rattle.std.proofs.Common.{ℕ}
use Rattle.part_text.specs.SealedFields.{SealedFields}
use Rattle.outside_core.specs.Reads.{WhichFailed}
use Rattle.input_core.specs.Readings.{input_as, part_in}
use Rattle.device_top.specs.Outcomes.{install_outcome}
use Rattle.device_top.specs.Comes.{OfFile}
use Rattle.device_top.proofs.Answering.{attached_mid, no_part, not_held, not_taken, taken}
use Rattle.device_top.proofs.Quiet.{uncalled}
use Rattle.device_top.proofs.Surviving.{goes_over, untouched}
use Rattle.device_top.proofs.commands.answer_install.Goals as goal

pub returns-in-Err-clause-answers : goal.returns-in-Err-clause-answers
returns-in-Err-clause-answers g c =
    not_held c.args.asked.now.device (g.D.Disk.state c.args.disk.now) (g.D.Disk.state c.held_in.new.disk)
    (λ capacity parts. OfFile (g.P.Depot.files c.args.depot.now) (WhichFailed g.P.Depot c.args.depot.now c.args.depot.now) c.args.asked.now.part
    (λ given. install_outcome c.args.asked.now capacity parts (input_as part_in given)))
    c.held_in.ensures.quiet c.in-Err.fault c.not_held.result c.in-Err.ensures.refusal (rw c.as_str.ensures at c.not_held.ensures.ok) c.not_held.ensures.memory

pub returns-in-Err-part_in-clause-answers : goal.returns-in-Err-part_in-clause-answers
returns-in-Err-part_in-clause-answers g c =
    no_part c.args.asked.now (g.P.Depot.files c.args.depot.now) (WhichFailed g.P.Depot c.args.depot.now c.part_in.new.depot)
    (g.D.Disk.state c.args.disk.now) (g.D.Disk.state c.held_in.new.disk) (g.D.Disk.state c.held_in.new.disk) c.in-Ok.held.slots c.in-Ok.held.store
    c.held_in.ensures.quiet c.in-Ok.ensures.ok {B = SealedFields × ℕ} (λ x. x) c.in-Err-part_in.fault c.refusal.result
    (uncalled (g.D.Disk.state c.held_in.new.disk))
    (rw c.as_str-2.ensures at c.in-Err-part_in.ensures.input) (rw c.as_str-in-Err-part_in.ensures at c.refusal.ensures.ok) c.refusal.ensures.memory

pub returns-in-Err-part_in-clause-survives : goal.returns-in-Err-part_in-clause-survives
returns-in-Err-part_in-clause-survives g c =
    untouched (g.P.Depot.files c.args.depot.now) (WhichFailed g.P.Depot c.args.depot.now c.part_in.new.depot) c.args.asked.now.part (g.D.Disk.state c.args.disk.now)
    (g.met.D.Disk.lawful c.args.disk.now) (g.D.Disk.state c.held_in.new.disk) c.held_in.ensures.quiet

pub returns-in-Ok-installed-clause-answers : goal.returns-in-Ok-installed-clause-answers
returns-in-Ok-installed-clause-answers g c =
    taken c.args.asked.now (g.P.Depot.files c.args.depot.now) (WhichFailed g.P.Depot c.args.depot.now c.part_in.new.depot)
    (g.D.Disk.state c.args.disk.now) (g.D.Disk.state c.held_in.new.disk) (g.D.Disk.state c.replaced.new.disk) c.in-Ok.held.slots c.in-Ok.held.store
    c.held_in.ensures.quiet c.in-Ok.ensures.ok {B = SealedFields × ℕ} (λ x. x) (c.in-Ok-part_in.part, c.in-Ok-part_in.field-0-1) c.in-Ok-installed.store c.replaced.result
    c.held_in.ensures.later (rw c.as_str-2.ensures at c.in-Ok-part_in.ensures.input) c.in-Ok-installed.ensures.ok.0 c.in-Ok-installed.ensures.ok.1
    (rw c.as_str-in-Ok-installed.ensures at (c.replaced.ensures.answers
    (attached_mid (g.D.Disk.state c.args.disk.now) (g.D.Disk.state c.held_in.new.disk) c.in-Ok.held.slots c.in-Ok.held.store c.held_in.ensures.quiet c.in-Ok.ensures.ok)))

pub returns-in-Ok-installed-clause-survives : goal.returns-in-Ok-installed-clause-survives
returns-in-Ok-installed-clause-survives g c =
    goes_over (g.P.Depot.files c.args.depot.now) (WhichFailed g.P.Depot c.args.depot.now c.part_in.new.depot) c.args.asked.now.part (g.D.Disk.state c.args.disk.now)
    (g.met.D.Disk.lawful c.args.disk.now) {B = SealedFields × ℕ} (g.D.Disk.state c.held_in.new.disk) (g.D.Disk.state c.replaced.new.disk) c.in-Ok.held.slots
    c.in-Ok.held.store c.in-Ok-installed.store (λ x. x) (c.in-Ok-part_in.part, c.in-Ok-part_in.field-0-1) c.held_in.ensures.quiet c.in-Ok.ensures.ok
    (rw c.as_str-2.ensures at c.in-Ok-part_in.ensures.input) c.in-Ok-installed.ensures.ok.0 c.in-Ok-installed.ensures.ok.1 c.replaced.ensures.any_moment

pub returns-in-Err-installed-clause-answers : goal.returns-in-Err-installed-clause-answers
returns-in-Err-installed-clause-answers g c =
    let (why, refused, is_fault) = c.in-Err-installed.ensures.refused in
    not_taken c.args.asked.now (g.P.Depot.files c.args.depot.now) (WhichFailed g.P.Depot c.args.depot.now c.part_in.new.depot)
    (g.D.Disk.state c.args.disk.now) (g.D.Disk.state c.held_in.new.disk) (g.D.Disk.state c.held_in.new.disk) c.in-Ok.held.slots c.in-Ok.held.store
    c.held_in.ensures.quiet c.in-Ok.ensures.ok {B = SealedFields × ℕ} (λ x. x) (c.in-Ok-part_in.part, c.in-Ok-part_in.field-0-1) why c.in-Err-installed.fault
    c.refusal-in-Err-installed.result (uncalled (g.D.Disk.state c.held_in.new.disk)) (rw c.as_str-2.ensures at c.in-Ok-part_in.ensures.input) refused is_fault
    (rw c.as_str-in-Err-installed.ensures at c.refusal-in-Err-installed.ensures.ok)

pub returns-in-Err-installed-clause-survives : goal.returns-in-Err-installed-clause-survives
returns-in-Err-installed-clause-survives g c =
    untouched (g.P.Depot.files c.args.depot.now) (WhichFailed g.P.Depot c.args.depot.now c.part_in.new.depot) c.args.asked.now.part (g.D.Disk.state c.args.disk.now)
    (g.met.D.Disk.lawful c.args.disk.now) (g.D.Disk.state c.held_in.new.disk) c.held_in.ensures.quiet
