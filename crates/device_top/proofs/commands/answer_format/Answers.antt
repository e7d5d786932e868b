use Rattle.std.proofs.Common.{List, Ok}
use Rattle.part_text.specs.SealedFields.{SealedFields}
use Rattle.outside_core.specs.Reads.{WhichFailed}
use Rattle.input_core.proofs.Reading.{all_of}
use Rattle.device_top.proofs.Answering.{bad_store, good_store, no_store}
use Rattle.device_top.proofs.Quiet.{uncalled}
use Rattle.device_top.proofs.commands.answer_format.Goals as goal

pub returns-in-Err-clause-answers : goal.returns-in-Err-clause-answers
returns-in-Err-clause-answers g c =
    no_store c.args.asked.now (g.P.Depot.files c.args.depot.now) (WhichFailed g.P.Depot c.args.depot.now c.read_up_to.new.depot)
    (g.D.Disk.state c.args.disk.now) (g.D.Disk.state c.args.disk.now) c.in-Err.fault c.refusal.result
    (uncalled (g.D.Disk.state c.args.disk.now))
    (rw c.as_str.ensures at c.in-Err.ensures.failed) (rw (c.as_str-in-Err.ensures, c.from.ensures) at c.refusal.ensures.ok) (rw c.from.ensures at c.refusal.ensures.memory)

pub returns-in-Ok-store_of-clause-answers : goal.returns-in-Ok-store_of-clause-answers
returns-in-Ok-store_of-clause-answers g c =
    good_store c.args.asked.now (g.P.Depot.files c.args.depot.now) (WhichFailed g.P.Depot c.args.depot.now c.read_up_to.new.depot)
    (g.D.Disk.state c.args.disk.now) (g.D.Disk.state c.formatted.new.disk) c.in-Ok.bytes.items c.in-Ok-store_of.store c.formatted.result
    (all_of (g.P.Depot.files c.args.depot.now) c.args.asked.now.store (Ok c.in-Ok.bytes) (rw c.as_str.ensures at c.in-Ok.ensures.bytes))
    (rw c.deref.ensures.value at c.in-Ok-store_of.ensures) (rw c.deref-in-Ok-store_of.ensures.value at c.formatted.ensures.answers)

pub returns-clause-answers : goal.returns-clause-answers
returns-clause-answers g c =
    bad_store c.args.asked.now (g.P.Depot.files c.args.depot.now) (WhichFailed g.P.Depot c.args.depot.now c.read_up_to.new.depot)
    (g.D.Disk.state c.args.disk.now) (g.D.Disk.state c.args.disk.now) {B = List SealedFields} (λ s. s) c.in-Ok.bytes.items c.in-Err-store_of.fault
    c.refusal-in-Err-store_of.result (uncalled (g.D.Disk.state c.args.disk.now))
    (all_of (g.P.Depot.files c.args.depot.now) c.args.asked.now.store (Ok c.in-Ok.bytes) (rw c.as_str.ensures at c.in-Ok.ensures.bytes))
    (rw c.deref.ensures.value at c.in-Err-store_of.ensures) (rw c.as_str-in-Err-store_of.ensures at c.refusal-in-Err-store_of.ensures.ok) c.refusal-in-Err-store_of.ensures.memory
