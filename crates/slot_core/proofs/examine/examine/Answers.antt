use Rattle.std.proofs.Common.{refl, ◌∙◌, arith}
use Rattle.std.proofs.lemmas.Result.{err_from_is_err_and}
use Rattle.slot_core.proofs.FieldLaws.{Refuses-later, breaks-gate, breaks-slot}
use Rattle.slot_core.proofs.examine.examine.Goals as goal

pub returns-in_err-second-clause-refusal : goal.returns-in_err-second-clause-refusal
returns-in_err-second-clause-refusal g c =
    let p = err_from_is_err_and c.from_residual.result c.from_residual.ensures.1 in
    rw (p.1, p.2) (Refuses-later _ _ (g.D.Disk.state c.args.disk.now) (g.D.Disk.state c.args.disk.now) (g.D.Disk.state c.read_gate.new.disk) refl (omega arith)
    (λ device at told (is, none). breaks-gate device at is none) _ c.in_err-second.ensures.refusal)

pub returns-in_err-length-clause-refusal : goal.returns-in_err-length-clause-refusal
returns-in_err-length-clause-refusal g c =
    let p = err_from_is_err_and c.from_residual-in_err-length.result c.from_residual-in_err-length.ensures.1 in
    rw (p.1, p.2) (Refuses-later _ _ (g.D.Disk.state c.args.disk.now) (g.D.Disk.state c.read_header.new.disk) (g.D.Disk.state c.read_length.new.disk)
    (c.read_header.ensures.quiet.same ∙ c.read_gate.ensures.quiet.same)
    (omega (arith, c.read_header.ensures.later, c.read_gate.ensures.later))
    (λ device at told (is, none).
    breaks-slot device at c.in_ok-capacity.capacity c.slot_at.result c.in_ok-second.second is c.slot_at.ensures.at (c.in_ok-second.ensures.ok device told).0
    (c.in_ok-capacity.ensures.ok device (c.read_gate.ensures.quiet.same ∙ told)) none)
    _ c.in_err-length.ensures.refusal)
