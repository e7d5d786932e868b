use Rattle.std.proofs.Common.{◌≡◌}
use Rattle.device_top.specs.Outcomes.{query_outcome}
use Rattle.device_top.proofs.Answering.{not_held, queried}
use Rattle.device_top.proofs.commands.answer_query.Goals as goal

pub returns-in-Ok-clause-answers : goal.returns-in-Ok-clause-answers
returns-in-Ok-clause-answers g c =
    queried c.args.query.now (g.D.Disk.state c.args.disk.now) (g.D.Disk.state c.held_in.new.disk) c.in-Ok.held.slots c.in-Ok.held.store c.verdict.result
    c.held_in.ensures.quiet c.in-Ok.ensures.ok (rw (c.says-verdict.ensures, c.as_slice.ensures.value) at c.verdict.ensures)

pub returns-in-Err-clause-answers : goal.returns-in-Err-clause-answers
returns-in-Err-clause-answers g c =
    not_held c.args.query.now.store (g.D.Disk.state c.args.disk.now) (g.D.Disk.state c.held_in.new.disk) (λ capacity parts o. o ≡ query_outcome c.args.query.now parts)
    c.held_in.ensures.quiet c.in-Err.fault c.not_held.result c.in-Err.ensures.refusal (rw c.as_str.ensures at c.not_held.ensures.ok) c.not_held.ensures.memory
