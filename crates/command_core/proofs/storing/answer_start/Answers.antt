use Rattle.std.proofs.Common.{refl}
use Rattle.input_core.specs.Readings.{part_in}
use Rattle.word_core.specs.declared.command.Command.TheVariants as commands
use Rattle.outside_core.specs.Reads.{WhichFailed}
use Rattle.command_core.proofs.Replying.{first_refused, start_made, start_not}
use Rattle.command_core.proofs.storing.answer_start.Goals as goal

pub returns-in-Err-clause-reply : goal.returns-in-Err-clause-reply
returns-in-Err-clause-reply g c =
    first_refused (g.D.Depot.files c.args.depot.now) (WhichFailed g.D.Depot c.args.depot.now _) c.refused.result (commands.Start c.args.start.now) c.args.start.now.part _ part_in (λ x. x) c.in-Err.fault refl (λ at h. h) (rw c.as_str.ensures at c.in-Err.ensures.input)
    c.refused.ensures.memory (rw c.as_str-in-Err.ensures at c.refused.ensures.ok)

pub returns-in-Ok-begun-clause-reply : goal.returns-in-Ok-begun-clause-reply
returns-in-Ok-begun-clause-reply g c =
    start_made (g.D.Depot.files c.args.depot.now) (WhichFailed g.D.Depot c.args.depot.now _) c.stored.result c.args.start.now (λ x. x) (c.in-Ok.part, c.in-Ok.field-0-1) (λ s. s) c.in-Ok-begun.store
    (rw c.as_str.ensures at c.in-Ok.ensures.input) c.in-Ok-begun.ensures
    (rw c.as_str-in-Ok-begun.ensures at c.stored.ensures)

pub returns-in-Err-begun-clause-reply : goal.returns-in-Err-begun-clause-reply
returns-in-Err-begun-clause-reply g c =
    start_not (g.D.Depot.files c.args.depot.now) (WhichFailed g.D.Depot c.args.depot.now _) c.refused-in-Err-begun.result c.args.start.now (λ x. x) (c.in-Ok.part, c.in-Ok.field-0-1) (λ s. s)
    c.in-Err-begun.fault (rw c.as_str.ensures at c.in-Ok.ensures.input) c.in-Err-begun.ensures
    c.refused-in-Err-begun.ensures.memory (rw c.as_str-in-Err-begun.ensures at c.refused-in-Err-begun.ensures.ok)
