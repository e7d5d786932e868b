use Rattle.std.proofs.Common.{Ok, refl}
use Rattle.command_core.specs.declared.answer.Answer.TheVariants as answers
use Rattle.input_core.specs.Readings.{part_in}
use Rattle.word_core.specs.declared.command.Command.TheVariants as commands
use Rattle.outside_core.specs.Reads.{WhichFailed}
use Rattle.command_core.proofs.Replying.{first_refused, show_made}
use Rattle.command_core.proofs.commands.answer_show.Goals as goal

pub returns-in-Ok-clause-reply : goal.returns-in-Ok-clause-reply
returns-in-Ok-clause-reply g c = show_made (g.D.Depot.files c.args.depot.now) (WhichFailed g.D.Depot c.args.depot.now _) (Ok (answers.Part c.in-Ok.sealed)) c.args.name.now (λ x. x)
    (c.in-Ok.sealed, c.in-Ok.field-0-1) (rw c.as_str.ensures at c.in-Ok.ensures.input) refl

pub returns-in-Err-clause-reply : goal.returns-in-Err-clause-reply
returns-in-Err-clause-reply g c =
    first_refused (g.D.Depot.files c.args.depot.now) (WhichFailed g.D.Depot c.args.depot.now _) c.refused.result (commands.Show c.args.name.now) c.args.name.now _ part_in (λ x. x) c.in-Err.fault refl (λ at h. h) (rw c.as_str.ensures at c.in-Err.ensures.input)
    c.refused.ensures.memory (rw c.as_str-in-Err.ensures at c.refused.ensures.ok)
