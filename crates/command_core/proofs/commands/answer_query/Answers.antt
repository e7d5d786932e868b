use Rattle.std.proofs.Common.{[], Ok, ap, refl}
use Rattle.command_core.specs.declared.answer.Answer.TheVariants as answers
use Rattle.input_core.specs.Readings.{store_in}
use Rattle.word_core.specs.declared.command.Command.TheVariants as commands
use Rattle.outside_core.specs.Reads.{WhichFailed}
use Rattle.command_core.specs.Replies.{with_files}
use Rattle.command_core.proofs.Replying.{first_refused, query_made}
use Rattle.command_core.proofs.commands.answer_query.Goals as goal

pub returns-in-Ok-clause-reply : goal.returns-in-Ok-clause-reply
returns-in-Ok-clause-reply g c =
    query_made (g.D.Depot.files c.args.depot.now) (WhichFailed g.D.Depot c.args.depot.now _) (Ok (answers.Reply c.verdict.result)) c.args.query.now (λ s. s) c.in-Ok.store
    (rw c.as_str.ensures at c.in-Ok.ensures.input) (ap (with_files []) (rw (c.says-verdict.ensures, c.as_slice.ensures.value) at c.verdict.ensures))

pub returns-in-Err-clause-reply : goal.returns-in-Err-clause-reply
returns-in-Err-clause-reply g c =
    first_refused (g.D.Depot.files c.args.depot.now) (WhichFailed g.D.Depot c.args.depot.now _) c.refused.result (commands.Query c.args.query.now) c.args.query.now.store _ store_in (λ s. s) c.in-Err.fault refl (λ at h. h) (rw c.as_str.ensures at c.in-Err.ensures.input)
    c.refused.ensures.memory (rw c.as_str-in-Err.ensures at c.refused.ensures.ok)
