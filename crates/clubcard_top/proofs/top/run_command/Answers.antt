use Rattle.std.proofs.Common.{◌∙◌}
use Rattle.word_core.specs.Names.{outputs_of}
use Rattle.outside_core.specs.Reads.{WhichFailed}
use Rattle.command_core.specs.Answering.{reply_fields}
use Rattle.clubcard_top.proofs.Endings.{named, unwritten, not_memory}
use Rattle.std.proofs.Common.{inr}
use Rattle.clubcard_top.specs.Calls.{call_of}
use Rattle.clubcard_top.proofs.Promised.{sent_later, read_later}
use Rattle.command_core.proofs.ReplyStatuses.{status_of_reply}
use Rattle.clubcard_top.proofs.top.run_command.Goals as goal

pub returns-in-Ok-clause-reading : goal.returns-in-Ok-clause-reading
returns-in-Ok-clause-reading g c = λ none.
    c.send.ensures.quiet (unwritten (outputs_of c.args.command.now) (reply_fields c.in-Ok.answer).outputs
    (named c.args.command.now _ (WhichFailed g.D.Depot c.args.depot.now _) (reply_fields c.in-Ok.answer) c.in-Ok.ensures.reply) none)
    ∙ c.in-Ok.ensures.only_reads.same_writes

pub returns-in-Ok-clause-ends : goal.returns-in-Ok-clause-ends
returns-in-Ok-clause-ends g c =
    inr (
      reply_fields c.in-Ok.answer,
      read_later g.D.Depot c.args.depot.now _ _ c.args.command.now _ (reply_fields c.in-Ok.answer) c.send.ensures.only_writes c.in-Ok.ensures.reply,
      status_of_reply c.args.command.now _ (WhichFailed g.D.Depot c.args.depot.now _) (reply_fields c.in-Ok.answer) c.in-Ok.ensures.reply c.send.ensures.own,
      sent_later g.D.Depot g.K.Sink c.args.command.now c.args.depot.now _ c.send.new.depot c.args.out.now c.send.new.out c.send.result.0
          (reply_fields c.in-Ok.answer) c.send.ensures.ends c.in-Ok.ensures.only_reads.same_files c.in-Ok.ensures.only_reads.same_writes,
    )

pub returns-in-Ok-clause-check : goal.returns-in-Ok-clause-check
returns-in-Ok-clause-check g c = λ name is.
    not_memory (call_of g.D.Depot g.K.Sink c.args.command.now c.args.depot.now c.send.new.depot c.args.out.now c.send.new.out c.send.result.0)
    (reply_fields c.in-Ok.answer)
    (status_of_reply c.args.command.now _ (WhichFailed g.D.Depot c.args.depot.now _) (reply_fields c.in-Ok.answer) c.in-Ok.ensures.reply c.send.ensures.own)
    (sent_later g.D.Depot g.K.Sink c.args.command.now c.args.depot.now _ c.send.new.depot c.args.out.now c.send.new.out c.send.result.0
    (reply_fields c.in-Ok.answer) c.send.ensures.ends c.in-Ok.ensures.only_reads.same_files c.in-Ok.ensures.only_reads.same_writes)
