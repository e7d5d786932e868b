use Rattle.outside_core.specs.Reads.{WhichFailed}
use Rattle.command_core.proofs.FilesPut.{gather_reply}
use Rattle.command_core.proofs.lengthening.answer_gather.Goals as goal

pub returns-clause-reply : goal.returns-clause-reply
returns-clause-reply g c =
    gather_reply (g.D.Depot.files c.args.depot.now) (WhichFailed g.D.Depot c.args.depot.now _) c.args.gather.now c.answer_longer.result
    (rw (c.as_str.ensures, c.as_str-2.ensures, c.as_slice.ensures.value) at c.answer_longer.ensures.reply)
