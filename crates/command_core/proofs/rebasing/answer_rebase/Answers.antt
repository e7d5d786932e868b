use Rattle.std.proofs.Common.{subst, refl}
use Rattle.place_core.specs.Cuts.{Cut}
use Rattle.input_core.specs.Readings.{ledger_in}
use Rattle.word_core.specs.declared.command.Command.TheVariants as commands
use Rattle.outside_core.specs.Reads.{WhichFailed}
use Rattle.command_core.proofs.Replying.{first_refused, NotRebased, rebase_made, rebase_not}
use Rattle.command_core.proofs.rebasing.answer_rebase.Goals as goal

pub returns-in-Err-clause-reply : goal.returns-in-Err-clause-reply
returns-in-Err-clause-reply g c =
    first_refused (g.D.Depot.files c.args.depot.now) (WhichFailed g.D.Depot c.args.depot.now _) c.refused.result (commands.Rebase c.args.rebase.now) c.args.rebase.now.ledger _ ledger_in (λ l. l) c.in-Err.fault refl (λ at h. h)
    (rw c.as_str.ensures at c.in-Err.ensures.input) c.refused.ensures.memory (rw c.as_str-in-Err.ensures at c.refused.ensures.ok)

pub returns-in-Ok-publish_base-clause-reply : goal.returns-in-Ok-publish_base-clause-reply
returns-in-Ok-publish_base-clause-reply g c =
    rebase_made (g.D.Depot.files c.args.depot.now) (WhichFailed g.D.Depot c.args.depot.now _) c.rebased.result c.args.rebase.now (λ l. l) c.in-Ok.ledger c.in-Ok-publish_base.publication
    (rw c.as_str.ensures at c.in-Ok.ensures.input) (rw c.in_ok-left_out.ensures at (c.in-Ok-publish_base.ensures (λ e. cc))) c.rebased.ensures

pub returns-clause-reply : goal.returns-clause-reply
returns-clause-reply g c =
    rebase_not (g.D.Depot.files c.args.depot.now) (WhichFailed g.D.Depot c.args.depot.now _) c.refused-in-Err-publish_base.result c.args.rebase.now (λ l. l) c.in-Ok.ledger
    c.in-Err-publish_base.fault (rw c.as_str.ensures at c.in-Ok.ensures.input)
    (subst (λ (cut : Cut). NotRebased c.in-Ok.ledger c.args.rebase.now.moment cut c.in-Err-publish_base.fault) c.in_ok-left_out.ensures c.in-Err-publish_base.ensures)
    (rw c.unrebased.ensures at c.refused-in-Err-publish_base.ensures.memory)
    (rw (c.unrebased.ensures, c.as_str-in-Err-publish_base.ensures) at c.refused-in-Err-publish_base.ensures.ok)
