use Rattle.std.proofs.Common.{refl}
use Rattle.job_core.specs.JobFields.{fields_of_job}
use Rattle.input_core.specs.Readings.{job_in}
use Rattle.word_core.specs.declared.command.Command.TheVariants as commands
use Rattle.outside_core.specs.Reads.{WhichFailed}
use Rattle.command_core.proofs.Replying.{first_refused, delta_made, delta_no_ledger, delta_not}
use Rattle.command_core.proofs.publishing.answer_delta.Goals as goal

pub returns-in-Err-clause-reply : goal.returns-in-Err-clause-reply
returns-in-Err-clause-reply g c =
    first_refused (g.D.Depot.files c.args.depot.now) (WhichFailed g.D.Depot c.args.depot.now _) c.refused.result (commands.Delta c.args.delta.now) c.args.delta.now.job _ job_in fields_of_job c.in-Err.fault refl (λ at h. h)
    (rw c.as_str.ensures at c.in-Err.ensures.input) c.refused.ensures.memory (rw c.as_str-in-Err.ensures at c.refused.ensures.ok)

pub returns-in-Err-ledger_in-clause-reply : goal.returns-in-Err-ledger_in-clause-reply
returns-in-Err-ledger_in-clause-reply g c =
    delta_no_ledger g.D.Depot c.args.depot.now _ _ c.in-Ok.ensures.only_reads c.refused-in-Err-ledger_in.result c.args.delta.now fields_of_job c.in-Ok.job (λ l. l)
    c.in-Err-ledger_in.fault (rw c.as_str.ensures at c.in-Ok.ensures.input) (rw c.as_str-2.ensures at c.in-Err-ledger_in.ensures.input) c.refused-in-Err-ledger_in.ensures.memory
    (rw c.as_str-in-Err-ledger_in.ensures at c.refused-in-Err-ledger_in.ensures.ok)

pub returns-in-Ok-publish_after-clause-reply : goal.returns-in-Ok-publish_after-clause-reply
returns-in-Ok-publish_after-clause-reply g c =
    delta_made g.D.Depot c.args.depot.now _ _ c.in-Ok.ensures.only_reads c.published.result c.args.delta.now fields_of_job c.in-Ok.job (λ l. l) c.in-Ok-ledger_in.ledger
    c.in-Ok-publish_after.publication (rw c.as_str.ensures at c.in-Ok.ensures.input) (rw c.as_str-2.ensures at c.in-Ok-ledger_in.ensures.input) c.in-Ok.ensures.fits c.in-Ok.ensures.within
    (c.in-Ok-publish_after.ensures (λ e. cc)) (rw (c.as_str-in-Ok-publish_after.ensures, c.as_str-in-Ok-publish_after-2.ensures) at c.published.ensures)

pub returns-in-Err-publish_after-clause-reply : goal.returns-in-Err-publish_after-clause-reply
returns-in-Err-publish_after-clause-reply g c =
    delta_not g.D.Depot c.args.depot.now _ _ c.in-Ok.ensures.only_reads c.refused-in-Err-publish_after.result c.args.delta.now fields_of_job c.in-Ok.job (λ l. l)
    c.in-Ok-ledger_in.ledger c.in-Err-publish_after.fault (rw c.as_str.ensures at c.in-Ok.ensures.input) (rw c.as_str-2.ensures at c.in-Ok-ledger_in.ensures.input)
    c.in-Ok.ensures.fits c.in-Ok.ensures.within
    c.in-Err-publish_after.ensures (rw c.unpublished.ensures at c.refused-in-Err-publish_after.ensures.memory)
    (rw (c.unpublished.ensures, c.as_str-in-Err-publish_after.ensures) at c.refused-in-Err-publish_after.ensures.ok)
