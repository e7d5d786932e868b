use Rattle.std.proofs.Common.{refl}
use Rattle.job_core.specs.JobFields.{fields_of_job}
use Rattle.input_core.specs.Readings.{job_in}
use Rattle.word_core.specs.declared.command.Command.TheVariants as commands
use Rattle.outside_core.specs.Reads.{WhichFailed}
use Rattle.command_core.proofs.Replying.{first_refused, snapshot_made, snapshot_not}
use Rattle.command_core.proofs.publishing.answer_snapshot.Goals as goal

pub returns-in-Err-clause-reply : goal.returns-in-Err-clause-reply
returns-in-Err-clause-reply g c =
    first_refused (g.D.Depot.files c.args.depot.now) (WhichFailed g.D.Depot c.args.depot.now _) c.refused.result (commands.Snapshot c.args.snapshot.now) c.args.snapshot.now.job _ job_in fields_of_job c.in-Err.fault refl (λ at h. h)
    (rw c.as_str.ensures at c.in-Err.ensures.input) c.refused.ensures.memory (rw c.as_str-in-Err.ensures at c.refused.ensures.ok)

pub returns-in-Ok-publish_first-clause-reply : goal.returns-in-Ok-publish_first-clause-reply
returns-in-Ok-publish_first-clause-reply g c =
    snapshot_made (g.D.Depot.files c.args.depot.now) (WhichFailed g.D.Depot c.args.depot.now _) c.published.result c.args.snapshot.now fields_of_job c.in-Ok.job c.in-Ok-publish_first.publication
    (rw c.as_str.ensures at c.in-Ok.ensures.input) c.in-Ok.ensures.fits
    c.in-Ok.ensures.within (c.in-Ok-publish_first.ensures (λ e. cc)) (rw (c.as_str-in-Ok-publish_first.ensures, c.as_str-in-Ok-publish_first-2.ensures) at c.published.ensures)

pub returns-in-Err-publish_first-clause-reply : goal.returns-in-Err-publish_first-clause-reply
returns-in-Err-publish_first-clause-reply g c =
    snapshot_not (g.D.Depot.files c.args.depot.now) (WhichFailed g.D.Depot c.args.depot.now _) c.refused-in-Err-publish_first.result c.args.snapshot.now fields_of_job c.in-Ok.job
    c.in-Err-publish_first.fault (rw c.as_str.ensures at c.in-Ok.ensures.input) c.in-Ok.ensures.fits
    c.in-Ok.ensures.within c.in-Err-publish_first.ensures (rw c.unpublished.ensures at c.refused-in-Err-publish_first.ensures.memory)
    (rw (c.unpublished.ensures, c.as_str-in-Err-publish_first.ensures) at c.refused-in-Err-publish_first.ensures.ok)
