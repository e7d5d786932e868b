use Rattle.std.proofs.Common.{List, refl}
use Rattle.part_text.specs.SealedFields.{SealedFields}
use Rattle.input_core.specs.Readings.{store_in}
use Rattle.word_core.specs.declared.command.Command.TheVariants as commands
use Rattle.outside_core.specs.Reads.{WhichFailed}
use Rattle.command_core.proofs.AuditReplies.{audit_not, audit_made}
use Rattle.command_core.proofs.Replying.{first_refused}
use Rattle.command_core.proofs.auditing.answer_audit.Goals as goal

pub returns-in-Err-clause-reply : goal.returns-in-Err-clause-reply
returns-in-Err-clause-reply g c =
    first_refused (g.D.Depot.files c.args.depot.now) (WhichFailed g.D.Depot c.args.depot.now _) c.refused.result (commands.Audit c.args.asked.now) c.args.asked.now.store _ store_in (λ (x : List SealedFields). x) c.in-Err.fault refl (λ at h. h)
    (rw c.as_str.ensures at c.in-Err.ensures.input) c.refused.ensures.memory (rw c.as_str-in-Err.ensures at c.refused.ensures.ok)

pub returns-in-Ok-add_files-clause-reply : goal.returns-in-Ok-add_files-clause-reply
returns-in-Ok-add_files-clause-reply g c =
    audit_made g.D.Depot c.args.depot.now _ _ c.in-Ok.ensures.only_reads c.args.asked.now c.in-Ok.store c.audited.result c.add_files.new.self
    (rw c.as_str.ensures at c.in-Ok.ensures.input) (rw c.as_slice-2.ensures.value at c.in-Ok-add_files.ensures.added) (rw c.as_slice-in-Ok-add_files.ensures.value at c.audited.ensures)

pub returns-clause-reply : goal.returns-clause-reply
returns-clause-reply g c =
    audit_not g.D.Depot c.args.depot.now _ _ c.in-Ok.ensures.only_reads c.args.asked.now c.in-Ok.store c.in-Err-add_files.file.name.now c.in-Err-add_files.file.fault
    (rw c.as_str.ensures at c.in-Ok.ensures.input) (λ differ. rw c.as_slice-2.ensures.value at (c.in-Err-add_files.ensures.refused differ)) c.refused-in-Err-add_files.result
    c.refused-in-Err-add_files.ensures.memory c.refused-in-Err-add_files.ensures.ok
