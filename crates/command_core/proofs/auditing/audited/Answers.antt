use Rattle.std.proofs.Common.{ℕ, List, [], Err, map, length, sym, ap, subst, ◌∙◌}
use Rattle.std.proofs.lemmas.List.{length-map}
use Rattle.part_text.specs.SealedFields.{SealedFields}
use Rattle.job_core.specs.JobFields.{fields_of_job}
use Rattle.audit_core.specs.Auditing.{IsFound}
use Rattle.line_core.specs.Lines.{audit_line}
use Rattle.command_core.specs.declared.answer.Answer.TheVariants as answers
use Rattle.command_core.specs.Outcomes.{only}
use Rattle.command_core.specs.Replies.{done, with_files}
use Rattle.command_core.proofs.AuditCode.{auditable, accepted_by, names_one, bad_comes, found_comes, fault_comes}
use Rattle.command_core.proofs.auditing.audited.Goals as goal

pub returns-in-Some : goal.returns-in-Some
returns-in-Some c =
    bad_comes c.args.asked.now c.args.store.now (map fields_of_job c.args.jobs.now) (record { name = c.in-Some.file.name.now; fault = c.in-Some.file.fault }) c.refused.result
    (rw c.as_slice.ensures.value at c.in-Some.ensures) c.refused.ensures.ok

pub audit-requires-clause-jobs : goal.audit-requires-clause-jobs
audit-requires-clause-jobs c =
    auditable (map fields_of_job c.args.jobs.now) c.requires.counted
    (accepted_by c.args.asked.now.jobs c.args.jobs.now c.requires.many (sym (rw c.as_slice.ensures.value at c.in_default.ensures)))

pub file_at_fault-file-requires : goal.file_at_fault-file-requires
file_at_fault-file-requires c =
    names_one c.args.store.now c.args.jobs.now (length c.args.asked.now.jobs) c.in-Err.fault c.requires.many
    (subst (λ (parts : List SealedFields). IsFound (map (λ s. s.part) parts) (map fields_of_job c.args.jobs.now) (Err c.in-Err.fault)) c.parts.ensures.value c.in-Err.ensures.found)

pub returns-in-Ok : goal.returns-in-Ok
returns-in-Ok c =
    found_comes c.args.asked.now c.args.store.now (map fields_of_job c.args.jobs.now) c.in-Ok.found (answers.Reply c.done.result) (sym (rw c.as_slice.ensures.value at c.in_default.ensures))
    (rw c.parts.ensures.value at c.in-Ok.ensures.found)
    (ap (with_files []) c.done.ensures ∙ ap (λ (l : List ℕ). done (only l))
    (c.audited-line.ensures ∙ ap (λ (n : ℕ). audit_line n c.in-Ok.found.entries) (sym (length-map c.args.jobs.now fields_of_job))))

pub returns-in-Err : goal.returns-in-Err
returns-in-Err c =
    fault_comes c.args.asked.now c.args.store.now (map fields_of_job c.args.jobs.now) c.in-Err.fault
    (record { name = c.file_at_fault-file.result.name.now; fault = c.file_at_fault-file.result.fault }) c.refused-in-Err.result
    (sym (rw c.as_slice.ensures.value at c.in_default.ensures))
    (subst (λ (parts : List SealedFields). IsFound (map (λ s. s.part) parts) (map fields_of_job c.args.jobs.now) (Err c.in-Err.fault)) c.parts.ensures.value c.in-Err.ensures.found)
    c.file_at_fault-file.ensures c.refused-in-Err.ensures.memory
    c.refused-in-Err.ensures.ok
