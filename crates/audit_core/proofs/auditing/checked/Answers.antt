use Rattle.std.proofs.Common.{sym, subst, map}
use Rattle.std.proofs.lemmas.List.{length-map}
use Rattle.job_core.specs.JobFields.{fields_of_job}
use Rattle.audit_core.specs.Auditing.{AreAdmitted}
use Rattle.audit_core.proofs.Findings.{disagreement_found}
use Rattle.audit_core.proofs.auditing.checked.Goals as goal

pub returns-in-Ok : goal.returns-in-Ok
returns-in-Ok c =
    (subst (AreAdmitted (map fields_of_job c.args.jobs.now)) (sym (length-map c.args.jobs.now fields_of_job)) c.requires.admitted, c.in-Ok.ensures.agree, c.in-Ok.ensures.count)

pub returns-in-Err : goal.returns-in-Err
returns-in-Err c =
    disagreement_found (map (λ s. s.part) c.args.store.now) (map fields_of_job c.args.jobs.now)
    (subst (AreAdmitted (map fields_of_job c.args.jobs.now)) (sym (length-map c.args.jobs.now fields_of_job)) c.requires.admitted) c.in-Err.fault c.in-Err.ensures.disagree
