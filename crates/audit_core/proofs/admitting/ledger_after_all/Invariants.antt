use Rattle.std.proofs.Common.{◌≡◌, map, take}
use Rattle.job_core.specs.JobFields.{fields_of_job}
use Rattle.universe_core.specs.Ledgers.{ledger_or_none, ledger_of}
use Rattle.audit_core.specs.Auditing.{left_by_jobs, AreAdmitted}
use Rattle.audit_core.proofs.admitting.ledger_after_all.Given as goal

abbrev pub invariant-loop-job : goal.invariant-loop-job
invariant-loop-job l = record {
  place : l.place ≡ l.job-index;
  ledger : ledger_or_none l.ledger ≡ ledger_of (left_by_jobs (take l.job-index (map fields_of_job l.jobs)));
  admitted : AreAdmitted (map fields_of_job l.jobs) l.job-index;
}
