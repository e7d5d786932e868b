use Rattle.std.proofs.Common.{◌≡◌, ◌≤◌, ◌<◌, ℕ, map, take, length}
use Rattle.log_core.specs.declared.Entry.{Entry}
use Rattle.job_core.specs.JobFields.{fields_of_job}
use Rattle.universe_core.specs.History.{seen}
use Rattle.audit_core.specs.Auditing.{left_by_jobs, entries_of, IsAccepted, Agrees}
use Rattle.audit_core.proofs.auditing.check_jobs.Given as goal

abbrev pub invariant-loop-place : goal.invariant-loop-place
invariant-loop-place l = record {
  accepted : l.accepted ≡ length (seen (left_by_jobs (take l.place (map fields_of_job l.jobs))));
  few : l.accepted ≤ entries_of (take l.place (map fields_of_job l.jobs));
  agree : (j n : ℕ) (e : Entry) → j < l.place → IsAccepted (map fields_of_job l.jobs) j n e → Agrees (map (λ s. s.part) l.store) (map fields_of_job l.jobs) e;
}
