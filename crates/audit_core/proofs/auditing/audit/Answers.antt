use Rattle.std.proofs.Common.{◌∙◌, ap, sym, map}
use Rattle.universe_core.specs.Ledgers.{ledger_or_none}
use Rattle.job_core.specs.JobFields.{fields_of_job}
use Rattle.audit_core.proofs.Findings.{found_truly, none_found, answers_truly}
use Rattle.audit_core.proofs.auditing.audit.Goals as goal

pub returns-in-Ok-Some-clause-truth : goal.returns-in-Ok-Some-clause-truth
returns-in-Ok-Some-clause-truth c = found_truly (map (λ s. s.part) c.args.store.now) (map fields_of_job c.args.jobs.now) c.checked.result c.checked.ensures

pub returns-in-Ok-None-clause-found : goal.returns-in-Ok-None-clause-found
returns-in-Ok-None-clause-found c = none_found (map (λ s. s.part) c.args.store.now) (map fields_of_job c.args.jobs.now)
    (sym (ap ledger_or_none c.in-Ok-None.field-0-is) ∙ c.in-Ok-None.ensures.ledger)

pub returns-in-Ok-None-clause-truth : goal.returns-in-Ok-None-clause-truth
returns-in-Ok-None-clause-truth c =
    let parts = map (λ s. s.part) c.args.store.now in
    let jobs = map fields_of_job c.args.jobs.now in
    answers_truly parts jobs (none_found parts jobs (sym (ap ledger_or_none c.in-Ok-None.field-0-is) ∙ c.in-Ok-None.ensures.ledger)).1
