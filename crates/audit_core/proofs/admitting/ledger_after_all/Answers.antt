use Rattle.std.proofs.Common.{◌≡◌, ◌∙◌, ⊎_elim, refl, ap, sym, subst, map, take, Some, None, arith}
use Rattle.std.specs.List.{slice_get}
use Rattle.std.proofs.lemmas.List.{length-map}
use Rattle.std.proofs.lemmas.Option.{slice_get_within}
use Rattle.ident_core.specs.HeadFields.{zero_key}
use Rattle.ident_core.proofs.Elements.{some_item}
use Rattle.job_core.specs.declared.bounds.TheConstants.Limits.{PUBLISHED}
use Rattle.job_core.specs.JobFields.{fields_of_job}
use Rattle.universe_core.specs.Jobs.{facts_of}
use Rattle.universe_core.specs.Ledgers.{ledger_or_none, ledger_of, next_ledger}
use Rattle.universe_core.specs.Step.{refusal}
use Rattle.history_core.proofs.Ledger.{next_is}
use Rattle.audit_core.specs.Admitting.{as_audit_fault, IsRefusal}
use Rattle.audit_core.specs.Auditing.{left_by_jobs, refusal_behind}
use Rattle.audit_core.proofs.Checks.{below_or_at}
use Rattle.audit_core.proofs.Jobs.{history_at, history_sound}
use Rattle.audit_core.proofs.Knowing.{mapped_at, auditable_at}
use Rattle.audit_core.proofs.Causes.{refused_cause, refusal_is}
use Rattle.audit_core.proofs.Findings.{no_ledger_is}
use Rattle.audit_core.proofs.admitting.ledger_after_all.Goals as goal

pub loop-job-init : goal.loop-job-init
loop-job-init c = record { place = refl; ledger = no_ledger_is; admitted = λ j job lt h. absurd (omega (arith, lt)) }

pub ledger_after-requires-clause-ranges : goal.ledger_after-requires-clause-ranges
ledger_after-requires-clause-ranges c = (auditable_at c.args.jobs.now c.loop-job.job-index c.job-item.result c.loop-job-test.true c.job-item.is c.requires.jobs).ranges

pub ledger_after-requires-clause-few : goal.ledger_after-requires-clause-few
ledger_after-requires-clause-few c = (auditable_at c.args.jobs.now c.loop-job.job-index c.job-item.result c.loop-job-test.true c.job-item.is c.requires.jobs).limits

pub fault_at-requires : goal.fault_at-requires
fault_at-requires c =
    let jobs = map fields_of_job c.args.jobs.now in
    let i = c.loop-job.job-index in
    let n = length-map c.args.jobs.now fields_of_job in
    refused_cause jobs i (fields_of_job c.job-item.result) (mapped_at fields_of_job c.args.jobs.now i c.job-item.result c.loop-job-test.true c.job-item.is)
    c.loop-job.invariant.admitted (omega (arith, n, c.requires.few)) c.requires.entries
    (auditable_at c.args.jobs.now i c.job-item.result c.loop-job-test.true c.job-item.is c.requires.jobs).crls
    (ledger_or_none c.loop-job.ledger) c.loop-job.invariant.ledger c.in-Err.fault c.in-Err.ensures.refused

pub returns-in-Err-clause-refused : goal.returns-in-Err-clause-refused
returns-in-Err-clause-refused c =
    let jobs = map fields_of_job c.args.jobs.now in
    let i = c.loop-job.job-index in
    subst (IsRefusal jobs) (sym (c.fault_at.ensures ∙ ap (λ n. as_audit_fault n c.in-Err.fault) c.loop-job.invariant.place))
    (refusal_is jobs i (fields_of_job c.job-item.result) (mapped_at fields_of_job c.args.jobs.now i c.job-item.result c.loop-job-test.true c.job-item.is)
    c.loop-job.invariant.admitted (ledger_or_none c.loop-job.ledger) c.loop-job.invariant.ledger c.in-Err.fault c.in-Err.ensures.refused)

pub loop-job-preserved : goal.loop-job-preserved
loop-job-preserved c =
    let jobs = map fields_of_job c.args.jobs.now in
    let i = c.loop-job.job-index in
    let job = fields_of_job c.job-item.result in
    let at = mapped_at fields_of_job c.args.jobs.now i c.job-item.result c.loop-job-test.true c.job-item.is in
    let lt = slice_get_within jobs i job at in
    let sound = history_sound jobs i (omega (arith, lt)) c.loop-job.invariant.admitted in
    let refused : refusal_behind (take i jobs) job ≡ None = ap (λ l. refusal PUBLISHED l job) (sym c.loop-job.invariant.ledger) ∙ c.in-Ok.ensures.admitted in
    record {
      place = omega (arith, c.loop-job.invariant.place);
      ledger = c.in-Ok.ensures.next ∙ ap (λ l. next_ledger l (facts_of job) zero_key) c.loop-job.invariant.ledger
          ∙ next_is (left_by_jobs (take i jobs)) sound (facts_of job) zero_key ∙ ap ledger_of (sym (history_at jobs i job at));
      admitted = λ j other below h. ⊎_elim (λ b. c.loop-job.invariant.admitted j other b h)
          (λ q.
          let same : job ≡ other = some_item job other (sym at ∙ subst (λ k. slice_get jobs k ≡ Some other) q h) in
          subst (λ k. refusal_behind (take k jobs) other ≡ None) (sym q) (subst (λ o. refusal_behind (take i jobs) o ≡ None) same refused))
          (below_or_at j i below);
    }
