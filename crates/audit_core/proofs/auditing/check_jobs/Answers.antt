use Rattle.std.proofs.Common.{◌∙◌, ◌+◌, ⊎_elim, ap, sym, subst, map, length, arith}
use Rattle.std.proofs.lemmas.List.{length-map, take_all}
use Rattle.std.proofs.lemmas.Option.{slice_get_within}
use Rattle.job_core.specs.JobFields.{fields_of_job}
use Rattle.universe_core.specs.History.{seen}
use Rattle.audit_core.specs.Auditing.{left_by_jobs, IsAccepted}
use Rattle.audit_core.proofs.Checks.{below_or_at}
use Rattle.audit_core.proofs.Findings.{seen-none, disagreement_is}
use Rattle.audit_core.proofs.auditing.check_jobs.Goals as goal

pub loop-place-init : goal.loop-place-init
loop-place-init c = record { accepted = sym (ap length seen-none); few = omega arith; agree = λ j n e lt a. absurd (omega (arith, lt)) }

pub returns-in-Err-clause-disagree : goal.returns-in-Err-clause-disagree
returns-in-Err-clause-disagree c =
    disagreement_is (map (λ s. s.part) c.args.store.now) (map fields_of_job c.args.jobs.now) c.loop-place.place c.in-Err.fault c.in-Err.ensures.disagree c.loop-place.invariant.agree

pub loop-place-preserved : goal.loop-place-preserved
loop-place-preserved c = record {
  accepted = ap (λ n. n + c.in-Ok.count) c.loop-place.invariant.accepted ∙ sym c.in-Ok.ensures.count;
  few = omega (arith, c.loop-place.invariant.few, c.in-Ok.ensures.few);
  agree = λ j n e lt a. ⊎_elim (λ b. c.loop-place.invariant.agree j n e b a)
      (λ q. c.in-Ok.ensures.agree n e (subst (λ k. IsAccepted (map fields_of_job c.args.jobs.now) k n e) q a)) (below_or_at j c.loop-place.place lt);
}

pub returns-clause-agree : goal.returns-clause-agree
returns-clause-agree c = λ j n e a.
    let lt = slice_get_within (map fields_of_job c.args.jobs.now) j a.job a.at in
    let m = length-map c.args.jobs.now fields_of_job in
    c.loop-place.invariant.agree j n e (omega (arith, lt, m, c.loop-place-test.false)) a

pub returns-clause-count : goal.returns-clause-count
returns-clause-count c =
    let m = length-map c.args.jobs.now fields_of_job in
    c.loop-place.invariant.accepted
    ∙ ap (λ l. length (seen (left_by_jobs l))) (take_all c.loop-place.place (map fields_of_job c.args.jobs.now) (omega (arith, m, c.loop-place-test.false)))
