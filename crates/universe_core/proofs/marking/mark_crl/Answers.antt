use Rattle.std.proofs.Common.{◌∙◌, ◌||◌, ap, map, sym}
use Rattle.job_core.specs.JobFields.{outcome_view}
use Rattle.ledger_core.specs.LedgerFields.{ids}
use Rattle.universe_core.specs.Enrolling.{holds}
use Rattle.universe_core.specs.Jobs.{crl_by}
use Rattle.universe_core.proofs.IssuerRuns.{none_marked}
use Rattle.universe_core.proofs.marking.mark_crl.Goals as goal

pub returns-then-run : goal.returns-then-run
returns-then-run c = λ p e.
    e ∙ none_marked p c.args.crl.now.issuer _ c.args.members.now c.run_of-run.result c.run_of-run.ensures c.if-run.true
    ∙ ap (λ o. map (λ x. p x || holds (crl_by c.args.crl.now.issuer (outcome_view o)) x) (ids c.args.members.now)) (sym c.in-Ok.is)
