use Rattle.std.specs.List.{list_any}
use Rattle.std.proofs.Common.{◌∙◌, take, ◌||◌}
use Rattle.ident_core.specs.declared.identity.Identity.{Identity}
use Rattle.job_core.specs.declared.meaning.JobCrl.{JobCrl}
use Rattle.ident_core.proofs.Marks.{all_step}
use Rattle.universe_core.specs.Enrolling.{facts_of_crl, holds}
use Rattle.ledger_core.specs.LedgerFields.{ids}
use Rattle.universe_core.proofs.marking.mark_all.Goals as goal

pub loop-crl-preserved : goal.loop-crl-preserved
loop-crl-preserved c = λ p e.
    c.in_ok-mark_crl.ensures (λ (x : Identity). p x || list_any (λ (d : JobCrl). holds (facts_of_crl d) x) (take c.loop-crl.crl-index c.args.crls.now)) (c.loop-crl.invariant p e)
    ∙ all_step p (λ (x : Identity) (d : JobCrl). holds (facts_of_crl d) x) c.args.crls.now c.loop-crl.crl-index c.crl-item.result (ids c.args.members.now) c.loop-crl-test.true c.crl-item.is
