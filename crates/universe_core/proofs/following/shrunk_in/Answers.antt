use Rattle.std.specs.Option.{option_map}
use Rattle.std.proofs.Common.{◌∙◌, ap}
use Rattle.ident_core.specs.Coverage.{first_outside}
use Rattle.ledger_core.specs.LedgerFields.{part_fields}
use Rattle.universe_core.specs.Jobs.{facts_of_job}
use Rattle.universe_core.specs.Step.{shrunk}
use Rattle.universe_core.specs.declared.fault.AdmitFault.TheVariants as faults
use Rattle.universe_core.proofs.Continuing.{newest_code}
use Rattle.universe_core.proofs.following.shrunk_in.Goals as goal

pub returns-in-Some-shrinks : goal.returns-in-Some-shrinks
returns-in-Some-shrinks c =
    ap (option_map faults.CoverageShrinks) (c.in-Some-shrinks.ensures.first ∙ (λ k. first_outside (c.deref.ensures.value k) (c.deref-in-Some.ensures.value k)))
    ∙ ap (λ p. shrunk p (facts_of_job c.args.job.now)) (ap (option_map part_fields) c.in-Some.ensures.value ∙ newest_code c.args.parts.now)

pub returns-in-None-shrinks : goal.returns-in-None-shrinks
returns-in-None-shrinks c =
    ap (option_map faults.CoverageShrinks) (c.in-None-shrinks.ensures.first ∙ (λ k. first_outside (c.deref.ensures.value k) (c.deref-in-Some.ensures.value k)))
    ∙ ap (λ p. shrunk p (facts_of_job c.args.job.now)) (ap (option_map part_fields) c.in-Some.ensures.value ∙ newest_code c.args.parts.now)

pub returns-in-None : goal.returns-in-None
returns-in-None c = ap (λ p. shrunk p (facts_of_job c.args.job.now)) (ap (option_map part_fields) c.in-None.ensures.value ∙ newest_code c.args.parts.now)
