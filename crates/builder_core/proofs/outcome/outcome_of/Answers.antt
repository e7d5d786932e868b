use Rattle.builder_core.specs.Tasks.{task_fields}
use Rattle.builder_core.proofs.Faults.{outcome_is}
use Rattle.builder_core.proofs.outcome.outcome_of.Goals as goal

pub returns : goal.returns
returns g c =
    outcome_is (g.H.EquationHash.row_of c.args.hash.now) (task_fields c.args.task.now) c.built_of-built.result c.of_issuer.result c.built_of-built.ensures c.of_issuer.ensures
