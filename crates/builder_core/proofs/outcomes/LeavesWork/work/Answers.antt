use Rattle.std.proofs.Common.{map}
use Rattle.builder_core.specs.Tasks.{task_fields}
use Rattle.builder_core.specs.Outcomes.{IsOutcomeAt}
use Rattle.builder_core.proofs.OutcomesInPlace.{outcome_at, settled_as}
use Rattle.builder_core.proofs.outcomes.LeavesWork.work.Goals as goal

pub returns : goal.returns
returns g c =
    let rows = g.H.EquationHash.row_of c.args.self.now.hash.now in
    let tasks = c.args.self.now.tasks.now in
    let place = c.args.place in
    let task = c.index-self-place.result in
    let come = (c.requires.ready place _).1 c.call-outcome.result c.call-outcome.ensures in
    settled_as (IsOutcomeAt rows (map task_fields tasks) place) c.call-outcome.result c.settled.result c.settled.ensures
    (outcome_at rows tasks place task c.call-outcome.result c.requires.place come)
