use Rattle.std.proofs.Common.{◌≤◌, All}
use Rattle.claim_core.specs.Work.{IsDone}
use Rattle.claim_core.proofs.map.work_alone.Given as goal

abbrev pub invariant-loop : goal.invariant-loop
invariant-loop g l = record {
  source : g.S.Source.below l.source ≤ g.W.Work.size l.jobs;
  done : All (IsDone (g.W.Work.size l.jobs) (g.W.Work.gives l.jobs)) l.done.items;
}
