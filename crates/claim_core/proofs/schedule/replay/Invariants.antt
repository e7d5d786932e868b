use Rattle.std.proofs.Common.{◌≡◌, ◌++◌, drop}
use Rattle.claim_core.specs.Schedule.{draws, draws_from}
use Rattle.claim_core.proofs.schedule.replay.Given as goal

abbrev pub invariant-loop-worker : goal.invariant-loop-worker
invariant-loop-worker l = record {
  counted : l.number ≡ l.worker-index;
  drawn : l.taken.items ++ draws_from l.number (drop l.worker-index l.schedule) ≡ draws l.schedule;
}
