use Rattle.std.proofs.Common.{◌≤◌}
use Rattle.benches.proofs.ribbon.accepted.Given as goal

abbrev pub invariant-loop-done : goal.invariant-loop-done
invariant-loop-done g l = record {
  accepted : l.accepted ≤ l.done;
}
