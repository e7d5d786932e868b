use Rattle.std.proofs.Common.{◌≡◌, ◌+◌}
use Rattle.ribbon_core.proofs.reading.run_of.Given as goal

abbrev pub invariant-loop : goal.invariant-loop
invariant-loop g l = record {
  steps : l.steps ≡ l.fn.steps + l.counter;
}
