use Rattle.std.proofs.Common.{◌≡◌, ◌≤◌}
use Rattle.benches.proofs.ribbon.build.Given as goal

abbrev pub invariant-loop-done : goal.invariant-loop-done
invariant-loop-done l = record {
  starts : l.system.starts ≡ l.starts;
  planes : l.system.planes ≡ l.planes;
  kept : l.kept ≤ l.done;
}
