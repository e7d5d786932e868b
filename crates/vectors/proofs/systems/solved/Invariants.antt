use Rattle.std.proofs.Common.{◌≡◌}
use Rattle.vectors.proofs.systems.solved.Given as goal

abbrev pub invariant-loop-word : goal.invariant-loop-word
invariant-loop-word l = record {
  starts : l.system.starts ≡ l.starts;
  planes : l.system.planes ≡ l.planes;
}
