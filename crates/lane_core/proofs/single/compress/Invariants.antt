use Rattle.std.proofs.Common.{◌≡◌, ◌*◌}
use Rattle.sha2.specs.Sha256.{rounds}
use Rattle.lane_core.specs.Lanes.{lane}
use Rattle.lane_core.proofs.single.compress.Given as goal

abbrev pub invariant-rounds : goal.invariant-rounds
invariant-rounds l = l.v ≡ rounds l.state (lane l.j l.w) (8 * l.turn)
