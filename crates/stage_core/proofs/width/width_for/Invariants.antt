use Rattle.std.proofs.Common.{◌-◌}
use Rattle.stage_core.proofs.Widths.{Widening}
use Rattle.stage_core.proofs.width.width_for.Given as goal

abbrev pub invariant-loop-width : goal.invariant-loop-width
invariant-loop-width l = Widening l.revoked l.others l.width

abbrev pub decreases-loop-width : goal.decreases-loop-width
decreases-loop-width l = 16 - l.width
