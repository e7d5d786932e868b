use Rattle.stage_core.proofs.Shifts.{Narrowing}
use Rattle.stage_core.proofs.shift.shift_for.Given as goal

abbrev pub invariant-loop-shift : goal.invariant-loop-shift
invariant-loop-shift l = Narrowing l.universe l.shift

abbrev pub decreases-loop-shift : goal.decreases-loop-shift
decreases-loop-shift l = l.shift
