use Rattle.std.proofs.Common.{◌-◌}
use Rattle.universe_core.proofs.Narrowing.{Narrowed}
use Rattle.universe_core.proofs.finding.item_of.Given as goal

abbrev pub invariant-loop-low : goal.invariant-loop-low
invariant-loop-low l = Narrowed l.items l.id l.low l.high

abbrev pub decreases-loop-low : goal.decreases-loop-low
decreases-loop-low l = l.high - l.low
