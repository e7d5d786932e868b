use Rattle.std.proofs.Common.{◌-◌}
use Rattle.view_core.proofs.RangeSearch.{Passed}
use Rattle.view_core.proofs.ranges.range_of.Given as goal

abbrev pub invariant-loop-low : goal.invariant-loop-low
invariant-loop-low l = Passed l.bytes l.ranges.at l.ranges.count l.log l.low l.high

abbrev pub decreases-loop-low : goal.decreases-loop-low
decreases-loop-low l = l.high - l.low
