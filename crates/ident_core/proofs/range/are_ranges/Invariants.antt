use Rattle.std.proofs.Common.{◌↔◌, Some, drop}
use Rattle.octets_core.specs.Linked.{Linked}
use Rattle.ident_core.specs.Coverage.{IsRangeAfter, AreRanges}
use Rattle.ident_core.proofs.range.are_ranges.Given as goal

abbrev pub invariant-loop-r : goal.invariant-loop-r
invariant-loop-r l = Linked IsRangeAfter (λ previous r. Some r.log) l.previous (drop l.r-index l.ranges) ↔ AreRanges l.ranges
