use Rattle.std.proofs.Common.{◌≡◌, ◌++◌, take}
use Rattle.std.specs.Prelude.{flat_map, All}
use Rattle.ident_core.specs.RangeText.{RangeFits}
use Rattle.job_core.specs.JobText.{range_record}
use Rattle.job_core.proofs.writing.put_ranges.Given as goal

abbrev pub invariant-loop-range : goal.invariant-loop-range
invariant-loop-range l = record {
  text : l.out.items ≡ l.fn.out.items ++ flat_map range_record (take l.range-index l.ranges);
  fits : All RangeFits (take l.range-index l.ranges);
}
