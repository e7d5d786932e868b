use Rattle.std.proofs.Common.{◌≡◌, ◌++◌, take}
use Rattle.std.specs.Prelude.{flat_map, All}
use Rattle.ident_core.specs.RangeText.{range_text, RangeFits}
use Rattle.ident_core.proofs.layout.put_ranges.Given as goal

abbrev pub invariant-loop-range : goal.invariant-loop-range
invariant-loop-range l = record {
  text : l.out.items ≡ l.fn.out.items ++ flat_map range_text (take l.range-index l.ranges);
  fits : All RangeFits (take l.range-index l.ranges);
}
