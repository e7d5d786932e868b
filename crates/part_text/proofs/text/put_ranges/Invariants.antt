use Rattle.std.proofs.Common.{take}
use Rattle.std.specs.Prelude.{flat_map, All}
use Rattle.part_text.specs.Output.{Wrote}
use Rattle.ident_core.specs.RangeText.{range_text, RangeFits}
use Rattle.part_text.proofs.text.put_ranges.Given as goal

abbrev pub invariant-loop-range : goal.invariant-loop-range
invariant-loop-range g l = record {
  text : Wrote g.O.Output.given l.fn.out l.out (flat_map range_text (take l.range-index l.ranges));
  fits : All RangeFits (take l.range-index l.ranges);
}
