use Rattle.std.proofs.Common.{◌≡◌, ◌≤◌, take}
use Rattle.std.specs.Prelude.{flat_map}
use Rattle.outside_core.specs.Written.{followed_by}
use Rattle.line_core.specs.Lines.{range_line}
use Rattle.line_core.proofs.show.write_ranges.Given as goal

abbrev pub invariant-loop-range : goal.invariant-loop-range
invariant-loop-range g l = record {
  written : g.K.Sink.written l.out ≡ followed_by (g.K.Sink.written l.fn.out) (flat_map range_line (take l.range-index l.ranges));
  later : g.K.Sink.faults l.fn.out ≤ g.K.Sink.faults l.out;
}
