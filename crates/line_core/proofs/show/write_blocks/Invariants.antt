use Rattle.std.proofs.Common.{◌≡◌, ◌≤◌, take}
use Rattle.std.specs.Prelude.{flat_map}
use Rattle.outside_core.specs.Written.{followed_by}
use Rattle.line_core.specs.Lines.{block_lines}
use Rattle.line_core.proofs.show.write_blocks.Given as goal

abbrev pub invariant-loop-block : goal.invariant-loop-block
invariant-loop-block g l = record {
  written : g.K.Sink.written l.out ≡ followed_by (g.K.Sink.written l.fn.out) (flat_map block_lines (take l.block-index l.blocks));
  later : g.K.Sink.faults l.fn.out ≤ g.K.Sink.faults l.out;
}
