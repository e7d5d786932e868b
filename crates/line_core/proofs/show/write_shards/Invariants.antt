use Rattle.std.proofs.Common.{◌≡◌, ◌≤◌, take}
use Rattle.outside_core.specs.Written.{followed_by}
use Rattle.line_core.specs.Lines.{shard_lines}
use Rattle.line_core.proofs.show.write_shards.Given as goal

abbrev pub invariant-loop-place : goal.invariant-loop-place
invariant-loop-place g l = record {
  written : g.K.Sink.written l.out ≡ followed_by (g.K.Sink.written l.fn.out) (shard_lines 0 (take l.place l.leaves));
  later : g.K.Sink.faults l.fn.out ≤ g.K.Sink.faults l.out;
}
