use Rattle.std.proofs.Common.{get_or}
use Rattle.part_text.specs.Output.{Wrote}
use Rattle.part_text.specs.PlaneBytes.{bytes_of_columns}
use Rattle.part_text.proofs.text.put_plane.Given as goal

abbrev pub invariant-loop-i : goal.invariant-loop-i
invariant-loop-i g l = Wrote g.O.Output.given l.fn.out l.out (bytes_of_columns l.i (get_or l.planes.columns l.plane 0))
