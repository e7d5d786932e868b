use Rattle.part_codec.specs.Stepping.{ArePadded}
use Rattle.part_codec.proofs.fields.are_padded.Given as goal

abbrev pub invariant-loop-plane : goal.invariant-loop-plane
invariant-loop-plane l = ArePadded l.starts l.plane l.planes
