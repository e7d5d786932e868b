use Rattle.std.proofs.Common.{◌≡◌, length}
use Rattle.octets_core.specs.Walk.{all_of}
use Rattle.octets_core.specs.Vectors.{some_vector}
use Rattle.log_core.specs.Entries.{is_cut}
use Rattle.log_core.proofs.reading.are_vectors.Given as goal

abbrev pub invariant-loop-rest : goal.invariant-loop-rest
invariant-loop-rest l = is_cut (all_of (some_vector 3) l.rest) ≡ is_cut (all_of (some_vector 3) l.bytes)

abbrev pub decreases-loop-rest : goal.decreases-loop-rest
decreases-loop-rest l = length l.rest
