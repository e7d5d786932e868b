use Rattle.std.proofs.Common.{◌≡◌, length}
use Rattle.octets_core.specs.Walk.{all_of}
use Rattle.sct_core.specs.Timestamps.{timestamp}
use Rattle.sct_core.specs.Outcome.{of_timestamps}
use Rattle.sct_core.proofs.ListLaws.{continued}
use Rattle.sct_core.proofs.list.sightings_in.Given as goal

-- the sightings so far, and what follows, come to what all of them come to
abbrev pub invariant-loop-rest : goal.invariant-loop-rest
invariant-loop-rest l = continued l.kept l.many (all_of timestamp l.rest) ≡ of_timestamps (all_of timestamp l.list)

abbrev pub decreases-loop-rest : goal.decreases-loop-rest
decreases-loop-rest l = length l.rest
