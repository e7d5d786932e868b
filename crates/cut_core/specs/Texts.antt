-- Cuts of what jobs hold as it stands, and pieces put together again.
use Rattle.std.specs.Prelude.{◌≡◌, List, [], flat_map, All}
use Rattle.job_core.specs.JobText.{JobContents}
use Rattle.gather_core.specs.Raw.{with_entries}

-- The job may be put behind the head: it has the head's epoch, and no CRLs that would be lost.
pub record IsPiece (head piece : JobContents) : Type 0 where
  pub epoch : piece.epoch ≡ head.epoch
  pub crls : piece.crls ≡ []

-- The job is the head with the entries of the pieces behind its own, in their order.
pub record IsMerged (head : JobContents) (pieces : List JobContents) (job : JobContents) : Type 0 where
  pub each : All (IsPiece head) pieces
  pub whole : job ≡ with_entries head (flat_map (λ j. j.entries) pieces)
