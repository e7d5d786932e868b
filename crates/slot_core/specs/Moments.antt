-- What a crash may leave over a run of calls.
use Rattle.std.specs.Prelude.{◌⊎◌, ℕ, ◌≤◌, List}
use Rattle.slot_core.specs.Disk.{Images, Within, DiskState}

-- A crash at any moment from old to new leaves an image with P, also inside a call.
pub record LeavesOnly (old new : DiskState) (P : Images) : Type 0 where
  pub later : old.clock ≤ new.clock
  pub each : Within (new.since old.clock) P
  pub now : Within new.images P
  -- for a run that began earlier
  pub before : (t : ℕ) (image : List ℕ) → t ≤ old.clock → new.since t image → old.since t image ⊎ P image
