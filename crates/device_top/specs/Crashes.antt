-- What a crash may leave of a device at a moment of `device-install`.
use Rattle.std.specs.Prelude.{◌≡◌, ◌⊎◌, ℕ, List, Option, Some, Ok}
use Rattle.outside_core.specs.Files.{Files}
use Rattle.part_text.specs.SealedFields.{SealedFields}
use Rattle.slot_core.specs.Disk.{DiskState, Images, Within}
use Rattle.slot_core.specs.Device.{IsDevice}
use Rattle.slot_core.specs.Moments.{LeavesOnly}
use Rattle.input_core.specs.Readings.{store_in}
use Rattle.device_top.specs.Appended.{Grows, new_text}

-- a device whose picked slot holds these bytes
abbrev pub Holds : List ℕ → Images
Holds bytes image = (capacity : ℕ) × IsDevice capacity bytes image

-- a device with a store
abbrev pub HoldsStore : Images
HoldsStore image = (bytes : List ℕ) × (parts : List SealedFields) × Holds bytes image × (store_in bytes ≡ Ok parts)

-- a store that some image of those held
abbrev pub HoldsAnOld : Images → Images
HoldsAnOld start image = (earlier : List ℕ) × start earlier × (bytes : List ℕ) × Holds bytes earlier × Holds bytes image

-- The new store: what this device holds, with the part that the file of this name gave behind it.
pub record HoldsTheNew
    (told : Option Files) (failed : Option (List ℕ) → Type 0) (part device image : List ℕ)
    : Type 0 where
  pub held : List ℕ
  pub is_held : Holds held device
  pub grows : Grows told failed part held
  pub holds : Holds (new_text grows) image

-- Where each image at the start is a device with a store, a crash at any moment leaves a store that an image at the
-- start held, or the new store: that of this device, which reads give at the start, with the part that the file of this
-- name gave behind it.
abbrev pub Survives : Option Files → (Option (List ℕ) → Type 0) → List ℕ → DiskState → DiskState → Type 0
Survives told failed part old new =
    (device : List ℕ) → old.told ≡ Some device → Within old.images HoldsStore
    → LeavesOnly old new (λ image. HoldsAnOld old.images image ⊎ HoldsTheNew told failed part device image)
