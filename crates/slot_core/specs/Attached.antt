-- A disk that was attached.
use Rattle.std.specs.Prelude.{◌≡◌, ◌⊎◌, ℕ, Bool, List, length, Some}
use Rattle.slot_core.specs.Disk.{Images, Within, DiskState}
use Rattle.slot_core.specs.Device.{IsDevice, picks_second}
use Rattle.slot_core.specs.View.{SlotsView}

-- what is known of the device
pub record IsPlace (slots : SlotsView) (bytes device : List ℕ) : Type 0 where
  pub holds : IsDevice slots.capacity bytes device
  pub picks : slots.second ≡ picks_second device
  pub count : slots.length ≡ length bytes

-- reads give a device of this capacity whose slot of this side is picked and holds these bytes, and a crash leaves what
-- reads give
pub record IsAttached (disk : DiskState) (capacity : ℕ) (second : Bool) (bytes : List ℕ) : Type 0 where
  pub device : List ℕ
  pub reads : disk.told ≡ Some device
  pub only : Within disk.images (λ image. image ≡ device)
  pub holds : IsDevice capacity bytes device
  pub picks : second ≡ picks_second device

-- the disk was attached as these slots, which hold these bytes
pub record IsSlotsOf (disk : DiskState) (slots : SlotsView) (bytes : List ℕ) : Type 0 where
  pub attached : IsAttached disk slots.capacity slots.second bytes
  pub count : slots.length ≡ length bytes

-- a device whose picked slot holds these bytes or those
abbrev pub IsEither : ℕ → List ℕ → List ℕ → Images
IsEither capacity these those image = IsDevice capacity these image ⊎ IsDevice capacity those image

-- a device of some capacity, whose picked slot holds some bytes
abbrev pub HoldsSome : Images
HoldsSome image = (capacity : ℕ) × (held : List ℕ) × IsDevice capacity held image

-- a device whose picked slot holds these bytes, or what some image of those held
abbrev pub HoldsStart : Images → List ℕ → Images
HoldsStart start bytes image =
    (earlier : List ℕ) × start earlier × (capacity : ℕ) × (held : List ℕ) × IsDevice capacity held earlier
    × IsEither capacity held bytes image
