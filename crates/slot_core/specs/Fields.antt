-- What the calls that read and write a device's fields give and leave.
use Rattle.std.specs.Prelude.{◌≡◌, ℕ, ◌+◌, ◌-◌, ◌<◌, ◌≤◌, Bool, true, false, List, length, Option, None, Some}
use Rattle.slot_core.specs.declared.device.TheConstants.{LENGTH}
use Rattle.slot_core.specs.Disk.{Torn, piece}
use Rattle.slot_core.specs.Device.{StandsAt}

-- the buffer is the disk's bytes from a place on, or there are too few
abbrev pub IsFilled : List ℕ → ℕ → List ℕ → Bool → Type 0
IsFilled bytes at buf true = (buf ≡ piece at (length buf) bytes) × (length buf ≤ length bytes - at)
IsFilled bytes at buf false = length bytes < at + length buf

-- the same where bytes are told
abbrev pub Fills : Option (List ℕ) → ℕ → List ℕ → Bool → Type 0
Fills told at buf whole = (bytes : List ℕ) → told ≡ Some bytes → IsFilled bytes at buf whole

-- the number that stands there, or there are too few bytes
abbrev pub IsNumber : List ℕ → ℕ → Option ℕ → Type 0
IsNumber bytes at (Some number) = StandsAt at number bytes
IsNumber bytes at None = length bytes < at + 8

abbrev pub ReadsNumber : Option (List ℕ) → ℕ → Option ℕ → Type 0
ReadsNumber told at number = (bytes : List ℕ) → told ≡ Some bytes → IsNumber bytes at number

-- where bytes are told, this holds of them
abbrev pub Shows : Option (List ℕ) → (List ℕ → Type 0) → Type 0
Shows told P = (device : List ℕ) → told ≡ Some device → P device

-- the length and the bytes stand there, and other bytes as before
pub record WritesSlot (at : ℕ) (bytes old new : List ℕ) : Type 0 where
  pub stands : StandsAt at (length bytes) new
  pub held : piece (at + LENGTH) (length bytes) new ≡ bytes
  pub torn : Torn at (LENGTH + length bytes) old new
