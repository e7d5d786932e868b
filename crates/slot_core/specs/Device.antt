-- The layout of a device: a gate, a header and two slots, of which the gate picks one. Numbers are big-endian.
--   gate 1 byte, "CLUBSLOT" 8, version 1, capacity 8; from 4096 on the first slot, and behind its room the second, each
--   a length of 8 bytes and its bytes
use Rattle.std.specs.Prelude.{◌≡◌, ℕ, ◌+◌, ◌%◌, ◌≤◌, Bool, if◌then◌else◌, nat_eq, List, [], ◌∷◌, length, slice_index}
use Rattle.std.specs.Int.{w64, to_be_bytes}
use Rattle.slot_core.specs.declared.device.TheConstants.{FIRST_SLOT, LENGTH, MAX_CAPACITY}
use Rattle.slot_core.specs.Disk.{piece}

-- "CLUBSLOT"
abbrev pub magic : List ℕ
magic = 0x43 ∷ 0x4c ∷ 0x55 ∷ 0x42 ∷ 0x53 ∷ 0x4c ∷ 0x4f ∷ 0x54 ∷ []

-- the low bit of the gate picks the slot
abbrev pub picks_second : List ℕ → Bool
picks_second device = nat_eq (slice_index device 0 % 2) 1

-- where a slot stands
abbrev pub slot_at : ℕ → Bool → ℕ
slot_at capacity second = if second then FIRST_SLOT + LENGTH + capacity else FIRST_SLOT

-- where the picked slot stands
abbrev pub picked_at : ℕ → List ℕ → ℕ
picked_at capacity device = slot_at capacity (picks_second device)

-- a number of eight bytes stands there
abbrev pub StandsAt : ℕ → ℕ → List ℕ → Type 0
StandsAt at n device = piece at 8 device ≡ to_be_bytes w64 n

-- the fields behind the gate, with this capacity
pub record IsHeader (capacity : ℕ) (device : List ℕ) : Type 0 where
  pub mark : piece 1 8 device ≡ magic
  pub version : piece 9 1 device ≡ 1 ∷ []
  pub stands : StandsAt 10 capacity device
  pub low : 1 ≤ capacity
  pub high : capacity ≤ MAX_CAPACITY

-- a slot of this capacity that holds these bytes
pub record IsSlot (at capacity : ℕ) (bytes device : List ℕ) : Type 0 where
  pub within : length bytes ≤ capacity
  pub stands : StandsAt at (length bytes) device
  pub held : piece (at + LENGTH) (length bytes) device ≡ bytes

-- a device of this capacity whose picked slot holds these bytes
pub record IsDevice (capacity : ℕ) (bytes device : List ℕ) : Type 0 where
  pub header : IsHeader capacity device
  pub slot : IsSlot (picked_at capacity device) capacity bytes device

-- the first field that is short or fails stands there
pub data BreaksAt (device : List ℕ) : ℕ → Type 0 where
  no_gate : length device ≡ 0 → BreaksAt device 0
  no_mark : 1 ≤ length device → (piece 1 8 device ≡ magic → ⊥) → BreaksAt device 1
  no_version : piece 1 8 device ≡ magic → (piece 9 1 device ≡ 1 ∷ [] → ⊥) → BreaksAt device 9
  no_capacity : piece 1 8 device ≡ magic → piece 9 1 device ≡ 1 ∷ [] → ((n : ℕ) → IsHeader n device → ⊥) → BreaksAt device 10
  no_slot : (n : ℕ) → IsHeader n device → ((bytes : List ℕ) → IsSlot (picked_at n device) n bytes device → ⊥)
      → BreaksAt device (picked_at n device)
