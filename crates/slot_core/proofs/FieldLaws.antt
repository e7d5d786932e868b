-- The fields of a device.
use Rattle.std.proofs.Common.{◌≡◌, ◌⊎◌, ⊎_elim, ℕ, ◌+◌, ◌-◌, ◌^◌, ◌<◌, ◌≤◌, Bool, true, false, List, [], ◌∷◌, length, drop, Some, sym, ap, ◌∙◌, subst, arith, length-take, length-drop}
use Rattle.std.specs.Int.{w64, to_be_bytes, from_be_bytes}
use Rattle.std.proofs.lemmas.Nat.{from_be_bytes-to_be_bytes_8}
use Rattle.outside_core.specs.Files.{Rose}
use Rattle.slot_core.specs.Disk.{DiskState, piece}
use Rattle.slot_core.specs.Device.{StandsAt, IsHeader, IsSlot, BreaksAt, no_gate, no_mark, no_version, no_capacity, no_slot, slot_at, picks_second, picked_at, magic}
use Rattle.slot_core.specs.declared.device.TheConstants.{MAX_CAPACITY}
use Rattle.slot_core.specs.Fields.{IsFilled}
use Rattle.slot_core.specs.Refusals.{Refuses}
use Rattle.slot_core.specs.declared.fault.SlotFault.{SlotFault}
use Rattle.slot_core.specs.declared.fault.SlotFault.TheVariants.{BadDevice, TooLong, DiskFault, NoMemory}

pub Rose-later : (before mid now : ℕ) → before ≤ mid → Rose mid now → Rose before now
Rose-later before mid now le rose = omega (arith, rose)

-- a refusal of a later call
pub Refuses-later : (bad worse : List ℕ → ℕ → Type 0) (old mid new : DiskState) → mid.told ≡ old.told → old.faults ≤ mid.faults
    → ((bytes : List ℕ) (at : ℕ) → old.told ≡ Some bytes → bad bytes at → worse bytes at) → (fault : SlotFault) → Refuses bad mid new fault → Refuses worse old new fault
Refuses-later bad worse old mid new same le weaker (BadDevice at) is = λ bytes reads. weaker bytes at reads (is bytes (same ∙ reads))
Refuses-later bad worse old mid new same le weaker (TooLong capacity) is = absurd is
Refuses-later bad worse old mid new same le weaker DiskFault is = Rose-later old.faults mid.faults new.faults le is
Refuses-later bad worse old mid new same le weaker NoMemory is = absurd is

-- one number stands at a place
pub stands-once : (at a b : ℕ) (device : List ℕ) → StandsAt at a device → StandsAt at b device → a < 2 ^ 64 → b < 2 ^ 64 → a ≡ b
stands-once at a b device is other low high =
    sym (from_be_bytes-to_be_bytes_8 a low) ∙ ap (from_be_bytes w64) (sym is ∙ other) ∙ from_be_bytes-to_be_bytes_8 b high

-- a slot is there where its last byte is
pub slot-there : (at capacity count : ℕ) (device : List ℕ) → StandsAt at count device → count ≤ capacity → count ≤ length device - (at + 8)
    → (bytes : List ℕ) × IsSlot at capacity bytes device × (count ≡ length bytes)
slot-there at capacity count device stands few there =
    let bytes = piece (at + 8) count device in
    let size : length bytes ≡ count = omega (arith, length-take count (drop (at + 8) device), length-drop (at + 8) device) in (
      bytes,
      record {
        within = omega (arith, size);
        stands = stands ∙ ap (to_be_bytes w64) (sym size);
        held = ap (λ (n : ℕ). piece (at + 8) n device) size;
      },
      sym size,
    )

pub short-slot : (at capacity : ℕ) (device : List ℕ) → length device < at + 8 → (bytes : List ℕ) → IsSlot at capacity bytes device → ⊥
short-slot at capacity device short bytes slot =
    omega (arith, ap length slot.stands, length-take 8 (drop at device), length-drop at device)

pub breaks-mark : (device : List ℕ) (at : ℕ) → at ≡ 1 → 1 ≤ length device → (piece 1 8 device ≡ magic → ⊥) → BreaksAt device at
breaks-mark device at is there none = subst (BreaksAt device) (sym is) (no_mark there none)

pub breaks-version : (device : List ℕ) (at : ℕ) → at ≡ 9 → piece 1 8 device ≡ magic → (piece 9 1 device ≡ 1 ∷ [] → ⊥) → BreaksAt device at
breaks-version device at is marked none = subst (BreaksAt device) (sym is) (no_version marked none)

pub no-capacity : (device : List ℕ) → piece 1 8 device ≡ magic → piece 9 1 device ≡ 1 ∷ [] → length device < 18 → BreaksAt device 10
no-capacity device marked versioned short =
    no_capacity marked versioned (λ n header. omega (arith, ap length header.stands, length-take 8 (drop 10 device), length-drop 10 device))

pub few-capacity : (device : List ℕ) (n : ℕ) → piece 1 8 device ≡ magic → piece 9 1 device ≡ 1 ∷ [] → StandsAt 10 n device → n < 2 ^ 64 → (n < 1) ⊎ (MAX_CAPACITY < n) → BreaksAt device 10
few-capacity device n marked versioned stands fits bad =
    no_capacity marked versioned (λ m header.
    let same : n ≡ m = stands-once 10 n m device stands header.stands fits (omega (arith, header.high)) in
    ⊎_elim (λ low. omega (arith, low, same, header.low)) (λ high. omega (arith, high, same, header.high)) bad)

pub breaks-gate : (device : List ℕ) (at : ℕ) → at ≡ 0 → length device ≡ 0 → BreaksAt device at
breaks-gate device at is none = subst (BreaksAt device) (sym is) (no_gate none)

pub breaks-slot : (device : List ℕ) (at capacity place : ℕ) (second : Bool) → at ≡ place → place ≡ slot_at capacity second → second ≡ picks_second device → IsHeader capacity device
    → ((bytes : List ℕ) → IsSlot place capacity bytes device → ⊥) → BreaksAt device at
breaks-slot device at capacity place second is stands picks header none =
    let there : place ≡ picked_at capacity device = stands ∙ ap (slot_at capacity) picks in
    subst (BreaksAt device) (sym (is ∙ there)) (no_slot capacity header (λ bytes slot. none bytes (subst (λ (p : ℕ). IsSlot p capacity bytes device) (sym there) slot)))

pub filled-whole : (whole : Bool) (bytes : List ℕ) (at : ℕ) (buf : List ℕ) → whole ≡ true → IsFilled bytes at buf whole → length buf ≤ length bytes - at
filled-whole true bytes at buf is filled = filled.1
filled-whole false bytes at buf is filled = absurd (cc)
