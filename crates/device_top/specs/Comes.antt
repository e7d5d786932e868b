-- What comes of a command over a disk and the depot's files, as far as they are told: of bytes that aren't told, what
-- was read of them is free, and what is said of them is still so of what was read.
use Rattle.std.specs.Prelude.{◌≡◌, ◌⊎◌, ℕ, List, Option, Ok, Err}
use Rattle.outside_core.specs.Files.{Files}
use Rattle.part_text.specs.SealedFields.{SealedFields}
use Rattle.slot_core.specs.Device.{IsDevice, BreaksAt}
use Rattle.slot_core.specs.Fields.{Shows}
use Rattle.word_core.specs.declared.command.Query.{Query}
use Rattle.word_core.specs.declared.device.DeviceCommand.{DeviceCommand}
use Rattle.word_core.specs.declared.device.DeviceCommand.TheVariants as commands
use Rattle.input_core.specs.declared.fault.FileFault.{FileFault}
use Rattle.input_core.specs.Readings.{input_as, part_in, store_in}
use Rattle.input_core.specs.Inputs.{IsRead}
use Rattle.device_top.specs.Outcomes.{Outcome, keeps, format_outcome, install_outcome, query_outcome}
use Rattle.reply_core.specs.Replies.{usage, refusal, bad_device}

-- the bytes of a slot are no store, or the command goes on with its parts
abbrev pub OfSlot : List ℕ → List ℕ → (List SealedFields → Outcome → Type 0) → Outcome → Type 0
OfSlot name bytes next o =
    ((fault : FileFault) × (store_in bytes ≡ Err fault) × (o ≡ keeps (refusal name fault)))
    ⊎ ((parts : List SealedFields) × (store_in bytes ≡ Ok parts) × next parts o)

-- A field of the device of this name is bad, the first of which is told; or the command goes on with what its picked
-- slot holds.
abbrev pub OfDevice : List ℕ → Option (List ℕ) → (ℕ → List SealedFields → Outcome → Type 0) → Outcome → Type 0
OfDevice name disk next o =
    ((at : ℕ) × Shows disk (λ device. BreaksAt device at) × (o ≡ keeps (bad_device at name)))
    ⊎ ((capacity : ℕ) × (bytes : List ℕ) × Shows disk (IsDevice capacity bytes) × OfSlot name bytes (next capacity) o)

-- the command goes on with what the file of this name gave, which is nothing where it can't be read
abbrev pub OfFile : Option Files → (Option (List ℕ) → Type 0) → List ℕ → (Option (List ℕ) → Outcome) → Outcome → Type 0
OfFile told failed name next o = (given : Option (List ℕ)) × IsRead told failed name given × (o ≡ next given)

-- what comes of a query over a disk of these bytes
abbrev pub Queried : Query → Option (List ℕ) → Outcome → Type 0
Queried q disk o = OfDevice q.store disk (λ capacity parts o. o ≡ query_outcome q parts) o

-- what comes of a command over files, with these reads of them that failed, and over a disk of these bytes
abbrev pub Comes : DeviceCommand → Option Files → (Option (List ℕ) → Type 0) → Option (List ℕ) → Outcome → Type 0
Comes commands.Usage told failed disk o = o ≡ keeps usage
Comes (commands.Format f) told failed disk o = OfFile told failed f.store (format_outcome f) o
Comes (commands.Install i) told failed disk o =
    OfDevice i.device disk (λ capacity parts.
    OfFile told failed i.part (λ given. install_outcome i capacity parts (input_as part_in given))) o
Comes (commands.Query q) told failed disk o = Queried q disk o
