-- What is told of a store that was gone through.
use Rattle.std.specs.Prelude.{◌≡◌, ℕ, List, length, Result, Ok, Err, codes}
use Rattle.std.specs.Int.{w8}
use Rattle.octets_core.specs.Layout.{Layout, ◌>>=◌, whole}
use Rattle.octets_core.specs.Reading.{number, magic, value_of}
use Rattle.octets_core.specs.declared.field.Field.TheVariants as fields
use Rattle.octets_core.specs.declared.fault.LayoutFault.{LayoutFault}
use Rattle.ident_core.specs.declared.bounds.TheConstants.{MAX_PARTS}
use Rattle.part_text.specs.SealedFields.{SealedFields}
use Rattle.store_core.specs.Chain.{newest_of}
use Rattle.store_core.specs.Newest.{epoch_of}
use Rattle.store_core.specs.StoreLayout.{store_parts, store}
use Rattle.store_core.specs.declared.fault.StoreFault.{StoreFault}
use Rattle.view_core.specs.Scanning.{IsNewestAt, end_of}
use Rattle.view_core.specs.declared.check.StoreNote.{StoreNote}
use Rattle.view_core.specs.declared.scan.ReadPart.{ReadPart}

-- the fields before the first part: how many parts follow
unfoldable pub store_head : Layout LayoutFault ℕ
store_head = do
  begin ← magic fields.StoreMagic (codes "CLUBSTOR")
  version ← number fields.StoreVersion w8 1 1
  count ← number fields.StoreCount w8 1 MAX_PARTS
  whole count

-- what the layout of a store reads up to its end: parts, the newest of which was read last, or a fault
abbrev pub ReadsParts : List ℕ → Result (ℕ × ReadPart) StoreFault → Type 0
ReadsParts bytes (Ok x) = (parts : List SealedFields) × (store_parts bytes 0 ≡ Ok (parts, end_of x.1)) × IsNewestAt bytes x.1 parts x.0
ReadsParts bytes (Err e) = store_parts bytes 0 ≡ Err e

-- the same, where the end is tested too
abbrev pub ReadsStore : List ℕ → Result (ℕ × ReadPart) StoreFault → Type 0
ReadsStore bytes (Ok x) = (parts : List SealedFields) × (value_of (store bytes 0) ≡ Ok parts) × IsNewestAt bytes x.1 parts x.0
ReadsStore bytes (Err e) = value_of (store bytes 0) ≡ Err e

-- how many parts, and the newest one's epoch
abbrev pub store_note : List SealedFields → StoreNote
store_note parts = record { parts = length parts; newest_epoch = epoch_of (newest_of parts) }

-- of what was read
abbrev pub noted_store : Result (List SealedFields) StoreFault → Result StoreNote StoreFault
noted_store (Ok parts) = Ok (store_note parts)
noted_store (Err e) = Err e
