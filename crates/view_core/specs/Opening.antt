-- Stores that are opened over lent bytes.
use Rattle.std.specs.Prelude.{◌≡◌, ℕ, ◌^◌, List, length, take, nat_lt, if◌then◌else◌, Result, Ok, Err}
use Rattle.octets_core.specs.Reading.{value_of}
use Rattle.part_text.specs.SealedFields.{SealedFields}
use Rattle.store_core.specs.StoreLayout.{store}
use Rattle.store_core.specs.declared.fault.StoreFault.{StoreFault}
use Rattle.view_core.specs.Index.{index_of}
use Rattle.view_core.specs.Checking.{store_note}
use Rattle.view_core.specs.declared.opened.Opened.{Opened}
use Rattle.view_core.specs.declared.opened.OpenFault.{OpenFault}
use Rattle.view_core.specs.declared.opened.OpenFault.TheVariants as faults

-- The bytes are the store of these parts, and the words begin with its index.
pub record IsOpened (bytes words : List ℕ) (parts : List SealedFields) : Type 0 where
  pub store : value_of (store bytes 0) ≡ Ok parts
  pub index : take (length (index_of parts)) words ≡ index_of parts

abbrev pub opened : List SealedFields → Opened
opened parts = record { note = store_note parts; words = length (index_of parts) }

-- what was read, where an index has room for so many words
abbrev pub with_room : ℕ → Result (List SealedFields) StoreFault → Result Opened OpenFault
with_room room (Ok parts) =
    if nat_lt room (length (index_of parts)) then Err (faults.IndexTooShort (length (index_of parts)))
    else Ok (opened parts)
with_room room (Err e) = Err (faults.Store e)

-- What opening bytes comes to: they are fewer than 2^32, and a store, and there is room for its index; or the first of
-- these that doesn't hold.
abbrev pub opening : ℕ → List ℕ → Result Opened OpenFault
opening room bytes = if nat_lt (length bytes) (2 ^ 32) then with_room room (value_of (store bytes 0)) else Err faults.TooLong
