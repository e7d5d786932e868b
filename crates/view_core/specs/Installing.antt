-- Parts that a store takes, and the bytes of the store with such a part.
use Rattle.std.specs.Prelude.{◌≡◌, ℕ, ◌+◌, ◌^◌, ◌<◌, List, [], ◌∷◌, ◌++◌, length, take, nat_le, nat_lt, if◌then◌else◌}
use Rattle.std.specs.Prelude.{Option, Some, None, Result, Ok, Err}
use Rattle.octets_core.specs.Layout.{Layout, ◌>>=◌, whole}
use Rattle.octets_core.specs.Reading.{end, value_of}
use Rattle.octets_core.specs.declared.fault.LayoutFault.{LayoutFault}
use Rattle.part_text.specs.SealedFields.{SealedFields}
use Rattle.part_text.specs.PartLayout.{sealed}
use Rattle.part_text.specs.PartText.{spelling}
use Rattle.store_core.specs.Chain.{refusal_of}
use Rattle.store_core.specs.StoreLayout.{store as store_layout, store_text}
use Rattle.store_core.specs.declared.chain.Refusal.{Refusal}
use Rattle.store_core.specs.declared.fault.StoreFault.{StoreFault}
use Rattle.view_core.specs.declared.installing.InstallFault.{InstallFault}
use Rattle.view_core.specs.declared.installing.InstallFault.TheVariants as faults

-- a part, and no byte behind it
unfoldable pub part_alone : Layout LayoutFault SealedFields
part_alone = do
  s ← sealed
  nothing ← end
  whole s

-- ---- the parts of the store with the part

-- with a part that the rules of the chain refuse, or don't
abbrev pub parts_by : Option Refusal → List SealedFields → SealedFields → Result (List SealedFields) InstallFault
parts_by None parts given = Ok (parts ++ given ∷ [])
parts_by (Some why) parts given = Err (faults.Refused why)

-- with what was read as a part
abbrev pub parts_and : List SealedFields → Result (SealedFields × ℕ) LayoutFault → Result (List SealedFields) InstallFault
parts_and parts (Ok x) = parts_by (refusal_of parts x.0) parts x.0
parts_and parts (Err e) = Err (faults.Part e)

-- of what was read as a store, and with what was read as a part
abbrev pub store_and : Result (List SealedFields) StoreFault → Result (SealedFields × ℕ) LayoutFault
    → Result (List SealedFields) InstallFault
store_and (Ok parts) part = parts_and parts part
store_and (Err e) part = Err (faults.Store e)

-- By the bytes of the store and of the part. The store is tested first, then the part, and then the rules of the chain.
unfoldable pub parts_with : List ℕ → List ℕ → Result (List SealedFields) InstallFault
parts_with store part =
    if nat_le (2 ^ 32) (length store) then Err faults.TooLong else
    store_and (value_of (store_layout store 0)) (part_alone part 0)

-- the store of these parts takes the part that the bytes are
pub record IsTaken (store part : List ℕ) (parts : List SealedFields) (given : SealedFields) : Type 0 where
  pub store_is : value_of (store_layout store 0) ≡ Ok parts
  pub part_is : part_alone part 0 ≡ Ok (given, length part)
  pub taken : refusal_of parts given ≡ None
  pub few : length store < 2 ^ 32

-- how many parts there are then, or why it isn't taken
abbrev pub CountsWith : List ℕ → List ℕ → Result ℕ InstallFault → Type 0
CountsWith store part (Ok count) =
    (parts : List SealedFields) × (given : SealedFields) × IsTaken store part parts given × (count ≡ length parts + 1)
CountsWith store part (Err e) = parts_with store part ≡ Err e

-- ---- its bytes

-- how many bytes are written, where so many are wanted and there is room for so many
abbrev pub written_in : ℕ → ℕ → Result (List SealedFields) InstallFault → Result ℕ InstallFault
written_in room wanted (Ok parts) = if nat_lt room wanted then Err (faults.RoomTooShort wanted) else Ok wanted
written_in room wanted (Err e) = Err e

-- what an install answers, by the bytes of the store and of the part and the room that there is
abbrev pub installed : List ℕ → List ℕ → ℕ → Result ℕ InstallFault
installed store part room = written_in room (length store + length part) (parts_with store part)

-- so many bytes were written, which are the store with the part
pub record IsInstalled (store part new : List ℕ) (n : ℕ) : Type 0 where
  pub parts : List SealedFields
  pub given : SealedFields
  pub taken : IsTaken store part parts given
  pub spelled : part ≡ spelling given
  pub length_is : n ≡ length store + length part
  pub text : take n new ≡ store_text (parts ++ given ∷ [])
  -- and are read as its parts
  pub again : value_of (store_layout (take n new) 0) ≡ Ok (parts ++ given ∷ [])
