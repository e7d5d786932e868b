-- A store that grows by the part of a file, and its bytes.
use Rattle.std.specs.Prelude.{◌≡◌, ◌<◌, ℕ, ◌+◌, List, [], ◌∷◌, ◌++◌}
use Rattle.std.specs.Prelude.{take, drop, slice_index, All, Option, Some, None, Ok}
use Rattle.outside_core.specs.Files.{Files}
use Rattle.part_text.specs.SealedFields.{SealedFields}
use Rattle.store_core.specs.Chain.{refusal_of}
use Rattle.store_core.specs.StoreLayout.{store_text}
use Rattle.input_core.specs.Readings.{part_in, store_in}
use Rattle.input_core.specs.Inputs.{IsRead}

-- the bytes of a store, whose count stands at 9, with the count raised by one and the bytes of a part behind them
abbrev pub with_part : List ℕ → List ℕ → List ℕ
with_part store part = take 9 store ++ (slice_index store 9 + 1) ∷ drop 10 store ++ part

-- These bytes are a store, and the file of this name gave a part that nothing is against behind it. The bytes of the
-- store with the part are those of the old one with the count raised by one and those of the file behind them, and are
-- read as the parts with the new one behind them.
pub record Grows (told : Option Files) (failed : Option (List ℕ) → Type 0) (name held : List ℕ) : Type 0 where
  pub parts : List SealedFields
  pub file : List ℕ
  pub added : SealedFields
  pub size : ℕ
  pub is_store : store_in held ≡ Ok parts
  pub is_read : IsRead told failed name (Some file)
  pub is_part : part_in file ≡ Ok (added, size)
  pub taken : refusal_of parts added ≡ None
  pub appended : All (λ b. b < 256) held → All (λ b. b < 256) file
      → (store_text (parts ++ added ∷ []) ≡ with_part held file)
      × (store_in (with_part held file) ≡ Ok (parts ++ added ∷ []))

module _
    {told : Option Files} {failed : Option (List ℕ) → Type 0} {name held : List ℕ} (g : Grows told failed name held)
  where
    -- the parts with the new one behind them
    abbrev pub new_parts : List SealedFields
    new_parts = g.parts ++ g.added ∷ []

    -- the bytes of their store
    abbrev pub new_text : List ℕ
    new_text = store_text new_parts
