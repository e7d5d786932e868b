-- A file that is read in order, through a window on it.
use Rattle.std.specs.Prelude.{◌≡◌, ℕ, ◌+◌, ◌-◌, ◌^◌, ◌≤◌, ◌<◌, ◌⊎◌, ◌↔◌, List, [], length, take, drop, Option, Some}
use Rattle.std.specs.FinMap.{get}
use Rattle.outside_core.specs.Files.{Files}

-- the most bytes that one call offers, and that a window can hold
abbrev pub most_at_once : ℕ
most_at_once = 4096

-- the bytes of a buffer that were read and aren't taken
abbrev pub untaken : List ℕ → ℕ → ℕ → List ℕ
untaken buffer start end = take (end - start) (drop start buffer)

-- the window is a run of the file's bytes, from this place on
pub record IsWindow (bytes : List ℕ) (at : ℕ) (window : List ℕ) : Type 0 where
  pub same : window ≡ take (length window) (drop at bytes)
  pub within : at + length window ≤ length bytes

-- Where files are told and bytes were read, the name is held and the window is the file's bytes from this place on.
abbrev pub InOrder : Option Files → List ℕ → ℕ → List ℕ → Type 0
InOrder told name at window =
    (files : Files) → told ≡ Some files → 0 < at + length window
    → (bytes : List ℕ) × (get files name ≡ Some bytes) × IsWindow bytes at window

-- all the file's bytes, or as many as can be numbered, were taken
abbrev pub IsTaken : List ℕ → ℕ → Type 0
IsTaken bytes at = (length bytes ≤ at) ⊎ (at ≡ 2 ^ 64 - 1)

-- Where files are told, the name is held and the window is the file's bytes from this place on; it is empty exactly
-- where all are taken.
abbrev pub Offers : Option Files → List ℕ → ℕ → List ℕ → Type 0
Offers told name at window =
    (files : Files) → told ≡ Some files
    → (bytes : List ℕ) × (get files name ≡ Some bytes) × IsWindow bytes at window × (window ≡ [] ↔ IsTaken bytes at)
