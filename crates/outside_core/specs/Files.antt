-- What a depot tells: a finite map from names to bytes, or nothing.
use Rattle.std.specs.Prelude.{◌≡◌, ◌≢◌, ℕ, ◌+◌, ◌-◌, ◌^◌, ◌≤◌, ◌<◌, ◌⊎◌, min, List, [], ◌∷◌, ◌++◌, take, drop, length}
use Rattle.std.specs.Prelude.{Option, None, Some, unwrap_or}
use Rattle.std.specs.Option.{option_map}
use Rattle.std.specs.Ordering.{nat_cmp}
use Rattle.std.specs.Cmp.Lexicographic.{slice_cmp}
use Rattle.std.specs.FinMap.{FinMap, get, insert}

-- names and what each holds
abbrev pub Files : Type 0
Files = FinMap (slice_cmp nat_cmp) (List ℕ)

-- what a name holds; a name that isn't held counts as one that holds nothing
abbrev pub held : Files → List ℕ → List ℕ
held files name = unwrap_or (get files name) []

-- the files with this name holding these bytes; nothing where nothing is told
abbrev pub putting : Option Files → List ℕ → List ℕ → Option Files
putting told name bytes = option_map (λ files. insert files name bytes) told

-- the files with this piece behind what the name holds
abbrev pub appending : Option Files → List ℕ → List ℕ → Option Files
appending told name piece = option_map (λ files. insert files name (held files name ++ piece)) told

-- the same, but that an empty piece changes nothing
abbrev pub extending : Option Files → List ℕ → List ℕ → Option Files
extending told name [] = told
extending told name (x ∷ piece) = appending told name (x ∷ piece)

-- a count that stands at the end of its type rose, or stands there
abbrev pub Rose : ℕ → ℕ → Type 0
Rose before now = min (before + 1) (2 ^ 64 - 1) ≤ now

-- files are told and this name isn't held
abbrev pub IsMissing : Option Files → List ℕ → Type 0
IsMissing told name = (files : Files) × (told ≡ Some files) × (get files name ≡ None)

-- the first n bytes of the buffer are the file's from this place
pub record IsPiece (bytes : List ℕ) (at : ℕ) (buf : List ℕ) (n : ℕ) : Type 0 where
  pub same : take n buf ≡ take n (drop at bytes)
  pub within : n ≤ length bytes - at
  pub ends : n ≡ 0 → (length buf ≡ 0) ⊎ (length bytes ≤ at)

-- where files are told, what a read that went well gives
abbrev pub Gives : Option Files → List ℕ → ℕ → List ℕ → ℕ → Type 0
Gives told name at buf n =
    (files : Files) → told ≡ Some files → (bytes : List ℕ) × (get files name ≡ Some bytes) × IsPiece bytes at buf n

-- what an append that answers n leaves
pub record Appended (old new : Option Files) (name piece : List ℕ) (n : ℕ) : Type 0 where
  pub within : n ≤ length piece
  pub some : 0 < length piece → 0 < n
  pub bytes : new ≡ extending old name (take n piece)

-- what an append that failed leaves: the files as they were, or with some prefix of the piece
abbrev pub Torn : Option Files → Option Files → List ℕ → List ℕ → Type 0
Torn old new name piece = (new ≡ old) ⊎ ((k : ℕ) × (k ≤ length piece) × (new ≡ appending old name (take k piece)))

-- each other name holds what it held
abbrev pub KeepsOthers : Option Files → Option Files → List ℕ → Type 0
KeepsOthers old new name =
    (files : Files) → old ≡ Some files
    → (later : Files) × (new ≡ Some later) × ((other : List ℕ) → other ≢ name → get later other ≡ get files other)
