-- What a text that is written through a buffer leaves.
use Rattle.std.specs.Prelude.{◌≡◌, ℕ, ◌≤◌, ◌⊎◌, List, ◌++◌, take, length, Option}
use Rattle.outside_core.specs.Files.{Files, putting, extending}

-- Bytes came behind those that a buffer held: some of them all stand in the file now, and the rest is held.
pub record Moved (old new : Option Files) (name before bytes after : List ℕ) : Type 0 where
  pub sent : List ℕ
  pub files : new ≡ extending old name sent
  pub whole : before ++ bytes ≡ sent ++ after

-- what a write of the text that failed leaves: the files as they were, or with some prefix of the text under the name
abbrev pub IsCut : Option Files → Option Files → List ℕ → List ℕ → Type 0
IsCut old new name text = (new ≡ old) ⊎ ((k : ℕ) × (k ≤ length text) × (new ≡ putting old name (take k text)))
