-- What a sink tells: the bytes that it holds, or nothing.
use Rattle.std.specs.Prelude.{◌≡◌, ℕ, ◌≤◌, ◌<◌, List, ◌++◌, take, length, Option}
use Rattle.std.specs.Option.{option_map}

-- the bytes and then this piece; nothing where nothing is told
abbrev pub followed_by : Option (List ℕ) → List ℕ → Option (List ℕ)
followed_by told piece = option_map (λ bytes. bytes ++ piece) told

-- what a write that answers n leaves
pub record Took (old new : Option (List ℕ)) (piece : List ℕ) (n : ℕ) : Type 0 where
  pub within : n ≤ length piece
  pub some : 0 < length piece → 0 < n
  pub bytes : new ≡ followed_by old (take n piece)

-- what a write that failed leaves: some prefix of the piece behind the old bytes
abbrev pub CutShort : Option (List ℕ) → Option (List ℕ) → List ℕ → Type 0
CutShort old new piece = (k : ℕ) × (k ≤ length piece) × (new ≡ followed_by old (take k piece))
