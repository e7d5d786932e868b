-- For which bytes a machine stands.
use Rattle.std.specs.Prelude.{◌≡◌, ℕ, ◌+◌, ◌-◌, ◌<◌, ◌≤◌, List, ◌++◌, length, take, drop, get_or, Bool, true, false}
use Rattle.sha2.specs.Sha256.{sha256}
use Rattle.sha2.specs.Hashers.{Holds256}
use Rattle.sha2.specs.declared.Sha256.{Sha256}
use Rattle.part_text.specs.PartLayout.{sealed}
use Rattle.part_codec.specs.declared.fields.Open.{Open}
use Rattle.part_codec.specs.declared.fields.Open.TheVariants as opens
use Rattle.part_codec.specs.declared.fields.TheConstants.{TRAILER}
use Rattle.part_codec.specs.declared.machine.Machine.{Machine}
use Rattle.part_codec.specs.Remaining.{Seen, rest}
use Rattle.part_codec.specs.Stepping.{Counts, IsOpen, Passed, passes_last, skips, width_of, kept_after, open_after, settled, seen_after}

-- Behind what was seen the field is open at its offset in b: whatever follows, b reads as what is left to read from
-- there on.
pub record Opened (m : Machine) (s : Seen) (b : List ℕ) : Type 0 where
  pub fits : (i : ℕ) → get_or b i 0 < 256
  pub behind : m.at ≤ length b
  pub counts : Counts m.kept s
  pub opened : IsOpen m.field m.kept
  pub each : (x : List ℕ) → sealed (b ++ x) 0 ≡ rest m.field m.kept s (b ++ x) m.at

-- b ends with the open field, of which these bytes are held
pub record IsWhole (m : Machine) (last b : List ℕ) : Type 0 where
  pub len : length b ≡ m.at + width_of m.field m.kept
  pub held : drop (m.at + skips m.field m.kept) b ≡ last

-- it passes its test, by those bytes
abbrev pub Tested : Machine → List ℕ → List ℕ → Type 0
Tested m last b = passes_last m.field m.kept (sha256 (take m.at b)) last ≡ true

-- It stands for b: of the open field, with which b ends, it holds what came, or of a plane the end of that.
pub record Stands (m : Machine) (s : Seen) (b : List ℕ) : Type 0 where
  pub opens : Opened m s b
  pub place : length b ≡ m.at + m.passed + m.filled
  pub held : drop (m.at + m.passed) b ≡ take m.filled m.held

-- how many bytes are before the trailer, of so many
abbrev pub hashed_to : Open → ℕ → ℕ → ℕ
hashed_to opens.Trailer at len = at
hashed_to opens.Done at len = at - TRAILER
hashed_to o at len = len

-- the hasher was given the bytes of b before the trailer
abbrev pub Hashes : Machine → Sha256 → List ℕ → Type 0
Hashes m hasher b = Holds256 hasher (take (hashed_to m.field m.at (length b)) b)

-- the open field passed
pub record Passes (m n : Machine) (b : List ℕ) : Type 0 where
  pub passed : Passed m.field m.kept (drop m.at b)
  pub kept : n.kept ≡ kept_after m.field m.kept (drop m.at b)
  pub at : n.at ≡ length b

-- the open field passed, and the next one that has a byte is open
pub record Opens (m n : Machine) (b : List ℕ) : Type 0 where
  pub passed : Passed m.field m.kept (drop m.at b)
  pub kept : n.kept ≡ kept_after m.field m.kept (drop m.at b)
  pub field : n.field ≡ settled (open_after m.field n.kept)
  pub at : n.at ≡ length b

-- the same field is open
pub record Stays (m n : Machine) : Type 0 where
  pub field : n.field ≡ m.field
  pub kept : n.kept ≡ m.kept
  pub at : n.at ≡ m.at

abbrev pub Moved : Bool → Machine → Machine → List ℕ → Type 0
Moved true m n b = Opens m n b
Moved false m n b = Stays m n

-- what was seen, once these bytes have made the open field whole
abbrev pub seen_when : Bool → Machine → Seen → List ℕ → Seen
seen_when true m s p = seen_after m.field m.kept s p
seen_when false m s p = s
