-- Numbers, and vectors with their length before them (RFC 5246, 4.3 and 4.4).
use Rattle.std.specs.Prelude.{ℕ, List, [], ◌∷◌, length, take, drop, nat_lt, if◌then◌else◌, Option, Some, None}
use Rattle.octets_core.specs.Numbers.{number}
use Rattle.octets_core.specs.Walk.{Walk, ◌>>=◌, whole, given}

-- so many bytes
unfoldable pub bytes_field : ℕ → Walk (List ℕ)
bytes_field n bytes = if nat_lt (length bytes) n then None else Some (take n bytes, drop n bytes)

-- a number of so many bytes
unfoldable pub number_field : ℕ → Walk ℕ
number_field width = do
  bytes ← bytes_field width
  whole (number bytes)

-- a length of so many bytes, and that many bytes
unfoldable pub vector : ℕ → Walk (List ℕ)
vector width = do
  n ← number_field width
  bytes_field n

abbrev pub some_bytes : List ℕ → Option (List ℕ)
some_bytes [] = None
some_bytes (b ∷ bytes) = Some (b ∷ bytes)

-- the same, of one byte or more
unfoldable pub some_vector : ℕ → Walk (List ℕ)
some_vector width = do
  bytes ← vector width
  given (some_bytes bytes)
