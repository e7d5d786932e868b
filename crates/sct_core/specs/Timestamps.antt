-- Signed certificate timestamps (RFC 6962, 3.2 and 3.3; vectors by RFC 5246, 4.3).
--   opaque SerializedSCT<1..2^16-1>
--   struct { Version sct_version; LogID id; uint64 timestamp; CtExtensions extensions; digitally-signed struct {..} }
--   SignedCertificateTimestamp
use Rattle.std.specs.Prelude.{ℕ, List, [], ◌∷◌, filter_map, nat_eq, if◌then◌else◌, Option, Some, None}
use Rattle.octets_core.specs.Walk.{Walk, ◌>>=◌, whole, given, ends, value_of}
use Rattle.octets_core.specs.Vectors.{bytes_field, number_field, vector, some_vector}
use Rattle.ident_core.specs.declared.range.Sighting.{Sighting}

-- What stands behind the version of a timestamp of version 1: the key id of the log, the time, and then extensions,
-- two bytes that name the algorithms, and the signature, which aren't read.
unfoldable pub version_1 : Walk Sighting
version_1 = do
  log ← bytes_field 32
  time ← number_field 8
  extensions ← vector 2
  algorithms ← bytes_field 2
  signature ← vector 2
  end ← ends
  whole (record { log = log; time = time })

abbrev pub with_some : {A : Type 0} → Option A → Option (Option A)
with_some None = None
with_some (Some x) = Some (Some x)

-- The first byte names the version, and 0 is version 1 (RFC 6962, 3.2). One of another version is passed over.
abbrev pub timestamp_from : ℕ → List ℕ → Option (Option Sighting)
timestamp_from version rest = if nat_eq version 0 then with_some (value_of (version_1 rest)) else Some None

abbrev pub timestamp_in : List ℕ → Option (Option Sighting)
timestamp_in [] = None
timestamp_in (version ∷ rest) = timestamp_from version rest

-- a timestamp with its length before it
unfoldable pub timestamp : Walk (Option Sighting)
timestamp = do
  bytes ← some_vector 2
  given (timestamp_in bytes)

-- what those of version 1 say, in their order
abbrev pub sightings_among : List (Option Sighting) → List Sighting
sightings_among xs = filter_map (λ x. x) xs
