-- Places, by which a history is cut into so many.
use Rattle.std.specs.Prelude.{ℕ, ◌%◌, List, [], ◌∷◌, ◌++◌, take, length, codes, ◌&&◌, nat_le, if◌then◌else◌, Option, Some, None}
use Rattle.std.specs.Int.{from_be_bytes, w32}
use Rattle.sha2.specs.Sha256.{sha256}
use Rattle.ident_core.specs.declared.identity.Identity.{Identity}
use Rattle.place_core.specs.declared.place.By.{By}
use Rattle.place_core.specs.declared.place.By.TheVariants as ways
use Rattle.place_core.specs.declared.place.TheConstants.{MAX_PLACES}

-- so many places, if there may be so many
abbrev pub place_count : ℕ → Option ℕ
place_count count = if nat_le 1 count && nat_le count MAX_PLACES then Some count else None

-- the number that the first four bytes of a message's digest spell, greatest byte first, modulo the count of places
abbrev pub place_by : List ℕ → ℕ → ℕ
place_by message count = from_be_bytes w32 (take 4 (sha256 message)) % count

-- the message of an identity's place
abbrev pub place_text : Identity → List ℕ
place_text id = codes "CCPLACE" ++ id.issuer ++ (length id.serial ∷ []) ++ id.serial

abbrev pub place : Identity → ℕ → ℕ
place id count = place_by (place_text id) count

-- the message of an issuer's place
abbrev pub issuer_text : List ℕ → List ℕ
issuer_text issuer = codes "CCISSUER" ++ issuer

abbrev pub issuer_place : List ℕ → ℕ → ℕ
issuer_place issuer count = place_by (issuer_text issuer) count

-- the place of an identity, by its issuer or by itself
abbrev pub place_in : By → ℕ → Identity → ℕ
place_in ways.Issuer count x = issuer_place x.issuer count
place_in ways.Identity count x = place x count
