-- What comes of the timestamps of a certificate, the first fault first.
use Rattle.std.specs.Prelude.{◌≡◌, ℕ, List, [], ◌∷◌, length, nat_lt, if◌then◌else◌, Option, Some, None, Result, Ok, Err}
use Rattle.octets_core.specs.Walk.{all_of}
use Rattle.ident_core.specs.declared.range.Sighting.{Sighting}
use Rattle.log_core.specs.Certificates.{certificate_tail}
use Rattle.sct_core.specs.declared.bounds.TheConstants.{MAX_CERTIFICATE, MAX_SCTS}
use Rattle.sct_core.specs.declared.fault.CertFault.{CertFault}
use Rattle.sct_core.specs.declared.fault.CertFault.TheVariants as fault
use Rattle.sct_core.specs.Timestamps.{timestamp, sightings_among}
use Rattle.sct_core.specs.Extensions.{extensions_in, value_in, list_in}

abbrev pub Outcome : Type 0
Outcome = Result (List Sighting) CertFault

-- 1 to MAX_SCTS of them
abbrev pub of_sightings : List Sighting → Outcome
of_sightings [] = Err fault.NoScts
of_sightings (x ∷ xs) = if nat_lt MAX_SCTS (length (x ∷ xs)) then Err fault.TooManyScts else Ok (x ∷ xs)

-- of the timestamps that fill a list, if they do
abbrev pub of_timestamps : Option (List (Option Sighting)) → Outcome
of_timestamps None = Err fault.BadScts
of_timestamps (Some xs) = of_sightings (sightings_among xs)

abbrev pub of_list : Option (List ℕ) → Outcome
of_list None = Err fault.BadScts
of_list (Some list) = of_timestamps (all_of timestamp list)

-- of the value of the extension of timestamps, where there is one
abbrev pub of_value : Option (Option (List ℕ)) → Outcome
of_value None = Err fault.Malformed
of_value (Some None) = Err fault.NoScts
of_value (Some (Some value)) = of_list (list_in value)

-- of the extensions, where there are some
abbrev pub of_extensions : Option (Option (List ℕ)) → Outcome
of_extensions None = Err fault.Malformed
of_extensions (Some None) = Err fault.NoScts
of_extensions (Some (Some explicit)) = of_value (value_in explicit)

abbrev pub of_tail : Option (List ℕ) → Outcome
of_tail None = Err fault.Malformed
of_tail (Some tail) = of_extensions (extensions_in tail)

-- the sightings of a certificate of at most MAX_CERTIFICATE bytes, or the first fault
abbrev pub sightings_of : List ℕ → Outcome
sightings_of bytes = if nat_lt MAX_CERTIFICATE (length bytes) then Err fault.Malformed else of_tail (certificate_tail bytes)

-- the serial that there is, or that there is none
abbrev pub GivesSerial : Option (List ℕ) → Result (List ℕ) CertFault → Type 0
GivesSerial serial (Ok x) = serial ≡ Some x
GivesSerial serial (Err e) = (serial ≡ None) × (e ≡ fault.Malformed)
