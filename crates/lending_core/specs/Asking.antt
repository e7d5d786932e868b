-- What each call makes of what it is lent: a value, or the first fault in the order of reading.
use Rattle.std.specs.Prelude.{ℕ, ◌==◌, List, length, map, nat_lt, if◌then◌else◌, Option, Some, None, Result, Ok, Err}
use Rattle.sha2.specs.Sha256.{sha256}
use Rattle.octets_core.specs.Reading.{value_of}
use Rattle.ident_core.specs.declared.range.Sighting.{Sighting}
use Rattle.place_core.specs.declared.place.By.{By}
use Rattle.place_core.specs.declared.place.By.TheVariants as ways
use Rattle.place_core.specs.Places.{place_count, place_in}
use Rattle.log_core.specs.Certificates.{certificate_serial, certificate_key}
use Rattle.sct_core.specs.declared.bounds.TheConstants.{MAX_CERTIFICATE}
use Rattle.sct_core.specs.declared.fault.CertFault.TheVariants.{Malformed}
use Rattle.sct_core.specs.Outcome.{sightings_of}
use Rattle.part_text.specs.SealedFields.{SealedFields}
use Rattle.store_core.specs.StoreLayout.{store}
use Rattle.card_core.specs.Verdict.{verdict}
use Rattle.card_core.specs.declared.verdict.Verdict.{Verdict}
use Rattle.lending_core.specs.declared.fault.LentFault.{LentFault}
use Rattle.lending_core.specs.declared.fault.LentFault.TheVariants as faults
use Rattle.lending_core.specs.declared.lent.LentQuery.{LentQuery}
use Rattle.lending_core.specs.declared.placing.TheConstants.{BY_ISSUER, BY_IDENTITY}
use Rattle.lending_core.specs.Faults.{of_store, faulted, ◌>>=◌}
use Rattle.lending_core.specs.Lent.{serial_of, serial_in, slice_in}

-- the parts of the store that the bytes are, else the first fault of its layout or chain
abbrev pub store_of : List ℕ → Result (List SealedFields) LentFault
store_of bytes = faulted of_store (value_of (store bytes 0))

-- what the parts together say of the certificate with this issuer and serial
abbrev pub said : List SealedFields → (issuer serial : List ℕ) → List Sighting → Verdict
said parts issuer serial sightings =
    verdict (map (λ s. s.part) parts) (record { issuer = issuer; serial = serial }) sightings

-- ---- a query

-- by a store's parts
abbrev pub ask_gives : List SealedFields → (issuer octets : List ℕ) → List Sighting → Result Verdict LentFault
ask_gives parts issuer octets sightings = do
  serial ← serial_of octets
  Ok (said parts issuer serial sightings)

-- by bytes that may be no store: some verdict, where what is asked has no fault
abbrev pub with_some : {A : Type 0} → Verdict → Result A LentFault → Result Verdict LentFault
with_some v (Ok x) = Ok v
with_some v (Err e) = Err e

-- by its bytes
abbrev pub query_gives : (bytes issuer octets : List ℕ) → List Sighting → Result Verdict LentFault
query_gives bytes issuer octets sightings = do
  parts ← store_of bytes
  ask_gives parts issuer octets sightings

-- ---- one of many queries, with the sightings of all

abbrev pub each_says : List SealedFields → List Sighting → LentQuery → Result Verdict LentFault
each_says parts all q = do
  serial ← serial_in q
  sightings ← slice_in q all
  Ok (said parts q.issuer serial sightings)

-- by the store that was read
abbrev pub each_gives : Result (List SealedFields) LentFault → List Sighting → LentQuery → Result Verdict LentFault
each_gives read all q = do
  parts ← read
  each_says parts all q

-- ---- a certificate and its issuer's

abbrev pub some_serial : Option (List ℕ) → Result (List ℕ) LentFault
some_serial None = Err (faults.BadCert Malformed)
some_serial (Some serial) = Ok serial

abbrev pub some_key : Option (List ℕ) → Result (List ℕ) LentFault
some_key None = Err faults.BadIssuerCert
some_key (Some key) = Ok (sha256 key)

-- the hash of the issuer's key, of a certificate of at most MAX_CERTIFICATE bytes
abbrev pub issuer_of : List ℕ → Result (List ℕ) LentFault
issuer_of cert = if nat_lt MAX_CERTIFICATE (length cert) then Err faults.BadIssuerCert else some_key (certificate_key cert)

-- what both are read as: an issuer, a serial and sightings
abbrev pub cert_reads : (cert issuer_cert : List ℕ) → Result (List ℕ × List ℕ × List Sighting) LentFault
cert_reads cert issuer_cert = do
  serial ← some_serial (certificate_serial cert)
  seen ← faulted faults.BadCert (sightings_of cert)
  issuer ← issuer_of issuer_cert
  Ok (issuer, serial, seen)

-- by a store's parts
abbrev pub ask_cert_gives : List SealedFields → (cert issuer_cert : List ℕ) → Result Verdict LentFault
ask_cert_gives parts cert issuer_cert = do
  serial ← some_serial (certificate_serial cert)
  seen ← faulted faults.BadCert (sightings_of cert)
  issuer ← issuer_of issuer_cert
  Ok (said parts issuer serial seen)

-- by its bytes
abbrev pub query_cert_gives : (bytes cert issuer_cert : List ℕ) → Result Verdict LentFault
query_cert_gives bytes cert issuer_cert = do
  parts ← store_of bytes
  ask_cert_gives parts cert issuer_cert

-- ---- a place

-- by issuers or by identities
abbrev pub way_of : ℕ → Result By LentFault
way_of by =
    if by == BY_ISSUER then Ok ways.Issuer
    else if by == BY_IDENTITY then Ok ways.Identity
    else Err faults.BadPlaces

abbrev pub some_places : Option ℕ → Result ℕ LentFault
some_places None = Err faults.BadPlaces
some_places (Some count) = Ok count

-- of the certificate with this issuer and serial, among so many
abbrev pub place_gives : ℕ → (issuer octets : List ℕ) → ℕ → Result ℕ LentFault
place_gives by issuer octets count = do
  serial ← serial_of octets
  way ← way_of by
  n ← some_places (place_count count)
  Ok (place_in way n (record { issuer = issuer; serial = serial }))
