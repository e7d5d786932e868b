-- What the files of certificates are read as (docs/FORMATS.md, "Timestamps of a certificate").
use Rattle.std.specs.Prelude.{ℕ, List, length, nat_lt, if◌then◌else◌, Option, Some, None, Result, Ok, Err}
use Rattle.sha2.specs.Sha256.{sha256}
use Rattle.ident_core.specs.declared.range.Sighting.{Sighting}
use Rattle.log_core.specs.Certificates.{certificate_serial, certificate_key}
use Rattle.sct_core.specs.declared.bounds.TheConstants.{MAX_CERTIFICATE}
use Rattle.sct_core.specs.declared.fault.CertFault.{CertFault}
use Rattle.sct_core.specs.declared.fault.CertFault.TheVariants.{Malformed}
use Rattle.sct_core.specs.Outcome.{sightings_of}
use Rattle.input_core.specs.declared.certificates.Certificate.{Certificate}
use Rattle.input_core.specs.declared.fault.FileFault.{FileFault}
use Rattle.input_core.specs.declared.fault.FileFault.TheVariants.{BadCert}
use Rattle.input_core.specs.Readings.{faulted}

-- a serial, and what the timestamps say
abbrev pub certified : Option (List ℕ) → Result (List Sighting) CertFault → Result Certificate CertFault
certified None seen = Err Malformed
certified (Some serial) (Ok sightings) = Ok (record { serial = serial; scts = sightings })
certified (Some serial) (Err fault) = Err fault

-- the certificate that is asked about, of at most MAX_CERTIFICATE bytes
abbrev pub certificate_of : List ℕ → Result Certificate CertFault
certificate_of bytes = certified (certificate_serial bytes) (sightings_of bytes)

-- the hash of a subjectPublicKeyInfo
abbrev pub hashed : Option (List ℕ) → Result (List ℕ) CertFault
hashed None = Err Malformed
hashed (Some key) = Ok (sha256 key)

-- the key hash of its issuer's certificate, of at most MAX_CERTIFICATE bytes
abbrev pub issuer_of : List ℕ → Result (List ℕ) CertFault
issuer_of bytes = if nat_lt MAX_CERTIFICATE (length bytes) then Err Malformed else hashed (certificate_key bytes)

abbrev pub certificate_in : List ℕ → Result Certificate FileFault
certificate_in bytes = faulted BadCert (certificate_of bytes)

abbrev pub issuer_in : List ℕ → Result (List ℕ) FileFault
issuer_in bytes = faulted BadCert (issuer_of bytes)
