-- What is read of the file of a certificate, and of as many of its bytes as there may be and one more.
use Rattle.std.proofs.Common.{◌≡◌, ℕ, ◌+◌, ◌<◌, ◌≤◌, List, length, take, Bool, true, false, nat_lt, Option, Some, None, Err, refl, sym, ap, ◌∙◌, arith}
use Rattle.std.proofs.lemmas.Bool.Decides.{nat_tests}
use Rattle.std.proofs.lemmas.List.{take_all, length-take-le}
use Rattle.log_core.specs.Certificates.{certificate_serial}
use Rattle.sct_core.specs.declared.bounds.TheConstants.{MAX_CERTIFICATE}
use Rattle.sct_core.specs.declared.fault.CertFault.TheVariants.{Malformed}
use Rattle.input_core.specs.declared.fault.FileFault.TheVariants.{BadCert}
use Rattle.input_core.specs.Readings.{faulted}
use Rattle.input_core.specs.Certificates.{certified, certificate_of, issuer_of, certificate_in, issuer_in}

-- ---- files that are longer than a certificate may be

none_certified : (serial : Option (List ℕ)) → certified serial (Err Malformed) ≡ Err Malformed
none_certified None = refl
none_certified (Some x) = refl

long_certificate : (bytes : List ℕ) → nat_lt MAX_CERTIFICATE (length bytes) ≡ true → certificate_of bytes ≡ Err Malformed
long_certificate bytes long = rw long (none_certified (certificate_serial bytes))

long_issuer : (bytes : List ℕ) → nat_lt MAX_CERTIFICATE (length bytes) ≡ true → issuer_of bytes ≡ Err Malformed
long_issuer bytes long = rw long refl

front_long : (file : List ℕ) → MAX_CERTIFICATE < length file → nat_lt MAX_CERTIFICATE (length (take (MAX_CERTIFICATE + 1) file)) ≡ true
front_long file long = rw (length-take-le (MAX_CERTIFICATE + 1) file (omega (arith, long))) refl

certificate_front_by : (file : List ℕ) (b : Bool) → nat_lt MAX_CERTIFICATE (length file) ≡ b → certificate_of (take (MAX_CERTIFICATE + 1) file) ≡ certificate_of file
certificate_front_by file true long =
    long_certificate (take (MAX_CERTIFICATE + 1) file) (front_long file (grind (arith, nat_tests))) ∙ sym (long_certificate file long)
certificate_front_by file false short =
    let small : length file ≤ MAX_CERTIFICATE = grind (arith, nat_tests) in
    ap certificate_of (take_all (MAX_CERTIFICATE + 1) file (omega (arith, small)))

issuer_front_by : (file : List ℕ) (b : Bool) → nat_lt MAX_CERTIFICATE (length file) ≡ b → issuer_of (take (MAX_CERTIFICATE + 1) file) ≡ issuer_of file
issuer_front_by file true long =
    long_issuer (take (MAX_CERTIFICATE + 1) file) (front_long file (grind (arith, nat_tests))) ∙ sym (long_issuer file long)
issuer_front_by file false short =
    let small : length file ≤ MAX_CERTIFICATE = grind (arith, nat_tests) in
    ap issuer_of (take_all (MAX_CERTIFICATE + 1) file (omega (arith, small)))

pub certificate_front : (file : List ℕ) → certificate_in (take (MAX_CERTIFICATE + 1) file) ≡ certificate_in file
certificate_front file = ap (faulted BadCert) (certificate_front_by file (nat_lt MAX_CERTIFICATE (length file)) refl)

pub issuer_front : (file : List ℕ) → issuer_in (take (MAX_CERTIFICATE + 1) file) ≡ issuer_in file
issuer_front file = ap (faulted BadCert) (issuer_front_by file (nat_lt MAX_CERTIFICATE (length file)) refl)
