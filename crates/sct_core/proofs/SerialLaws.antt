-- The serial that is given is that of the certificate.
use Rattle.std.proofs.Common.{◌≡◌, ℕ, List, Option, Some, Result, Ok, Err, ap}
use Rattle.std.specs.Prelude.{IfOk}
use Rattle.log_core.specs.Certificates.{certificate_serial}
use Rattle.log_core.specs.CertificateGrammar.{IsCertificate}
use Rattle.log_core.proofs.CertificateLaws.{certificate_serial-read, certificate_serial-taken}
use Rattle.sct_core.specs.declared.fault.CertFault.{CertFault}
use Rattle.sct_core.specs.Outcome.{GivesSerial}

pub serial-found : (cert : List ℕ) (r : Result (List ℕ) CertFault) → GivesSerial (certificate_serial cert) r → IfOk r (λ serial. IsCertificate serial cert)
serial-found cert (Ok serial) h = certificate_serial-taken serial cert h
serial-found cert (Err e) h = tt

given : (serial : List ℕ) (s : Option (List ℕ)) (r : Result (List ℕ) CertFault) → GivesSerial s r → s ≡ Some serial → r ≡ Ok serial
given serial s (Ok x) h k = let same : x ≡ serial = cc in ap (λ (y : List ℕ). Ok y) same
given serial s (Err e) h k = let none = h.0 in cc

pub serial-only : (cert : List ℕ) (r : Result (List ℕ) CertFault) → GivesSerial (certificate_serial cert) r → (serial : List ℕ) → IsCertificate serial cert → r ≡ Ok serial
serial-only cert r h serial is = given serial (certificate_serial cert) r h (certificate_serial-read serial cert is)
