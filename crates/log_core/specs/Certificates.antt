-- Certificates (RFC 5280, 4.1), as far as they are read.
--   Certificate ::= SEQUENCE { tbsCertificate TBSCertificate, .. }
--   TBSCertificate ::= SEQUENCE { version [0] OPTIONAL, serialNumber INTEGER, signature, issuer, validity, subject,
--   subjectPublicKeyInfo SEQUENCE, .. }
--   Validity ::= SEQUENCE { notBefore Time, notAfter Time }
use Rattle.std.specs.Prelude.{ℕ, ℤ, List, length, ◌&&◌, nat_le, if◌then◌else◌, Option, Some, None}
use Rattle.octets_core.specs.Walk.{Walk, ◌>>=◌, whole, given, ends, value_of, within}
use Rattle.der_core.specs.Times.{time_of}
use Rattle.der_core.specs.Walk.{any, field, whole_field, optional, element_where, alone}

-- 1 to 32 octets
abbrev pub if_short : List ℕ → Option (List ℕ)
if_short octets = if nat_le 1 (length octets) && nat_le (length octets) 32 then Some octets else None

-- the serial, behind the version, if that is there
unfoldable pub serial : Walk (List ℕ)
serial = do
  version ← optional 0xa0
  octets ← field 0x02
  given (if_short octets)

-- what stands between the serial and the validity
unfoldable pub signature_and_issuer : Walk (Unit {0})
signature_and_issuer = do
  signature ← element_where any
  issuer ← element_where any
  whole tt

-- the second element of a validity, which has two, if it is a time
unfoldable pub second_time : Walk ℤ
second_time = do
  first ← element_where any
  second ← element_where any
  end ← ends
  given (time_of second)

-- the notAfter, behind the serial, in seconds since 1970
unfoldable pub expiry : Walk ℤ
expiry = do
  passed ← signature_and_issuer
  validity ← field 0x30
  given (value_of (second_time validity))

-- the same, of the contents of a TBS
unfoldable pub not_after : Walk ℤ
not_after = do
  number ← serial
  expiry

-- the subjectPublicKeyInfo, with its tag and length
unfoldable pub public_key : Walk (List ℕ)
public_key = do
  number ← serial
  passed ← signature_and_issuer
  validity ← element_where any
  subject ← element_where any
  whole_field 0x30

-- the contents of a TBS, and of the TBS of a certificate
abbrev pub tbs_contents : List ℕ → Option (List ℕ)
tbs_contents bytes = value_of (alone 0x30 bytes)

abbrev pub certificate_contents : List ℕ → Option (List ℕ)
certificate_contents bytes = within (field 0x30) (tbs_contents bytes)

abbrev pub tbs_serial : List ℕ → Option (List ℕ)
tbs_serial bytes = within serial (tbs_contents bytes)

abbrev pub certificate_serial : List ℕ → Option (List ℕ)
certificate_serial bytes = within serial (certificate_contents bytes)

-- the notAfter, or nothing where the validity hasn't the form of one
abbrev pub tbs_until : List ℕ → Option ℤ
tbs_until bytes = within not_after (tbs_contents bytes)

abbrev pub certificate_until : List ℕ → Option ℤ
certificate_until bytes = within not_after (certificate_contents bytes)

abbrev pub certificate_key : List ℕ → Option (List ℕ)
certificate_key bytes = within public_key (certificate_contents bytes)

-- what a walk leaves
abbrev pub left_by : {A : Type 0} → Option (A × List ℕ) → Option (List ℕ)
left_by None = None
left_by (Some x) = Some x.1

abbrev pub left_within : {A : Type 0} → Walk A → Option (List ℕ) → Option (List ℕ)
left_within walk None = None
left_within walk (Some contents) = left_by (walk contents)

-- the tail of a certificate: what stands behind the subjectPublicKeyInfo in its TBS
abbrev pub certificate_tail : List ℕ → Option (List ℕ)
certificate_tail bytes = left_within public_key (certificate_contents bytes)
