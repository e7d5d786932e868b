-- What is read of a CRL (RFC 5280, 5.1), in the order of its elements.
use Rattle.std.specs.Prelude.{ℕ, ℤ, List, [], ◌∷◌, nat_eq, if◌then◌else◌, Option, Some, None}
use Rattle.std.specs.Option.{option_map}
use Rattle.std.specs.Str.{bytes_eq}
use Rattle.octets_core.specs.Walk.{Walk, ◌>>=◌, whole, given, ends, value_of, within}
use Rattle.der_core.specs.Elements.{Der, items}
use Rattle.der_core.specs.Walk.{field, optional, element_where, optional_where, is_time_tag, alone, each}
use Rattle.der_core.specs.Times.{time_of}
use Rattle.crl_core.specs.Extensions.{Ext, CrlExt, extension, crl_extension}

-- the list that an optional field holds; none, where it isn't there
abbrev pub listed : {A : Type 0} → (Der → Option A) → Option (List ℕ) → Option (List A)
listed read None = Some []
listed read (Some contents) = each read (items contents)

-- an entry of revokedCertificates, without its date
pub record Entry : Type 0 where
  pub serial : List ℕ
  pub extensions : List Ext

abbrev pub some_octets : List ℕ → Option (List ℕ)
some_octets [] = None
some_octets (b ∷ bs) = Some (b ∷ bs)

--   SEQUENCE { userCertificate CertificateSerialNumber, revocationDate Time, crlEntryExtensions Extensions OPTIONAL }
unfoldable pub entry_fields : Walk Entry
entry_fields = do
  contents ← field 0x02
  serial ← given (some_octets contents)
  date ← element_where is_time_tag
  list ← optional 0x30
  extensions ← given (listed extension list)
  end ← ends
  whole (record { serial = serial; extensions = extensions })

unfoldable pub entry : Der → Option Entry
entry e = if nat_eq e.tag 0x30 then value_of (entry_fields e.contents) else None

-- version, where it is there, is v2
abbrev pub known_version : Option (List ℕ) → Option (Unit {0})
known_version None = Some tt
known_version (Some contents) = if bytes_eq contents (1 ∷ []) then Some tt else None

abbrev pub time_if : Option Der → Option (Option ℤ)
time_if None = Some None
time_if (Some e) = option_map (λ n. Some n) (time_of e)

pub record Dates : Type 0 where
  pub this_update : ℤ
  pub next_update : Option ℤ

--   version Version OPTIONAL, signature AlgorithmIdentifier, issuer Name, thisUpdate Time, nextUpdate Time OPTIONAL
unfoldable pub dates : Walk Dates
dates = do
  version ← optional 0x02
  known ← given (known_version version)
  signature ← field 0x30
  issuer ← field 0x30
  this ← element_where is_time_tag
  this_update ← given (time_of this)
  next ← optional_where is_time_tag
  next_update ← given (time_if next)
  whole (record { this_update = this_update; next_update = next_update })

abbrev pub wrapped : Option (List ℕ) → Option (List CrlExt)
wrapped None = None
wrapped (Some contents) = each crl_extension (items contents)

--   crlExtensions [0] EXPLICIT Extensions OPTIONAL
abbrev pub crl_extensions : Option (List ℕ) → Option (List CrlExt)
crl_extensions None = Some []
crl_extensions (Some contents) = wrapped (value_of (alone 0x30 contents))

-- a CRL, without what isn't read
pub record CrlForm : Type 0 where
  pub this_update : ℤ
  pub next_update : Option ℤ
  pub entries : List Entry
  pub extensions : List CrlExt

--   TBSCertList ::= SEQUENCE { .., revokedCertificates SEQUENCE OF .. OPTIONAL, crlExtensions .. }
unfoldable pub tbs : Walk CrlForm
tbs = do
  d ← dates
  revoked ← optional 0x30
  entries ← given (listed entry revoked)
  last ← optional 0xa0
  extensions ← given (crl_extensions last)
  end ← ends
  whole (record { this_update = d.this_update; next_update = d.next_update; entries = entries; extensions = extensions })

--   CertificateList ::= SEQUENCE {
--     tbsCertList TBSCertList, signatureAlgorithm AlgorithmIdentifier, signatureValue BIT STRING }
unfoldable pub certificate_list : Walk (List ℕ)
certificate_list = do
  contents ← field 0x30
  algorithm ← field 0x30
  signature ← field 0x03
  end ← ends
  whole contents

-- what is read of a CRL, if the bytes are one
abbrev pub crl_form : List ℕ → Option CrlForm
crl_form bytes = within tbs (within certificate_list (within (alone 0x30) (Some bytes)))
