-- Entries of a log (RFC 6962, 3.1, 3.2, 3.4 and 4.6).
use Rattle.std.specs.Prelude.{ℕ, ℤ, List, [], ◌∷◌, Bool, true, false, ◌&&◌, nat_eq, if◌then◌else◌, Option, Some, None}
use Rattle.std.specs.Option.{option_map, option_and_then}
use Rattle.sha2.specs.Sha256.{sha256}
use Rattle.ident_core.specs.declared.identity.Identity.{Identity}
use Rattle.octets_core.specs.Walk.{Walk, ◌>>=◌, whole, given, value_of, ends, all_of}
use Rattle.octets_core.specs.Vectors.{bytes_field, number_field, vector, some_vector}
use Rattle.log_core.specs.declared.Entry.{Entry}
use Rattle.log_core.specs.Certificates.{tbs_serial, certificate_serial, certificate_key, tbs_until, certificate_until}

-- What a leaf says: when, and a certificate, or the key hash of its issuer and the TBS of a precertificate.
pub record LeafFields : Type 0 where
  pub time : ℕ
  pub issuer : Option (List ℕ)
  pub signed : List ℕ

-- version v1 and leaf type timestamped_entry
abbrev pub if_zero : ℕ → ℕ → Option (Unit {0})
if_zero version kind = if nat_eq version 0 && nat_eq kind 0 then Some tt else None

-- a key hash
unfoldable pub key : Walk (Option (List ℕ))
key = do
  hash ← bytes_field 32
  whole (Some hash)

-- none in an entry of type 0, x509_entry, and a key hash in one of type 1, precert_entry
abbrev pub issuer_of : ℕ → Walk (Option (List ℕ))
issuer_of entry = if nat_eq entry 0 then whole None else if nat_eq entry 1 then key else given None

unfoldable pub leaf : Walk LeafFields
leaf = do
  version ← number_field 1
  kind ← number_field 1
  zeros ← given (if_zero version kind)
  time ← number_field 8
  entry ← number_field 2
  issuer ← issuer_of entry
  signed ← some_vector 3
  extensions ← vector 2
  end ← ends
  whole (record { time = time; issuer = issuer; signed = signed })

abbrev pub first_in : {A : Type 0} → Option (List A) → Option A
first_in None = None
first_in (Some []) = None
first_in (Some (x ∷ xs)) = Some x

-- the first certificate of a chain: one or more, each with its length before it, and a length before all
unfoldable pub chain : Walk (List ℕ)
chain = do
  list ← vector 3
  end ← ends
  given (first_in (all_of (some_vector 3) list))

-- the issuer hash of the first certificate of a chain
abbrev pub chain_hash : List ℕ → Option (List ℕ)
chain_hash extra = option_map sha256 (option_and_then certificate_key (value_of (chain extra)))

-- the hash of the issuer's key, and the serial
abbrev pub identified : Option (List ℕ) → Option (List ℕ) → Option Identity
identified (Some issuer) (Some serial) = Some (record { issuer = issuer; serial = serial })
identified (Some issuer) None = None
identified None serial = None

abbrev pub identity_by : Option (List ℕ) → List ℕ → List ℕ → Option Identity
identity_by (Some key) signed extra = identified (Some key) (tbs_serial signed)
identity_by None signed extra = identified (chain_hash extra) (certificate_serial signed)

-- the end of the validity of what is signed, if it is told
abbrev pub until_by : Option (List ℕ) → List ℕ → Option ℤ
until_by (Some issuer) signed = tbs_until signed
until_by None signed = certificate_until signed

abbrev pub sighted : List ℕ → ℕ → Option ℤ → Option Identity → Option Entry
sighted log time until None = None
sighted log time until (Some x) = Some (record { id = x; sighting = record { log = log; time = time }; until = until })

abbrev pub entry_by : List ℕ → List ℕ → Option LeafFields → Option Entry
entry_by log extra None = None
entry_by log extra (Some l) = sighted log l.time (until_by l.issuer l.signed) (identity_by l.issuer l.signed extra)

-- what an entry of this log gives, if it is read
abbrev pub entry_of : List ℕ → List ℕ → List ℕ → Option Entry
entry_of log bytes extra = entry_by log extra (value_of (leaf bytes))

-- whether there is anything
abbrev pub is_cut : {A : Type 0} → Option A → Bool
is_cut None = false
is_cut (Some x) = true
