-- Log entries as whole lists of bytes, apart from how they are read (RFC 6962, 3.1, 3.2, 3.4 and 4.6).
use Rattle.std.specs.Prelude.{◌≡◌, ℕ, ℤ, List, [], ◌∷◌, ◌++◌, length, Option, Some, None}
use Rattle.sha2.specs.Sha256.{sha256}
use Rattle.log_core.specs.VectorGrammar.{IsNumber, IsVector, IsSomeVector, AreVectors}
use Rattle.log_core.specs.CertificateGrammar.{IsTbs, IsCertificate, HasKey, TbsEndsAt, CertificateEndsAt}
use Rattle.log_core.specs.declared.Entry.{Entry}
use Rattle.log_core.specs.Entries.{LeafFields}

-- the entry type, and the key hash of the issuer, which only a precert_entry has
abbrev pub IsIssuer : Option (List ℕ) → List ℕ → List ℕ → Type 0
IsIssuer None entry hash = IsNumber 2 0 entry × (hash ≡ [])
IsIssuer (Some key) entry hash = IsNumber 2 1 entry × (hash ≡ key) × (length key ≡ 32)

-- a MerkleTreeLeaf: version v1, timestamped_entry, the time, the entry type, what it signs, extensions that aren't read
pub record IsLeaf (l : LeafFields) (bytes : List ℕ) : Type 0 where
  pub version : List ℕ
  pub kind : List ℕ
  pub time : List ℕ
  pub entry : List ℕ
  pub hash : List ℕ
  pub signed : List ℕ
  pub extensions : List ℕ
  pub unread : List ℕ
  pub is_version : IsNumber 1 0 version
  pub is_kind : IsNumber 1 0 kind
  pub is_time : IsNumber 8 l.time time
  pub is_issuer : IsIssuer l.issuer entry hash
  pub is_signed : IsSomeVector 3 l.signed signed
  pub is_extensions : IsVector 2 unread extensions
  pub same : bytes ≡ version ++ (kind ++ (time ++ (entry ++ (hash ++ (signed ++ extensions)))))

-- a chain of certificates, one or more, of which this is the first
pub record IsChain (first bytes : List ℕ) : Type 0 where
  pub list : List ℕ
  pub more : List (List ℕ)
  pub is : IsVector 3 list bytes
  pub certificates : AreVectors 3 (first ∷ more) list

-- the issuer is the hash of the key of the first certificate of the chain
pub record IsIssuedBy (issuer chain : List ℕ) : Type 0 where
  pub first : List ℕ
  pub key : List ℕ
  pub is_first : IsChain first chain
  pub has_key : HasKey key first
  pub hash : issuer ≡ sha256 key

-- what is signed, a certificate or the TBS of a precertificate, has this issuer and this serial
abbrev pub IsSigned : Option (List ℕ) → List ℕ → List ℕ → List ℕ → List ℕ → Type 0
IsSigned None signed extra issuer serial = IsCertificate serial signed × IsIssuedBy issuer extra
IsSigned (Some key) signed extra issuer serial = IsTbs serial signed × (issuer ≡ key)

-- the validity of what is signed ends at this time
abbrev pub SignedEndsAt : Option (List ℕ) → List ℕ → ℤ → Type 0
SignedEndsAt None signed until = CertificateEndsAt until signed
SignedEndsAt (Some issuer) signed until = TbsEndsAt until signed

-- what is signed has this date: the end of its validity, or none where no time stands there
abbrev pub IsDated : Option (List ℕ) → List ℕ → Option ℤ → Type 0
IsDated issuer signed (Some until) = SignedEndsAt issuer signed until
IsDated issuer signed None = (until : ℤ) → SignedEndsAt issuer signed until → ⊥

-- a leaf of this log and its extra data give this identity, this sighting and this date
pub record ReadsEntry (log bytes extra : List ℕ) (x : Entry) : Type 0 where
  pub fields : LeafFields
  pub is_leaf : IsLeaf fields bytes
  pub signed : IsSigned fields.issuer fields.signed extra x.id.issuer x.id.serial
  pub dated : IsDated fields.issuer fields.signed x.until
  pub at_time : x.sighting.time ≡ fields.time
  pub in_log : x.sighting.log ≡ log

-- an entry gives at most one identity with a sighting and a date
abbrev pub GivesAtMostOne : List ℕ → List ℕ → List ℕ → Type 0
GivesAtMostOne log bytes extra = (x y : Entry) → ReadsEntry log bytes extra x → ReadsEntry log bytes extra y → x ≡ y
