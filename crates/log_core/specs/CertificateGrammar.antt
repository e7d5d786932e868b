-- Certificates as whole lists of bytes, apart from how they are read (RFC 5280, 4.1). What follows the last element
-- that is read is any bytes.
use Rattle.std.specs.Prelude.{◌≡◌, ℕ, ℤ, ◌≤◌, List, [], ◌∷◌, ◌++◌, length, Option}
use Rattle.der_core.specs.Elements.{Der}
use Rattle.der_core.specs.Grammar.{IsElement, AreElements, StandsBefore, StandsOrNot}
use Rattle.der_core.specs.TimeGrammar.{IsTime}

-- The contents of a TBS begin with a version or none, and a serial of 1 to 32 octets.
pub record BeginsWithSerial (serial contents rest : List ℕ) : Type 0 where
  pub version : Option (List ℕ)
  pub behind : List ℕ
  pub is_version : StandsOrNot 0xa0 version contents behind
  pub is_serial : StandsBefore 0x02 serial behind rest
  pub some : 1 ≤ length serial
  pub few : length serial ≤ 32

-- a TBSCertificate of this serial
pub record IsTbs (serial bytes : List ℕ) : Type 0 where
  pub contents : List ℕ
  pub rest : List ℕ
  pub is : IsElement (record { tag = 0x30; contents = contents }) bytes
  pub begins : BeginsWithSerial serial contents rest

-- a Certificate whose TBS has these contents
pub record HasTbs (tbs bytes : List ℕ) : Type 0 where
  pub contents : List ℕ
  pub rest : List ℕ
  pub is : IsElement (record { tag = 0x30; contents = contents }) bytes
  pub first : StandsBefore 0x30 tbs contents rest

-- a Certificate of this serial
pub record IsCertificate (serial bytes : List ℕ) : Type 0 where
  pub tbs : List ℕ
  pub rest : List ℕ
  pub is : HasTbs tbs bytes
  pub begins : BeginsWithSerial serial tbs rest

-- Behind the serial stand two elements, and then the validity: two elements, and the second is this time.
pub record EndsAt (until : ℤ) (bytes : List ℕ) : Type 0 where
  pub signature : Der
  pub issuer : Der
  pub two : List ℕ
  pub are : AreElements (signature ∷ issuer ∷ []) two
  pub behind : List ℕ
  pub validity : List ℕ
  pub rest : List ℕ
  pub is_validity : StandsBefore 0x30 validity behind rest
  pub not_before : Der
  pub not_after : Der
  pub are_both : AreElements (not_before ∷ not_after ∷ []) validity
  pub is_time : IsTime until not_after
  pub same : bytes ≡ two ++ behind

-- a TBSCertificate whose validity ends at this time, in seconds since 1970
pub record TbsEndsAt (until : ℤ) (bytes : List ℕ) : Type 0 where
  pub contents : List ℕ
  pub serial : List ℕ
  pub behind : List ℕ
  pub is : IsElement (record { tag = 0x30; contents = contents }) bytes
  pub begins : BeginsWithSerial serial contents behind
  pub ends : EndsAt until behind

-- a Certificate whose validity ends at this time
pub record CertificateEndsAt (until : ℤ) (bytes : List ℕ) : Type 0 where
  pub tbs : List ℕ
  pub serial : List ℕ
  pub behind : List ℕ
  pub is : HasTbs tbs bytes
  pub begins : BeginsWithSerial serial tbs behind
  pub ends : EndsAt until behind

-- Behind the serial stand four elements, and then the subjectPublicKeyInfo, which is the key with its tag and length.
pub record StandsBehindFour (key bytes : List ℕ) : Type 0 where
  pub signature : Der
  pub issuer : Der
  pub validity : Der
  pub subject : Der
  pub four : List ℕ
  pub are : AreElements (signature ∷ issuer ∷ validity ∷ subject ∷ []) four
  pub contents : List ℕ
  pub is_key : IsElement (record { tag = 0x30; contents = contents }) key
  pub rest : List ℕ
  pub same : bytes ≡ four ++ (key ++ rest)

-- a Certificate whose subjectPublicKeyInfo is this
pub record HasKey (key bytes : List ℕ) : Type 0 where
  pub tbs : List ℕ
  pub serial : List ℕ
  pub behind : List ℕ
  pub is : HasTbs tbs bytes
  pub begins : BeginsWithSerial serial tbs behind
  pub stands : StandsBehindFour key behind

-- a Certificate in whose TBS these bytes stand behind the subjectPublicKeyInfo
pub record HasTail (tail bytes : List ℕ) : Type 0 where
  pub key : List ℕ
  pub has : HasKey key bytes
  pub same : has.stands.rest ≡ tail
