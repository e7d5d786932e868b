-- Certificates with their timestamps as whole lists, apart from how they are read (RFC 5280, 4.1; RFC 6962, 3.2, 3.3).
use Rattle.std.specs.Prelude.{◌≡◌, ◌≢◌, ℕ, ◌≤◌, List, [], ◌∷◌, ◌++◌, length, Option, Some, None}
use Rattle.der_core.specs.Elements.{Der}
use Rattle.der_core.specs.Grammar.{IsElement, AreEach}
use Rattle.crl_core.specs.Extensions.{Ext}
use Rattle.crl_core.specs.Grammar.{tagged, IsExtension}
use Rattle.log_core.specs.VectorGrammar.{IsNumber, IsVector, IsSomeVector}
use Rattle.log_core.specs.CertificateGrammar.{HasTail}
use Rattle.ident_core.specs.declared.range.Sighting.{Sighting}
use Rattle.sct_core.specs.declared.bounds.TheConstants.{MAX_CERTIFICATE, MAX_SCTS}
use Rattle.sct_core.specs.Timestamps.{sightings_among}
use Rattle.sct_core.specs.Extensions.{first_some, value_if}

-- behind its version: a log id of 32 bytes, a time of 8, extensions, algorithms of 2 bytes and a signature
pub record IsVersion1 (s : Sighting) (bytes : List ℕ) : Type 0 where
  pub time : List ℕ
  pub unread : List ℕ
  pub extensions : List ℕ
  pub algorithms : List ℕ
  pub signed : List ℕ
  pub signature : List ℕ
  pub is_log : length s.log ≡ 32
  pub is_time : IsNumber 8 s.time time
  pub is_extensions : IsVector 2 unread extensions
  pub is_algorithms : length algorithms ≡ 2
  pub is_signature : IsVector 2 signed signature
  pub same : bytes ≡ s.log ++ (time ++ (extensions ++ (algorithms ++ signature)))

-- a timestamp of version 1, whose first byte is 0, or one of another version
abbrev pub IsTimestamp : Option Sighting → List ℕ → Type 0
IsTimestamp (Some s) bytes = (rest : List ℕ) × (bytes ≡ 0 ∷ rest) × IsVersion1 s rest
IsTimestamp None bytes = (version : ℕ) × (rest : List ℕ) × (bytes ≡ version ∷ rest) × (version ≢ 0)

-- a timestamp with its length before it stands before the rest
pub record StandsTimestamp (x : Option Sighting) (bytes rest : List ℕ) : Type 0 where
  pub contents : List ℕ
  pub front : List ℕ
  pub is_vector : IsSomeVector 2 contents front
  pub is : IsTimestamp x contents
  pub same : bytes ≡ front ++ rest

-- timestamps one after the other
abbrev pub AreTimestamps : List (Option Sighting) → List ℕ → Type 0
AreTimestamps [] bytes = bytes ≡ []
AreTimestamps (x ∷ xs) bytes = (rest : List ℕ) × StandsTimestamp x bytes rest × AreTimestamps xs rest

-- an OCTET STRING that holds a list of timestamps, one or more
pub record IsTimestampList (xs : List (Option Sighting)) (value : List ℕ) : Type 0 where
  pub contents : List ℕ
  pub list : List ℕ
  pub is_octets : IsElement (tagged 0x04 contents) value
  pub is_list : IsSomeVector 2 list contents
  pub are : AreTimestamps xs list

-- an element of the tail: what it holds, where its tag is [3]
abbrev pub IsOfTail : Option (List ℕ) → Der → Type 0
IsOfTail (Some contents) e = (e.tag ≡ 0xa3) × (e.contents ≡ contents)
IsOfTail None e = e.tag ≢ 0xa3

-- an extension: its value, where it is the one of timestamps
abbrev pub IsValue : Option (List ℕ) → Der → Type 0
IsValue value e = (x : Ext) × IsExtension x e × (value ≡ value_if x)

-- exactly one SEQUENCE of extensions
pub record AreValues (values : List (Option (List ℕ))) (explicit : List ℕ) : Type 0 where
  pub contents : List ℕ
  pub is : IsElement (tagged 0x30 contents) explicit
  pub are : AreEach IsValue values contents

-- the values of the extensions, where an element of extensions stands in the tail
abbrev pub HoldsValues : Option (List (Option (List ℕ))) → Option (List ℕ) → Type 0
HoldsValues None found = found ≡ None
HoldsValues (Some values) found = (explicit : List ℕ) × (found ≡ Some explicit) × AreValues values explicit

-- A certificate of at most MAX_CERTIFICATE bytes, and the values of the extensions of the first element [3] in its
-- tail, if it has one there. The tail is elements and nothing else.
pub record HasForm (values : Option (List (Option (List ℕ)))) (bytes : List ℕ) : Type 0 where
  pub small : length bytes ≤ MAX_CERTIFICATE
  pub tail : List ℕ
  pub has : HasTail tail bytes
  pub elements : List (Option (List ℕ))
  pub are_elements : AreEach IsOfTail elements tail
  pub holds : HoldsValues values (first_some elements)

-- the value of the first extension of timestamps, if there is one
abbrev pub first_value : Option (List (Option (List ℕ))) → Option (List ℕ)
first_value None = None
first_value (Some values) = first_some values

-- no certificate of this form
abbrev pub IsMalformed : List ℕ → Type 0
IsMalformed bytes = (values : Option (List (Option (List ℕ)))) → HasForm values bytes → ⊥

-- a certificate without an extension of timestamps
pub record HasNoList (bytes : List ℕ) : Type 0 where
  pub values : Option (List (Option (List ℕ)))
  pub form : HasForm values bytes
  pub none : first_value values ≡ None

-- a certificate with this value of its first extension of timestamps
pub record HasValue (value bytes : List ℕ) : Type 0 where
  pub values : Option (List (Option (List ℕ)))
  pub form : HasForm values bytes
  pub is : first_value values ≡ Some value

-- the value isn't a list of timestamps
pub record HasBadList (bytes : List ℕ) : Type 0 where
  pub value : List ℕ
  pub has : HasValue value bytes
  pub bad : (xs : List (Option Sighting)) → IsTimestampList xs value → ⊥

-- it is this list
pub record HasList (xs : List (Option Sighting)) (bytes : List ℕ) : Type 0 where
  pub value : List ℕ
  pub has : HasValue value bytes
  pub is_list : IsTimestampList xs value

-- what its timestamps of version 1 say, 1 to MAX_SCTS of them
pub record HasSightings (seen : List Sighting) (bytes : List ℕ) : Type 0 where
  pub all : List (Option Sighting)
  pub has : HasList all bytes
  pub same : seen ≡ sightings_among all
  pub some : 1 ≤ length seen
  pub few : length seen ≤ MAX_SCTS
