-- Where the timestamps of a certificate lie (RFC 5280, 4.1; RFC 6962, 3.3).
--   TBSCertificate ::= SEQUENCE { .., extensions [3] EXPLICIT Extensions OPTIONAL }
--   SignedCertificateTimestampList ::= OCTET STRING
--   struct { SerializedSCT sct_list <1..2^16-1> } SignedCertificateTimestampList
use Rattle.std.specs.Prelude.{ℕ, List, [], ◌∷◌, nat_eq, if◌then◌else◌, Option, Some, None}
use Rattle.std.specs.Option.{option_map}
use Rattle.std.specs.Str.{bytes_eq}
use Rattle.octets_core.specs.Walk.{Walk, ◌>>=◌, whole, ends, value_of, within}
use Rattle.octets_core.specs.Vectors.{some_vector}
use Rattle.der_core.specs.Elements.{Der, items}
use Rattle.der_core.specs.Walk.{each, alone}
use Rattle.crl_core.specs.Extensions.{Ext, extension}

-- the contents of the OID 1.3.6.1.4.1.11129.2.4.2
abbrev pub sct_oid : List ℕ
sct_oid = 0x2b ∷ 0x06 ∷ 0x01 ∷ 0x04 ∷ 0x01 ∷ 0xd6 ∷ 0x79 ∷ 0x02 ∷ 0x04 ∷ 0x02 ∷ []

-- the first that is there
abbrev pub first_some : {A : Type 0} → List (Option A) → Option A
first_some [] = None
first_some (None ∷ xs) = first_some xs
first_some (Some x ∷ xs) = Some x

-- the contents of an element of the tail, where its tag is [3]
abbrev pub extensions_from : Der → Option (Option (List ℕ))
extensions_from e = Some (if nat_eq e.tag 0xa3 then Some e.contents else None)

-- the contents of the first such element, if the tail is elements and nothing else
abbrev pub extensions_in : List ℕ → Option (Option (List ℕ))
extensions_in tail = option_map first_some (each extensions_from (items tail))

-- the value of an extension, where it is the one of timestamps
abbrev pub value_if : Ext → Option (List ℕ)
value_if x = if bytes_eq x.oid sct_oid then Some x.value else None

abbrev pub value_from : Der → Option (Option (List ℕ))
value_from e = option_map value_if (extension e)

-- the value of the first extension of timestamps, if these are extensions
abbrev pub value_among : Option (List ℕ) → Option (Option (List ℕ))
value_among None = None
value_among (Some contents) = option_map first_some (each value_from (items contents))

abbrev pub value_in : List ℕ → Option (Option (List ℕ))
value_in explicit = value_among (value_of (alone 0x30 explicit))

-- a list of one byte or more with its length before it, and nothing behind it
unfoldable pub whole_list : Walk (List ℕ)
whole_list = do
  list ← some_vector 2
  end ← ends
  whole list

-- the timestamps in the value of an extension, one behind the other
abbrev pub list_in : List ℕ → Option (List ℕ)
list_in value = within whole_list (value_of (alone 0x04 value))
