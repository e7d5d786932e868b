-- Extensions of CRLs and of their entries (RFC 5280, 4.1, 5.2 and 5.3).
--   Extension ::= SEQUENCE { extnID OBJECT IDENTIFIER, critical BOOLEAN DEFAULT FALSE, extnValue OCTET STRING }
use Rattle.std.specs.Prelude.{ℕ, List, [], ◌∷◌, Bool, false, nat_eq, if◌then◌else◌, Option, Some, None}
use Rattle.std.specs.Option.{option_map}
use Rattle.std.specs.List.{list_any}
use Rattle.std.specs.Str.{bytes_eq}
use Rattle.octets_core.specs.Walk.{Walk, ◌>>=◌, whole, given, ends, value_of}
use Rattle.der_core.specs.Elements.{Der, items}
use Rattle.der_core.specs.Walk.{field, optional, alone, each}
use Rattle.der_core.specs.Values.{truth}
use Rattle.crl_core.specs.declared.extension.Extension.{Extension}

-- an extension without where it lies in memory
pub record Ext : Type 0 where
  pub oid : List ℕ
  pub critical : Bool
  pub value : List ℕ

abbrev pub ext_of : Extension → Ext
ext_of x = record { oid = x.oid.now; critical = x.critical; value = x.value.now }

-- FALSE, where no BOOLEAN stands there
abbrev pub critical_of : Option (List ℕ) → Option Bool
critical_of None = Some false
critical_of (Some contents) = truth contents

unfoldable pub extension_fields : Walk Ext
extension_fields = do
  oid ← field 0x06
  flag ← optional 0x01
  critical ← given (critical_of flag)
  value ← field 0x04
  end ← ends
  whole (record { oid = oid; critical = critical; value = value })

unfoldable pub extension : Der → Option Ext
extension e = if nat_eq e.tag 0x30 then value_of (extension_fields e.contents) else None

-- the contents of the OID 2.5.29.n
abbrev pub is_id_ce : ℕ → List ℕ → Bool
is_id_ce n oid = bytes_eq oid (0x55 ∷ 0x1d ∷ n ∷ [])

-- an element of an issuing distribution point (5.2.5): indirectCRL [4] BOOLEAN, or what isn't read
abbrev pub point_flag : Der → Option Bool
point_flag e = if nat_eq e.tag 0x84 then truth e.contents else Some false

-- one of them is true
abbrev pub some_true : List Bool → Bool
some_true flags = list_any (λ b. b) flags

abbrev pub point_in : Option (List ℕ) → Option Bool
point_in None = None
point_in (Some contents) = option_map some_true (each point_flag (items contents))

-- whether an issuing distribution point is one of an indirect CRL
unfoldable pub point : List ℕ → Option Bool
point value = point_in (value_of (alone 0x30 value))

-- an extension of a CRL, and whether it is the distribution point of an indirect one
pub record CrlExt : Type 0 where
  pub general : Ext
  pub indirect : Bool

abbrev pub point_of : Ext → Option Bool
point_of x = if is_id_ce 0x1c x.oid then point x.value else Some false

abbrev pub with_point : Option Ext → Option CrlExt
with_point None = None
with_point (Some x) = option_map (λ i. record { general = x; indirect = i }) (point_of x)

abbrev pub crl_extension : Der → Option CrlExt
crl_extension e = with_point (extension e)
