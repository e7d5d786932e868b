-- What is read as an extension is one, and what is one is read.
use Rattle.std.proofs.Common.{◌≡◌, ◌≢◌, ℕ, List, [], ◌∷◌, ◌++◌, Bool, true, false, cond, nat_eq, inl, inr, Option, Some, None, refl, sym, ap, ◌∙◌, subst}
use Rattle.std.specs.Prelude.{IfSome, MatchBool}
use Rattle.std.specs.Option.{option_map}
use Rattle.octets_core.specs.Walk.{ends, value_of}
use Rattle.der_core.specs.Elements.{Der, items}
use Rattle.der_core.specs.Grammar.{one_of}
use Rattle.der_core.specs.Walk.{field, optional, alone, each, contents_if}
use Rattle.der_core.specs.Values.{truth}
use Rattle.der_core.proofs.ItemLaws.{same_number, other_number}
use Rattle.der_core.proofs.WalkLaws.{ends-step, ends-read, alone-read, alone-taken}
use Rattle.der_core.proofs.OrderLaws.{field-first, optional-first, field-before, optional-before, element_if}
use Rattle.der_core.proofs.EachLaws.{Reads, each-read, each-taken, from_map}
use Rattle.der_core.proofs.Steps.{then, given-then, value-then, whole-is}
use Rattle.crl_core.specs.Extensions.{Ext, CrlExt, critical_of, extension_fields, extension, point_flag, point_in, point, point_of, some_true, with_point, crl_extension, is_id_ce}
use Rattle.crl_core.specs.Grammar.{tagged, IsFlag, IsExtension, IsPointFlag, IsPoint, IsCrlExtension}

-- where a test had to hold for a value, it held
pub held : {A : Type 0} (b : Bool) (r : Option A) (x : A) → cond b r None ≡ Some x → (b ≡ true) × (r ≡ Some x)
held true r x h = (refl, h)
held false r x h = cc

-- a BOOLEAN has its tag and its contents
boolean-is : (b : Bool) (e : Der) (flag : Bool) → nat_eq e.tag 0x01 ≡ b → cond b (truth e.contents) None ≡ Some flag → (e.tag ≡ 0x01) × (truth e.contents ≡ Some flag)
boolean-is true e flag t h = (same_number e.tag 0x01 t, h)
boolean-is false e flag t h = cc

flag-tag : (critical : Bool) (flag : Option Der) → IsFlag critical flag → IfSome flag (λ e. e.tag ≡ 0x01)
flag-tag critical None h = tt
flag-tag critical (Some e) h = (boolean-is (nat_eq e.tag 0x01) e critical refl h).0

flag-read : (critical : Bool) (flag : Option Der) → IsFlag critical flag → critical_of (contents_if flag) ≡ Some critical
flag-read critical None h = ap (λ (b : Bool). Some b) (sym h)
flag-read critical (Some e) h = (boolean-is (nat_eq e.tag 0x01) e critical refl h).1

-- an extension is read
extension-gives : (x : Ext) (e : Der) → IsExtension x e → extension e ≡ Some x
unfolding extension extension_fields
extension-gives x e h =
    let oid = field-first 0x06 (tagged 0x06 x.oid) (one_of h.flag ++ tagged 0x04 x.value ∷ []) e.contents h.elements refl in
    let flag = optional-first 0x01 h.flag (tagged 0x04 x.value ∷ []) oid.rest oid.more (flag-tag x.critical h.flag h.is_flag) refl in
    let value = field-first 0x04 (tagged 0x04 x.value) [] flag.rest flag.more refl in
    rw (h.tag, oid.is, flag.is, flag-read x.critical h.flag h.is_flag, value.is, value.more, ends-read) refl

flag-taken : (critical : Bool) (flag : Option (List ℕ)) → critical_of flag ≡ Some critical → IsFlag critical (element_if 0x01 flag)
flag-taken critical None h = let same : false ≡ critical = cc in sym same
flag-taken critical (Some contents) h = h

-- what is read is an extension
extension-only : (x : Ext) (e : Der) → extension e ≡ Some x → IsExtension x e
unfolding extension extension_fields
extension-only x e h =
    let is = held (nat_eq e.tag 0x30) (value_of (extension_fields e.contents)) x h in
    value-then (IsExtension x e) (extension_fields e.contents) x is.1 (λ rest all.
    then (IsExtension x e) (field 0x06 e.contents) _ (x, rest) all (λ oid at_oid h1.
    then (IsExtension x e) (optional 0x01 oid.1) _ (x, rest) h1 (λ flag at_flag h2.
    given-then (IsExtension x e) (critical_of flag.0) flag.1 _ (x, rest) h2 (λ critical at_critical h3.
    then (IsExtension x e) (field 0x04 flag.1) _ (x, rest) h3 (λ value at_value h4.
    then (IsExtension x e) (ends value.1) _ (x, rest) h4 (λ end at_end h5.
    let made : Ext = record { oid = oid.0; critical = critical; value = value.0 } in
    let last = field-before 0x04 flag.1 value [] at_value (ends-step value.1 end at_end).0 in
    let more = optional-before 0x01 oid.1 flag (tagged 0x04 value.0 ∷ []) at_flag last in
    let P : Ext → Type 0 = λ y. IsExtension y e in
    subst P (whole-is made end.1 (x, rest) h5) (record {
      tag = same_number e.tag 0x30 is.0;
      flag = element_if 0x01 flag.0;
      is_flag = flag-taken critical flag.0 at_critical;
      elements = field-before 0x06 e.contents oid _ at_oid more;
    })))))))

pub extension-reads : Reads extension IsExtension
extension-reads = record { gives = extension-gives; only = extension-only }

no_number : (a b : ℕ) → a ≢ b → (t : Bool) → nat_eq a b ≡ t → nat_eq a b ≡ false
no_number a b h true t = absurd (h (same_number a b t))
no_number a b h false t = t

point_flag-gives : (flag : Bool) (e : Der) → IsPointFlag flag e → point_flag e ≡ Some flag
point_flag-gives flag e (inl h) = rw h.0 h.1
point_flag-gives flag e (inr h) = rw (no_number e.tag 0x84 h.0 (nat_eq e.tag 0x84) refl) (ap (λ (b : Bool). Some b) (sym h.1))

point_flag-by : (flag : Bool) (e : Der) (b : Bool) → nat_eq e.tag 0x84 ≡ b → cond b (truth e.contents) (Some false) ≡ Some flag → IsPointFlag flag e
point_flag-by flag e true t h = inl (same_number e.tag 0x84 t, h)
point_flag-by flag e false t h = let same : false ≡ flag = cc in inr (other_number e.tag 0x84 t, sym same)

point_flag-reads : Reads point_flag IsPointFlag
point_flag-reads = record { gives = point_flag-gives; only = λ flag e h. point_flag-by flag e (nat_eq e.tag 0x84) refl h }

point-gives : (indirect : Bool) (value : List ℕ) → IsPoint indirect value → point value ≡ Some indirect
unfolding point
point-gives indirect value h =
    let one = alone-read 0x30 h.contents value h.is_sequence in
    let flags = each-read point_flag IsPointFlag point_flag-reads h.flags h.contents h.are_flags in
    rw (one, flags) (ap (λ (b : Bool). Some b) (sym h.some))

point-in-only : (indirect : Bool) (value : List ℕ) (r : Option (List ℕ)) → value_of (alone 0x30 value) ≡ r → point_in r ≡ Some indirect → IsPoint indirect value
point-in-only indirect value None one h = cc
point-in-only indirect value (Some contents) one h =
    let flags = from_map some_true (each point_flag (items contents)) indirect h in
    record {
      contents = contents;
      is_sequence = alone-taken 0x30 value contents one;
      flags = flags.0;
      are_flags = each-taken point_flag IsPointFlag point_flag-reads flags.0 contents flags.1;
      some = flags.2;
    }

point-only : (indirect : Bool) (value : List ℕ) → point value ≡ Some indirect → IsPoint indirect value
unfolding point
point-only indirect value h = point-in-only indirect value (value_of (alone 0x30 value)) refl h

point_of-by : (x : CrlExt) (b : Bool) → MatchBool b (IsPoint x.indirect x.general.value) (x.indirect ≡ false) → cond b (point x.general.value) (Some false) ≡ Some x.indirect
point_of-by x true h = point-gives x.indirect x.general.value h
point_of-by x false h = ap (λ (b : Bool). Some b) (sym h)

crl_extension-gives : (x : CrlExt) (e : Der) → IsCrlExtension x e → crl_extension e ≡ Some x
crl_extension-gives x e h =
    let general = extension-gives x.general e h.general in
    let indirect = point_of-by x (is_id_ce 0x1c x.general.oid) h.point in
    ap with_point general ∙ ap (option_map (λ (i : Bool). record { general = x.general; indirect = i })) indirect

is_point-by : (value : List ℕ) (indirect : Bool) (b : Bool) → cond b (point value) (Some false) ≡ Some indirect → MatchBool b (IsPoint indirect value) (indirect ≡ false)
is_point-by value indirect true h = point-only indirect value h
is_point-by value indirect false h = let same : false ≡ indirect = cc in sym same

crl_extension-by : (x : CrlExt) (e : Der) (r : Option Ext) → extension e ≡ r → with_point r ≡ Some x → IsCrlExtension x e
crl_extension-by x e None general h = cc
crl_extension-by x e (Some y) general h =
    let found = from_map (λ (i : Bool). record { general = y; indirect = i }) (point_of y) x h in
    let P : CrlExt → Type 0 = λ z. IsCrlExtension z e in
    subst P (sym found.2) (record { general = extension-only y e general; point = is_point-by y.value found.0 (is_id_ce 0x1c y.oid) found.1 })

pub crl_extension-reads : Reads crl_extension IsCrlExtension
crl_extension-reads = record { gives = crl_extension-gives; only = λ x e h. crl_extension-by x e (extension e) refl h }
