-- What is read as an entry is one, and what is one is read.
use Rattle.std.proofs.Common.{◌≡◌, ◌≢◌, ℕ, List, [], ◌∷◌, ◌++◌, true, nat_eq, Option, Some, None, refl, sym, ap, ◌∙◌, subst, append-nil}
use Rattle.std.specs.Prelude.{IfSome}
use Rattle.octets_core.specs.Walk.{ends, value_of}
use Rattle.der_core.specs.Elements.{Der}
use Rattle.der_core.specs.Grammar.{AreElements, one_of}
use Rattle.der_core.specs.Walk.{field, optional, element_where, is_time_tag, contents_if}
use Rattle.der_core.proofs.ItemLaws.{same_number}
use Rattle.der_core.proofs.WalkLaws.{ends-step, ends-read}
use Rattle.der_core.proofs.OrderLaws.{field-first, element-first, optional-first, field-before, element-before, optional-before, element_if}
use Rattle.der_core.proofs.EachLaws.{Reads, each-read, each-taken}
use Rattle.crl_core.specs.Extensions.{extension}
use Rattle.crl_core.specs.Form.{Entry, listed, some_octets, entry_fields, entry}
use Rattle.crl_core.specs.Grammar.{tagged, IsExtension, HoldsEach, IsEntry}
use Rattle.der_core.proofs.Steps.{then, given-then, value-then, whole-is}
use Rattle.crl_core.proofs.ExtensionLaws.{held, extension-reads}

-- a list that there may be is read,
pub listed-tag : {A : Type 0} (R : A → Der → Type 0) (xs : List A) (o : Option Der) → HoldsEach R xs o → IfSome o (λ e. e.tag ≡ 0x30)
listed-tag R xs None h = tt
listed-tag R xs (Some e) h = h.0

pub listed-read : {A : Type 0} (read : Der → Option A) (R : A → Der → Type 0) → Reads read R → (xs : List A) (o : Option Der) → HoldsEach R xs o → listed read (contents_if o) ≡ Some xs
listed-read {A} read R reads xs None h = ap (λ (ys : List A). Some ys) (sym h)
listed-read read R reads xs (Some e) h = each-read read R reads xs e.contents h.1

-- and what is read is one
pub listed-taken : {A : Type 0} (read : Der → Option A) (R : A → Der → Type 0) → Reads read R → (xs : List A) (o : Option (List ℕ)) → listed read o ≡ Some xs → HoldsEach R xs (element_if 0x30 o)
listed-taken read R reads xs None h = let same : [] ≡ xs = cc in sym same
listed-taken read R reads xs (Some contents) h = (refl, each-taken read R reads xs contents h)

some-read : (serial : List ℕ) → serial ≢ [] → some_octets serial ≡ Some serial
some-read [] h = absurd (h refl)
some-read (b ∷ bs) h = refl

some-taken : (octets serial : List ℕ) → some_octets octets ≡ Some serial → (octets ≡ serial) × (serial ≢ [])
some-taken [] serial h = cc
some-taken (b ∷ bs) serial h =
    let same : (b ∷ bs) ≡ serial = cc in
    (same, λ none. let no : (b ∷ bs) ≡ [] = same ∙ none in cc)

entry-gives : (x : Entry) (e : Der) → IsEntry x e → entry e ≡ Some x
unfolding entry entry_fields
entry-gives x e h =
    let serial = field-first 0x02 (tagged 0x02 x.serial) (h.date ∷ one_of h.list) e.contents h.elements refl in
    let date = element-first is_time_tag h.date (one_of h.list) serial.rest serial.more h.is_date in
    let P : List Der → Type 0 = λ es. AreElements es date.rest in
    let list = optional-first 0x30 h.list [] date.rest (subst P (sym (append-nil (one_of h.list))) date.more) (listed-tag IsExtension x.extensions h.list h.is_list) refl in
    rw (h.tag, serial.is, some-read x.serial h.some, date.is, list.is, listed-read extension IsExtension extension-reads x.extensions h.list h.is_list, list.more, ends-read) refl

-- The parts of an entry as they were read.
entry-made : (x made : Entry) (e date : Der) (list : Option (List ℕ)) (octets : List ℕ) → made ≡ x → e.tag ≡ 0x30
    → some_octets octets ≡ Some made.serial → is_time_tag date ≡ true → listed extension list ≡ Some made.extensions
    → AreElements (tagged 0x02 octets ∷ (date ∷ one_of (element_if 0x30 list))) e.contents → IsEntry x e
entry-made x made e date list octets same tag serial is_date extensions elements =
    let some = some-taken octets made.serial serial in
    let S : List ℕ → Type 0 = λ s. AreElements (tagged 0x02 s ∷ (date ∷ one_of (element_if 0x30 list))) e.contents in
    let P : Entry → Type 0 = λ y. IsEntry y e in
    subst P same (record {
      tag = tag;
      some = some.1;
      date = date;
      is_date = is_date;
      list = element_if 0x30 list;
      is_list = listed-taken extension IsExtension extension-reads made.extensions list extensions;
      elements = subst S some.0 elements;
    })

entry-only : (x : Entry) (e : Der) → entry e ≡ Some x → IsEntry x e
unfolding entry entry_fields
entry-only x e h =
    let is = held (nat_eq e.tag 0x30) (value_of (entry_fields e.contents)) x h in
    let tag = same_number e.tag 0x30 is.0 in
    value-then (IsEntry x e) (entry_fields e.contents) x is.1 (λ rest all.
    then (IsEntry x e) (field 0x02 e.contents) _ (x, rest) all (λ contents at_contents h1.
    given-then (IsEntry x e) (some_octets contents.0) contents.1 _ (x, rest) h1 (λ serial at_serial h2.
    then (IsEntry x e) (element_where is_time_tag contents.1) _ (x, rest) h2 (λ date at_date h3.
    then (IsEntry x e) (optional 0x30 date.1) _ (x, rest) h3 (λ list at_list h4.
    given-then (IsEntry x e) (listed extension list.0) list.1 _ (x, rest) h4 (λ extensions at_extensions h5.
    then (IsEntry x e) (ends list.1) _ (x, rest) h5 (λ end at_end h6.
    let made : Entry = record { serial = serial; extensions = extensions } in
    let last : AreElements (one_of (element_if 0x30 list.0) ++ []) date.1 = optional-before 0x30 date.1 list [] at_list (ends-step list.1 end at_end).0 in
    let P : List Der → Type 0 = λ es. AreElements es date.1 in
    let dated = element-before is_time_tag contents.1 date (one_of (element_if 0x30 list.0)) at_date (subst P (append-nil (one_of (element_if 0x30 list.0))) last) in
    entry-made x made e date.0 list.0 contents.0 (whole-is made end.1 (x, rest) h6) tag at_serial dated.0 at_extensions
    (field-before 0x02 e.contents contents (date.0 ∷ one_of (element_if 0x30 list.0)) at_contents dated.1))))))))

pub entry-reads : Reads entry IsEntry
entry-reads = record { gives = entry-gives; only = entry-only }
