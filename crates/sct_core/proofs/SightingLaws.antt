-- What is read of a certificate is what it carries.
use Rattle.std.proofs.Common.{◌⊎◌, inl, inr, ◌≡◌, ℕ, ◌≤◌, List, [], ◌∷◌, ◌++◌, length, Bool, true, false, cond, nat_eq, nat_lt, Option}
use Rattle.std.proofs.Common.{Some, None, Result, Ok, Err, refl, sym, ap, ◌∙◌, subst, arith, append-nil}
use Rattle.std.proofs.lemmas.Bool.Decides.{nat_tests}
use Rattle.std.specs.Prelude.{IfOk}
use Rattle.std.specs.Option.{option_map}
use Rattle.octets_core.specs.Walk.{ends, value_of, within, all_of}
use Rattle.octets_core.specs.Vectors.{some_vector}
use Rattle.der_core.specs.Elements.{Der, items}
use Rattle.der_core.specs.Grammar.{AreEach}
use Rattle.der_core.specs.Walk.{alone, each}
use Rattle.der_core.proofs.ItemLaws.{same_number, other_number}
use Rattle.der_core.proofs.EachLaws.{Reads, each-read, each-taken, from_map}
use Rattle.der_core.proofs.WalkLaws.{step, ends-step, ends-read, value-step, alone-read, alone-taken}
use Rattle.crl_core.specs.Extensions.{extension}
use Rattle.der_core.proofs.Steps.{whole-is}
use Rattle.crl_core.proofs.ExtensionLaws.{extension-reads}
use Rattle.log_core.specs.CertificateGrammar.{HasTail}
use Rattle.log_core.specs.VectorGrammar.{IsSomeVector}
use Rattle.log_core.specs.Certificates.{certificate_tail}
use Rattle.log_core.proofs.VectorLaws.{some_vector-read, some_vector-taken}
use Rattle.log_core.proofs.CertificateLaws.{certificate_tail-read, certificate_tail-taken}
use Rattle.ident_core.specs.declared.range.Sighting.{Sighting}
use Rattle.sct_core.specs.declared.fault.CertFault.{CertFault}
use Rattle.sct_core.specs.declared.fault.CertFault.TheVariants as fault
use Rattle.sct_core.specs.declared.bounds.TheConstants.{MAX_CERTIFICATE, MAX_SCTS}
use Rattle.sct_core.specs.Timestamps.{timestamp, sightings_among}
use Rattle.sct_core.specs.Extensions.{first_some, extensions_from, extensions_in, value_if, value_from, value_among, value_in, whole_list, list_in}
use Rattle.sct_core.specs.Grammar.{IsTimestampList, IsOfTail, IsValue, AreValues, HoldsValues, HasForm, first_value, IsMalformed, HasNoList, HasValue, HasBadList, HasList, HasSightings}
use Rattle.sct_core.specs.Outcome.{of_sightings, of_timestamps, of_list, of_value, of_extensions, of_tail, sightings_of}
use Rattle.sct_core.proofs.ListLaws.{lt_false, few}
use Rattle.sct_core.proofs.TimestampLaws.{no_number, all-read, all-taken}

of_tail-gives : (x : Option (List ℕ)) (e : Der) → IsOfTail x e → extensions_from e ≡ Some x
of_tail-gives (Some contents) e h = rw (h.0) (ap (λ (c : List ℕ). Some (Some c)) h.1)
of_tail-gives None e h = rw (no_number e.tag 0xa3 h (nat_eq e.tag 0xa3) refl) refl

of_tail-by : (x : Option (List ℕ)) (e : Der) (b : Bool) → nat_eq e.tag 0xa3 ≡ b → Some (cond b (Some e.contents) None) ≡ Some x → IsOfTail x e
of_tail-by x e true t h =
    let same : Some e.contents ≡ x = cc in
    let P : Option (List ℕ) → Type 0 = λ y. IsOfTail y e in
    subst P same (same_number e.tag 0xa3 t, refl)
of_tail-by x e false t h =
    let same : None ≡ x = cc in
    let P : Option (List ℕ) → Type 0 = λ y. IsOfTail y e in
    subst P same (other_number e.tag 0xa3 t)

of_tail-reads : Reads extensions_from IsOfTail
of_tail-reads = record { gives = of_tail-gives; only = λ x e h. of_tail-by x e (nat_eq e.tag 0xa3) refl h }

value-gives : (x : Option (List ℕ)) (e : Der) → IsValue x e → value_from e ≡ Some x
value-gives x e h = rw (extension-reads.gives h.0 e h.1) (ap (λ (v : Option (List ℕ)). Some v) (sym h.2))

value-only : (x : Option (List ℕ)) (e : Der) → value_from e ≡ Some x → IsValue x e
value-only x e h = let y = from_map value_if (extension e) x h in (y.0, extension-reads.only y.0 e y.1, y.2)

value-reads : Reads value_from IsValue
value-reads = record { gives = value-gives; only = value-only }

extensions-read : (elements : List (Option (List ℕ))) (tail : List ℕ) → AreEach IsOfTail elements tail → extensions_in tail ≡ Some (first_some elements)
extensions-read elements tail h = rw (each-read extensions_from IsOfTail of_tail-reads elements tail h) refl

value-read : (values : List (Option (List ℕ))) (explicit : List ℕ) → AreValues values explicit → value_in explicit ≡ Some (first_some values)
value-read values explicit h = rw (alone-read 0x30 h.contents explicit h.is, each-read value_from IsValue value-reads values h.contents h.are) refl

whole_list-read : (list bytes : List ℕ) → IsSomeVector 2 list bytes → whole_list bytes ≡ Some (list, [])
unfolding whole_list
whole_list-read list bytes h =
    let P : List ℕ → Type 0 = λ bs. some_vector 2 bs ≡ Some (list, []) in
    rw (subst P (append-nil bytes) (some_vector-read 2 list bytes [] h), ends-read) refl

list-read : (xs : List (Option Sighting)) (value : List ℕ) (h : IsTimestampList xs value) → list_in value ≡ Some h.list
list-read xs value h = rw (alone-read 0x04 h.contents value h.is_octets, whole_list-read h.list h.contents h.is_list) refl

held-read : (values : Option (List (Option (List ℕ)))) (found : Option (List ℕ)) → HoldsValues values found → of_extensions (Some found) ≡ of_value (Some (first_value values))
held-read None found h = rw (h) refl
held-read (Some values) found h = rw (h.1, value-read values h.0 h.2) refl

form-read : (values : Option (List (Option (List ℕ)))) (bytes : List ℕ) → HasForm values bytes → sightings_of bytes ≡ of_value (Some (first_value values))
form-read values bytes h =
    rw (lt_false MAX_CERTIFICATE (length bytes) h.small, certificate_tail-read h.tail bytes h.has, extensions-read h.elements h.tail h.are_elements)
    (held-read values (first_some h.elements) h.holds)

pub none-read : (bytes : List ℕ) → HasNoList bytes → sightings_of bytes ≡ Err fault.NoScts
none-read bytes h = form-read h.values bytes h.form ∙ rw (h.none) refl

has-read : (value bytes : List ℕ) → HasValue value bytes → sightings_of bytes ≡ of_list (list_in value)
has-read value bytes h = form-read h.values bytes h.form ∙ rw (h.is) refl

pub has_list-read : (xs : List (Option Sighting)) (bytes : List ℕ) → HasList xs bytes → sightings_of bytes ≡ of_sightings (sightings_among xs)
has_list-read xs bytes h = has-read h.value bytes h.has ∙ rw (list-read xs h.value h.is_list, all-read xs h.is_list.list h.is_list.are) refl

pub sightings-read : (seen : List Sighting) (bytes : List ℕ) → HasSightings seen bytes → sightings_of bytes ≡ Ok seen
sightings-read seen bytes h = has_list-read h.all bytes h.has ∙ ap of_sightings (sym h.same) ∙ few seen h.some h.few

-- the way back: what was given came of what stands there
mapped : {A : Type 0} (r : Option (List (Option A))) (x : Option A) → option_map first_some r ≡ Some x → (xs : List (Option A)) × (r ≡ Some xs) × (first_some xs ≡ x)
mapped None x h = cc
mapped (Some xs) x h = (xs, refl, cc)

values-taken : (explicit : List ℕ) (value : Option (List ℕ)) (r : Option (List ℕ)) → value_of (alone 0x30 explicit) ≡ r → value_among r ≡ Some value
    → (values : List (Option (List ℕ))) × AreValues values explicit × (first_some values ≡ value)
values-taken explicit value None e h = cc
values-taken explicit value (Some contents) e h =
    let f = mapped (each value_from (items contents)) value h in
    (f.0, record { contents = contents; is = alone-taken 0x30 explicit contents e; are = each-taken value_from IsValue value-reads f.0 contents f.1 }, f.2)

whole_list-taken : (bytes : List ℕ) (x : List ℕ × List ℕ) → whole_list bytes ≡ Some x → IsSomeVector 2 x.0 bytes
unfolding whole_list
whole_list-taken bytes x h =
    let a = step (some_vector 2 bytes) _ x h in
    let b = step (ends a.0.1) _ x a.2 in
    let same : a.0.0 ≡ x.0 = whole-is a.0.0 b.0.1 x b.2 in
    let f = some_vector-taken 2 bytes a.0 a.1 in
    let none = ends-step a.0.1 b.0 b.1 in
    let whole : bytes ≡ f.front = f.same ∙ ap (λ (r : List ℕ). f.front ++ r) none.0 ∙ append-nil f.front in
    let P : List ℕ → Type 0 = λ l. IsSomeVector 2 l f.front in
    let Q : List ℕ → Type 0 = λ bs. IsSomeVector 2 x.0 bs in
    subst Q (sym whole) (subst P same f.is)

list-taken : (xs : List (Option Sighting)) (value list : List ℕ) (r : Option (List ℕ)) → value_of (alone 0x04 value) ≡ r
    → within whole_list r ≡ Some list → all_of timestamp list ≡ Some xs → IsTimestampList xs value
list-taken xs value list None e h k = cc
list-taken xs value list (Some contents) e h k =
    let v = value-step (whole_list contents) list h in
    record { contents = contents; list = list; is_octets = alone-taken 0x04 value contents e; is_list = whole_list-taken contents (list, v.0) v.1; are = all-taken xs list k }

-- What was given is what all of them say, 1 to MAX_SCTS.
record Counted (seen : List Sighting) (r : Option (List (Option Sighting))) : Type 0 where
  all : List (Option Sighting)
  read : r ≡ Some all
  same : seen ≡ sightings_among all
  some : 1 ≤ length seen
  few : length seen ≤ MAX_SCTS

few-by : (x : Sighting) (xs seen : List Sighting) (b : Bool) → nat_lt MAX_SCTS (length (x ∷ xs)) ≡ b
    → cond b (Err fault.TooManyScts) (Ok (x ∷ xs)) ≡ Ok seen → ((x ∷ xs) ≡ seen) × (length (x ∷ xs) ≤ MAX_SCTS)
few-by x xs seen true t h = cc
few-by x xs seen false t h = (cc, grind (arith, nat_tests))

few-taken : (xs seen : List Sighting) → of_sightings xs ≡ Ok seen → (xs ≡ seen) × (1 ≤ length seen) × (length seen ≤ MAX_SCTS)
few-taken [] seen h = cc
few-taken (x ∷ xs) seen h =
    let f = few-by x xs seen (nat_lt MAX_SCTS (length (x ∷ xs))) refl h in
    let len : length (x ∷ xs) ≡ length seen = ap length f.0 in
    (f.0, omega (arith, len), omega (arith, len, f.1))

counted-taken : (seen : List Sighting) (r : Option (List (Option Sighting))) → of_timestamps r ≡ Ok seen → Counted seen r
counted-taken seen None h = cc
counted-taken seen (Some xs) h =
    let f = few-taken (sightings_among xs) seen h in
    record { all = xs; read = refl; same = sym f.0; some = f.1; few = f.2 }

of_list-taken : (seen : List Sighting) (r : Option (List ℕ)) → of_list r ≡ Ok seen → (list : List ℕ) × (r ≡ Some list) × Counted seen (all_of timestamp list)
of_list-taken seen None h = cc
of_list-taken seen (Some list) h = (list, refl, counted-taken seen (all_of timestamp list) h)

-- A form, and what comes of the value that is found in it.
record Formed (bytes : List ℕ) (r : Result (List Sighting) CertFault) : Type 0 where
  values : Option (List (Option (List ℕ)))
  form : HasForm values bytes
  same : r ≡ of_value (Some (first_value values))

-- Malformed, or what comes of a form.
abbrev ComesOfForm : List ℕ → Result (List Sighting) CertFault → Type 0
ComesOfForm bytes r = (r ≡ Err fault.Malformed) ⊎ Formed bytes r

value-comes : (bytes tail explicit : List ℕ) (elements : List (Option (List ℕ))) → length bytes ≤ MAX_CERTIFICATE
    → HasTail tail bytes → AreEach IsOfTail elements tail → first_some elements ≡ Some explicit
    → (r : Option (Option (List ℕ))) → value_in explicit ≡ r → ComesOfForm bytes (of_value r)
value-comes bytes tail explicit elements small has are found None e = inl refl
value-comes bytes tail explicit elements small has are found (Some value) e =
    let v = values-taken explicit value (value_of (alone 0x30 explicit)) refl e in
    inr (record {
      values = Some v.0;
      form = record { small = small; tail = tail; has = has; elements = elements; are_elements = are; holds = (explicit, found, v.1) };
      same = ap (λ (x : Option (List ℕ)). of_value (Some x)) (sym v.2);
    })

found-comes : (bytes tail : List ℕ) (elements : List (Option (List ℕ))) → length bytes ≤ MAX_CERTIFICATE → HasTail tail bytes → AreEach IsOfTail elements tail
    → (found : Option (List ℕ)) → first_some elements ≡ found → ComesOfForm bytes (of_extensions (Some found))
found-comes bytes tail elements small has are None e =
    inr (record { values = None; form = record { small = small; tail = tail; has = has; elements = elements; are_elements = are; holds = e }; same = refl })
found-comes bytes tail elements small has are (Some explicit) e = value-comes bytes tail explicit elements small has are e (value_in explicit) refl

extensions-comes : (bytes tail : List ℕ) → length bytes ≤ MAX_CERTIFICATE → HasTail tail bytes → (r : Option (Option (List ℕ))) → extensions_in tail ≡ r → ComesOfForm bytes (of_extensions r)
extensions-comes bytes tail small has None e = inl refl
extensions-comes bytes tail small has (Some found) e =
    let b = mapped (each extensions_from (items tail)) found e in
    found-comes bytes tail b.0 small has (each-taken extensions_from IsOfTail of_tail-reads b.0 tail b.1) found b.2

tail-comes : (bytes : List ℕ) → length bytes ≤ MAX_CERTIFICATE → (r : Option (List ℕ)) → certificate_tail bytes ≡ r → ComesOfForm bytes (of_tail r)
tail-comes bytes small None e = inl refl
tail-comes bytes small (Some tail) e = extensions-comes bytes tail small (certificate_tail-taken tail bytes e) (extensions_in tail) refl

small-comes : (bytes : List ℕ) (b : Bool) → nat_lt MAX_CERTIFICATE (length bytes) ≡ b → ComesOfForm bytes (cond b (Err fault.Malformed) (of_tail (certificate_tail bytes)))
small-comes bytes true t = inl refl
small-comes bytes false t = tail-comes bytes (grind (arith, nat_tests)) (certificate_tail bytes) refl

comes : (bytes : List ℕ) → ComesOfForm bytes (sightings_of bytes)
comes bytes = small-comes bytes (nat_lt MAX_CERTIFICATE (length bytes)) refl

formless : (bytes : List ℕ) → IsMalformed bytes → ComesOfForm bytes (sightings_of bytes) → sightings_of bytes ≡ Err fault.Malformed
formless bytes h (inl e) = e
formless bytes h (inr f) = absurd (h f.values f.form)

pub malformed-read : (bytes : List ℕ) → IsMalformed bytes → sightings_of bytes ≡ Err fault.Malformed
malformed-read bytes h = formless bytes h (comes bytes)

bad-all : (value list : List ℕ) → ((xs : List (Option Sighting)) → IsTimestampList xs value → ⊥) → list_in value ≡ Some list
    → (r : Option (List (Option Sighting))) → all_of timestamp list ≡ r → of_timestamps r ≡ Err fault.BadScts
bad-all value list bad e None k = refl
bad-all value list bad e (Some xs) k = absurd (bad xs (list-taken xs value list (value_of (alone 0x04 value)) refl e k))

bad-list : (value : List ℕ) → ((xs : List (Option Sighting)) → IsTimestampList xs value → ⊥) → (r : Option (List ℕ)) → list_in value ≡ r → of_list r ≡ Err fault.BadScts
bad-list value bad None e = refl
bad-list value bad (Some list) e = bad-all value list bad e (all_of timestamp list) refl

pub bad-read : (bytes : List ℕ) → HasBadList bytes → sightings_of bytes ≡ Err fault.BadScts
bad-read bytes h = has-read h.value bytes h.has ∙ bad-list h.value h.bad (list_in h.value) refl

value-taken : (seen : List Sighting) (values : Option (List (Option (List ℕ)))) (r : Option (List ℕ)) → first_value values ≡ r → of_value (Some r) ≡ Ok seen
    → (value : List ℕ) × (first_value values ≡ Some value) × (of_list (list_in value) ≡ Ok seen)
value-taken seen values None e h = cc
value-taken seen values (Some value) e h = (value, e, h)

comes-taken : (seen : List Sighting) (bytes : List ℕ) → sightings_of bytes ≡ Ok seen → ComesOfForm bytes (sightings_of bytes) → HasSightings seen bytes
comes-taken seen bytes h (inl e) = cc
comes-taken seen bytes h (inr f) =
    let value = value-taken seen f.values (first_value f.values) refl (sym f.same ∙ h) in
    let list = of_list-taken seen (list_in value.0) value.2 in
    record {
      all = list.2.all;
      has = record {
        value = value.0;
        has = record { values = f.values; form = f.form; is = value.1 };
        is_list = list-taken list.2.all value.0 list.0 (value_of (alone 0x04 value.0)) refl list.1 list.2.read;
      };
      same = list.2.same;
      some = list.2.some;
      few = list.2.few;
    }

pub sightings-taken : (seen : List Sighting) (bytes : List ℕ) → sightings_of bytes ≡ Ok seen → HasSightings seen bytes
sightings-taken seen bytes h = comes-taken seen bytes h (comes bytes)

pub sightings-found : (bytes : List ℕ) (r : Result (List Sighting) CertFault) → r ≡ sightings_of bytes → IfOk r (λ seen. HasSightings seen bytes)
sightings-found bytes (Ok seen) h = sightings-taken seen bytes (sym h)
sightings-found bytes (Err e) h = tt
