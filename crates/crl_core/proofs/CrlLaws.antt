-- What is read as a CRL is one, what is one is read, and what that says of the outcome.
use Rattle.std.proofs.Common.{◌≡◌, ◌≢◌, ℕ, List, [], ◌∷◌, Bool, true, false, cond, Option, Some, None, Result, Ok, Err, refl, sym, ap, ◌∙◌, subst}
use Rattle.std.specs.Prelude.{IfOk, IfErr}
use Rattle.octets_core.specs.Walk.{ends, value_of, within}
use Rattle.der_core.specs.Grammar.{AreElements}
use Rattle.der_core.specs.Walk.{field, alone}
use Rattle.der_core.proofs.WalkLaws.{ends-step, ends-read, alone-read, alone-taken}
use Rattle.der_core.proofs.OrderLaws.{field-first, field-before}
use Rattle.crl_core.specs.declared.crl.Crl.{Crl}
use Rattle.crl_core.specs.declared.crl.CrlFault.{CrlFault}
use Rattle.crl_core.specs.declared.crl.CrlFault.TheVariants as fault
use Rattle.crl_core.specs.Form.{CrlForm, tbs, certificate_list, crl_form}
use Rattle.crl_core.specs.Grammar.{tagged, IsCrl}
use Rattle.crl_core.specs.Outcome.{CrlFields, is_delta, is_indirect, has_unknown, accepted, outcome_of, outcome_if, outcome, ComesTo, GivesOutcome, crl_of}
use Rattle.der_core.proofs.Steps.{then, value-then, whole-is}
use Rattle.crl_core.proofs.TbsLaws.{tbs-gives, tbs-only}

-- a CRL is read
pub crl-gives : (form : CrlForm) (bytes : List ℕ) → IsCrl form bytes → crl_form bytes ≡ Some form
unfolding certificate_list
crl-gives form bytes h =
    let one = alone-read 0x30 h.list bytes h.is_list in
    let contents = field-first 0x30 (tagged 0x30 h.contents) (h.algorithm ∷ (h.signature ∷ [])) h.list h.elements refl in
    let algorithm = field-first 0x30 h.algorithm (h.signature ∷ []) contents.rest contents.more h.is_algorithm in
    let signature = field-first 0x03 h.signature [] algorithm.rest algorithm.more h.is_signature in
    let said = tbs-gives form h.contents h.is_contents in
    rw (one, contents.is, algorithm.is, signature.is, signature.more, ends-read, said.1) refl

crl-made : (form : CrlForm) (bytes list contents : List ℕ) → value_of (alone 0x30 bytes) ≡ Some list → value_of (certificate_list list) ≡ Some contents
    → value_of (tbs contents) ≡ Some form → IsCrl form bytes
unfolding certificate_list
crl-made form bytes list contents at_list at_contents at_form =
    value-then (IsCrl form bytes) (certificate_list list) contents at_contents (λ rest all.
    then (IsCrl form bytes) (field 0x30 list) _ (contents, rest) all (λ first at_first h1.
    then (IsCrl form bytes) (field 0x30 first.1) _ (contents, rest) h1 (λ algorithm at_algorithm h2.
    then (IsCrl form bytes) (field 0x03 algorithm.1) _ (contents, rest) h2 (λ signature at_signature h3.
    then (IsCrl form bytes) (ends signature.1) _ (contents, rest) h3 (λ end at_end h4.
    let same : first.0 ≡ contents = whole-is first.0 end.1 (contents, rest) h4 in
    let e1 = field-before 0x03 algorithm.1 signature [] at_signature (ends-step signature.1 end at_end).0 in
    let e2 = field-before 0x30 first.1 algorithm (tagged 0x03 signature.0 ∷ []) at_algorithm e1 in
    let e3 = field-before 0x30 list first (tagged 0x30 algorithm.0 ∷ (tagged 0x03 signature.0 ∷ [])) at_first e2 in
    let P : List ℕ → Type 0 = λ c. AreElements (tagged 0x30 c ∷ (tagged 0x30 algorithm.0 ∷ (tagged 0x03 signature.0 ∷ []))) list in
    record {
      list = list;
      is_list = alone-taken 0x30 bytes list at_list;
      contents = contents;
      algorithm = tagged 0x30 algorithm.0;
      signature = tagged 0x03 signature.0;
      is_algorithm = refl;
      is_signature = refl;
      is_contents = tbs-only form contents at_form;
      elements = subst P same e3;
    })))))

crl-by-contents : (form : CrlForm) (bytes list : List ℕ) (r : Option (List ℕ)) → value_of (alone 0x30 bytes) ≡ Some list → value_of (certificate_list list) ≡ r
    → within tbs r ≡ Some form → IsCrl form bytes
crl-by-contents form bytes list None at_list at h = cc
crl-by-contents form bytes list (Some contents) at_list at h = crl-made form bytes list contents at_list at h

crl-by-list : (form : CrlForm) (bytes : List ℕ) (r : Option (List ℕ)) → value_of (alone 0x30 bytes) ≡ r → within tbs (within certificate_list r) ≡ Some form → IsCrl form bytes
crl-by-list form bytes None at h = cc
crl-by-list form bytes (Some list) at h = crl-by-contents form bytes list (value_of (certificate_list list)) at refl h

-- and what is read is one
pub crl-only : (form : CrlForm) (bytes : List ℕ) → crl_form bytes ≡ Some form → IsCrl form bytes
crl-only form bytes h = crl-by-list form bytes (value_of (alone 0x30 bytes)) refl h

-- bytes are one CRL at most
pub one-reading : (x y : CrlForm) (bytes : List ℕ) → IsCrl x bytes → IsCrl y bytes → x ≡ y
one-reading x y bytes h k =
    let same : Some x ≡ Some y = sym (crl-gives x bytes h) ∙ crl-gives y bytes k in
    cc (same)

comes-to : (bytes : List ℕ) (r : Option CrlForm) (answer : Result CrlFields CrlFault) → crl_form bytes ≡ r → outcome_if r ≡ answer → answer ≢ Err fault.Malformed → ComesTo bytes answer
comes-to bytes None answer at h other = absurd (other (sym h))
comes-to bytes (Some form) answer at h other = (form, crl-only form bytes at, h)

pub taken : (bytes : List ℕ) (result : Result Crl CrlFault) → GivesOutcome crl_of (outcome bytes) result → IfOk result (λ x. ComesTo bytes (Ok (crl_of x)))
taken bytes (Ok x) h = comes-to bytes (crl_form bytes) (Ok (crl_of x)) refl h (λ e. cc)
taken bytes (Err e) h = tt

pub refused : (bytes : List ℕ) (result : Result Crl CrlFault) → GivesOutcome crl_of (outcome bytes) result
    → IfErr result (λ e. e ≢ fault.NoMemory → e ≢ fault.Malformed → ComesTo bytes (Err e))
refused bytes (Ok x) h = tt
refused bytes (Err e) h = λ memory form. comes-to bytes (crl_form bytes) (Err e) refl (h memory) (λ same. form (let m : e ≡ fault.Malformed = cc (same) in m))

-- a CRL isn't malformed
never-malformed : (a b c : Bool) (x : CrlFields) → cond a (Err fault.DeltaCrl) (cond b (Err fault.Indirect) (cond c (Err fault.UnknownCritical) (Ok x))) ≡ Err fault.Malformed → ⊥
never-malformed true b c x h = cc
never-malformed false true c x h = cc
never-malformed false false true x h = cc
never-malformed false false false x h = cc

pub malformed : (bytes : List ℕ) (result : Result Crl CrlFault) → GivesOutcome crl_of (outcome bytes) result → result ≡ Err fault.Malformed → (form : CrlForm) → IsCrl form bytes → ⊥
malformed bytes (Ok x) h same form is = cc (same)
malformed bytes (Err e) h same form is =
    let m : e ≡ fault.Malformed = cc (same) in
    let memory : e ≢ fault.NoMemory = λ k. cc (m, k) in
    let answer : outcome_of form ≡ Err e = sym (ap outcome_if (crl-gives form bytes is)) ∙ h memory in
    never-malformed (is_delta form) (is_indirect form) (has_unknown form) (accepted form) (answer ∙ ap (λ (f : CrlFault). Err f) m)

pub only : (bytes : List ℕ) (result : Result Crl CrlFault) → GivesOutcome crl_of (outcome bytes) result → (form : CrlForm) → IsCrl form bytes → GivesOutcome crl_of (outcome_of form) result
only bytes result h form is =
    let P : Result CrlFields CrlFault → Type 0 = λ answer. GivesOutcome crl_of answer result in
    subst P (ap outcome_if (crl-gives form bytes is)) h
