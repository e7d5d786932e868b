-- What a CRL comes to fits its fields.
use Rattle.std.proofs.Common.{◌≡◌, ◌≢◌, ℕ, ◌≤◌, List, [], ◌∷◌, length, Bool, true, false, cond, nat_le, Option, Some, None, Result, Ok, Err, ℤ, FitsSigned, w64, IfOk, refl, sym, subst, arith}
use Rattle.std.specs.Prelude.{All, IfSome}
use Rattle.std.proofs.lemmas.Bool.Decides.{nat_tests}
use Rattle.std.proofs.lemmas.List.Elements.{All-nil, All-cons, All-append}
use Rattle.ident_core.specs.declared.bounds.TheConstants.{MAX_SERIAL}
use Rattle.der_core.specs.Elements.{Der}
use Rattle.der_core.specs.Grammar.{EachIs}
use Rattle.der_core.specs.Times.{time_of}
use Rattle.der_core.proofs.TimeGrammarLaws.{time-taken, time-fits}
use Rattle.crl_core.specs.declared.crl.Crl.{Crl}
use Rattle.crl_core.specs.declared.crl.CrlFault.{CrlFault}
use Rattle.crl_core.specs.declared.crl.CrlFault.TheVariants as fault
use Rattle.crl_core.specs.Form.{Entry, CrlForm}
use Rattle.crl_core.specs.Grammar.{HoldsEach, IsTimeIf, IsEntry, IsCrl}
use Rattle.crl_core.specs.Outcome.{kept_octets, kept_serials, CrlFields, CrlFieldsFit, is_delta, is_indirect, has_unknown, accepted, ComesTo, crl_of}

-- a serial of 1 to 32 octets
IsShort : List ℕ → Type 0
IsShort s = (1 ≤ length s) × (length s ≤ MAX_SERIAL)

some-octet : (s : List ℕ) → s ≢ [] → 1 ≤ length s
some-octet [] h = absurd (h refl)
some-octet (b ∷ s) h = omega arith

kept-by : (s : List ℕ) (b : Bool) → nat_le (length s) 32 ≡ b → s ≢ [] → All IsShort (cond b (s ∷ []) [])
unfolding IsShort
kept-by s true t some = All-cons IsShort s [] (some-octet s some, grind (arith, nat_tests)) (All-nil IsShort)
kept-by s false t some = All-nil IsShort

entries-short : (xs : List Entry) (es : List Der) → EachIs IsEntry xs es → All IsShort (kept_serials xs)
entries-short [] es h = All-nil IsShort
entries-short (x ∷ xs) [] h = absurd h
entries-short (x ∷ xs) (e ∷ es) h =
    All-append IsShort (kept_octets x.serial) (kept_serials xs) (kept-by x.serial (nat_le (length x.serial) 32) refl h.0.some) (entries-short xs es h.1)

listed-short : (xs : List Entry) (o : Option Der) → HoldsEach IsEntry xs o → All IsShort (kept_serials xs)
listed-short xs None h = subst (λ (l : List Entry). All IsShort (kept_serials l)) (sym h) (All-nil IsShort)
listed-short xs (Some e) h = entries-short xs h.1.each h.1.are

date-fits : (e : Der) (t : ℤ) → time_of e ≡ Some t → FitsSigned w64 t
date-fits e t h = time-fits t e (time-taken e t h)

next-fits : (moment : Option ℤ) (o : Option Der) → IsTimeIf moment o → IfSome moment (λ t. FitsSigned w64 t)
next-fits moment None h = subst (λ (m : Option ℤ). IfSome m (λ t. FitsSigned w64 t)) (sym h) tt
next-fits moment (Some e) h = subst (λ (m : Option ℤ). IfSome m (λ t. FitsSigned w64 t)) (sym h.2) (date-fits e h.0 h.1)

form-fits : (form : CrlForm) (bytes : List ℕ) → IsCrl form bytes → CrlFieldsFit (accepted form)
unfolding IsShort
form-fits form bytes h = record {
  this_update = date-fits h.is_contents.this form.this_update h.is_contents.is_this;
  next_update = next-fits form.next_update h.is_contents.next h.is_contents.is_next;
  serials = listed-short form.entries h.is_contents.revoked h.is_contents.is_revoked;
}

accepted-is : (a b c : Bool) (x y : CrlFields) → cond a (Err fault.DeltaCrl) (cond b (Err fault.Indirect) (cond c (Err fault.UnknownCritical) (Ok x))) ≡ Ok y → x ≡ y
accepted-is true b c x y h = cc
accepted-is false true c x y h = cc
accepted-is false false true x y h = cc
accepted-is false false false x y h = cc

pub comes-fits : (bytes : List ℕ) (x : CrlFields) → ComesTo bytes (Ok x) → CrlFieldsFit x
comes-fits bytes x h =
    let same : accepted h.0 ≡ x = accepted-is (is_delta h.0) (is_indirect h.0) (has_unknown h.0) (accepted h.0) x h.2 in
    subst CrlFieldsFit same (form-fits h.0 bytes h.1)

pub fits-of : (bytes : List ℕ) (r : Result Crl CrlFault) → IfOk r (λ x. ComesTo bytes (Ok (crl_of x))) → IfOk r (λ x. CrlFieldsFit (crl_of x))
fits-of bytes (Ok x) h = comes-fits bytes (crl_of x) h
fits-of bytes (Err e) h = tt
