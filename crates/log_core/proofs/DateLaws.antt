-- What is read of a validity is what stands in the bytes.
use Rattle.std.specs.Prelude.{IfSome}
use Rattle.std.specs.Int.{w64}
use Rattle.std.specs.Int.RustNames.{FitsSigned}
use Rattle.std.proofs.Common.{◌≡◌, ℕ, ℤ, List, [], ◌∷◌, ◌++◌, Option, None, Some, refl, ap}
use Rattle.octets_core.specs.Walk.{value_of, ends}
use Rattle.der_core.specs.Elements.{Der}
use Rattle.der_core.specs.Grammar.{IsElement, AreElements}
use Rattle.der_core.specs.TimeGrammar.{IsTime}
use Rattle.der_core.specs.Times.{time_of}
use Rattle.der_core.specs.Walk.{any, field, element_where}
use Rattle.der_core.proofs.TimeGrammarLaws.{time-read, time-taken, time-fits}
use Rattle.der_core.proofs.WalkLaws.{step, given-step, ends-step, ends-read, value-step, alone-taken, field-read, field-taken, element_where-read, element_where-taken}
use Rattle.log_core.specs.Certificates.{serial, signature_and_issuer, second_time, expiry, not_after, tbs_contents, certificate_contents, tbs_until, certificate_until}
use Rattle.log_core.specs.CertificateGrammar.{BeginsWithSerial, EndsAt, TbsEndsAt, CertificateEndsAt}
use Rattle.log_core.specs.EntryGrammar.{IsDated}
use Rattle.log_core.proofs.CertificateLaws.{serial-read, serial-taken, any-read, grow, two-taken, within-read, within-taken, tbs-read, has_tbs-read, has_tbs-taken}

second-read : (until : ℤ) (a b : Der) (bytes : List ℕ) → AreElements (a ∷ b ∷ []) bytes → IsTime until b → value_of (second_time bytes) ≡ Some until
unfolding second_time
second-read until a b bytes h is =
    let two = h.4 in
    let first = element_where-read any a h.0 bytes h.1 refl h.2 h.3 in
    let second = element_where-read any b two.0 h.1 two.1 refl two.2 two.3 in
    rw (first, second, two.4, ends-read, time-read until b is) refl

-- Two elements fill the bytes, and the second is this time.
record TakesSecond (until : ℤ) (bytes : List ℕ) : Type 0 where
  first : Der
  second : Der
  are : AreElements (first ∷ second ∷ []) bytes
  is_time : IsTime until second

second-taken : (until : ℤ) (bytes : List ℕ) → value_of (second_time bytes) ≡ Some until → TakesSecond until bytes
unfolding second_time
second-taken until bytes h =
    let all = value-step (second_time bytes) until h in
    let x : ℤ × List ℕ = (until, all.0) in
    let first = step (element_where any bytes) _ x all.1 in
    let second = step (element_where any first.0.1) _ x first.2 in
    let end = step (ends second.0.1) _ x second.2 in
    let g = given-step (time_of second.0.0) end.0.1 x end.2 in
    let a = element_where-taken any bytes first.0 first.1 in
    let b = element_where-taken any first.0.1 second.0 second.1 in
    let none = ends-step second.0.1 end.0 end.1 in
    record {
      first = first.0.0;
      second = second.0.0;
      are = (a.front, first.0.1, a.is, a.same, (b.front, second.0.1, b.is, b.same, none.0));
      is_time = time-taken second.0.0 until g.0;
    }

expiry-read : (until : ℤ) (bytes : List ℕ) → (h : EndsAt until bytes) → expiry bytes ≡ Some (until, h.rest)
unfolding expiry signature_and_issuer
expiry-read until bytes h =
    let one = h.are in
    let two = one.4 in
    let signature = any-read h.signature (h.issuer ∷ []) h.two h.behind one in
    let issuer = any-read h.issuer [] one.1 h.behind two in
    let end : two.1 ++ h.behind ≡ h.behind = ap (λ (bs : List ℕ). bs ++ h.behind) two.4 in
    rw (h.same, signature, issuer, end, field-read 0x30 h.validity h.behind h.rest h.is_validity, second-read until h.not_before h.not_after h.validity h.are_both h.is_time) refl

two-are : (a b : Der) (one two : List ℕ) → IsElement a one → IsElement b two → AreElements (a ∷ b ∷ []) (one ++ (two ++ []))
two-are a b one two h i = (one, two ++ [], h, refl, (two, [], i, refl, refl))

expiry-taken : (bytes : List ℕ) (x : ℤ × List ℕ) → expiry bytes ≡ Some x → EndsAt x.0 bytes
unfolding expiry
expiry-taken bytes x h =
    let passed = step (signature_and_issuer bytes) _ x h in
    let validity = step (field 0x30 passed.0.1) _ x passed.2 in
    let g = given-step (value_of (second_time validity.0.0)) validity.0.1 x validity.2 in
    let t = two-taken bytes passed.0 passed.1 in
    let s = second-taken x.0 validity.0.0 g.0 in
    record {
      signature = t.first;
      issuer = t.second;
      two = t.one ++ (t.two ++ []);
      are = two-are t.first t.second t.one t.two t.is_first t.is_second;
      behind = passed.0.1;
      validity = validity.0.0;
      rest = validity.0.1;
      is_validity = field-taken 0x30 passed.0.1 validity.0 validity.1;
      not_before = s.first;
      not_after = s.second;
      are_both = s.are;
      is_time = s.is_time;
      same = grow bytes t.one (t.two ++ passed.0.1) (t.two ++ []) passed.0.1 t.same (grow (t.two ++ passed.0.1) t.two passed.0.1 [] passed.0.1 refl refl);
    }

not_after-read : (until : ℤ) (octets contents behind : List ℕ) → BeginsWithSerial octets contents behind → (h : EndsAt until behind) → not_after contents ≡ Some (until, h.rest)
unfolding not_after
not_after-read until octets contents behind begins h = rw (serial-read octets contents behind begins) (expiry-read until behind h)

-- The serial, and behind it a validity that ends at this time.
record TakesEnd (until : ℤ) (contents : List ℕ) : Type 0 where
  serial : List ℕ
  behind : List ℕ
  begins : BeginsWithSerial serial contents behind
  ends : EndsAt until behind

not_after-taken : (contents : List ℕ) (x : ℤ × List ℕ) → not_after contents ≡ Some x → TakesEnd x.0 contents
unfolding not_after
not_after-taken contents x h =
    let number = step (serial contents) _ x h in
    record {
      serial = number.0.0;
      behind = number.0.1;
      begins = serial-taken contents number.0 number.1;
      ends = expiry-taken number.0.1 x number.2;
    }

pub tbs_until-read : (until : ℤ) (bytes : List ℕ) → TbsEndsAt until bytes → tbs_until bytes ≡ Some until
tbs_until-read until bytes h =
    within-read not_after (tbs_contents bytes) h.contents until h.ends.rest (tbs-read h.contents bytes h.is) (not_after-read until h.serial h.contents h.behind h.begins h.ends)

pub tbs_until-taken : (until : ℤ) (bytes : List ℕ) → tbs_until bytes ≡ Some until → TbsEndsAt until bytes
tbs_until-taken until bytes h =
    let w = within-taken not_after (tbs_contents bytes) until h in
    let t = not_after-taken w.contents (until, w.rest) w.walked in
    record {
      contents = w.contents;
      serial = t.serial;
      behind = t.behind;
      is = alone-taken 0x30 bytes w.contents w.some;
      begins = t.begins;
      ends = t.ends;
    }

pub certificate_until-read : (until : ℤ) (bytes : List ℕ) → CertificateEndsAt until bytes → certificate_until bytes ≡ Some until
certificate_until-read until bytes h =
    within-read not_after (certificate_contents bytes) h.tbs until h.ends.rest (has_tbs-read h.tbs bytes h.is) (not_after-read until h.serial h.tbs h.behind h.begins h.ends)

pub certificate_until-taken : (until : ℤ) (bytes : List ℕ) → certificate_until bytes ≡ Some until → CertificateEndsAt until bytes
certificate_until-taken until bytes h =
    let w = within-taken not_after (certificate_contents bytes) until h in
    let t = not_after-taken w.contents (until, w.rest) w.walked in
    record {
      tbs = w.contents;
      serial = t.serial;
      behind = t.behind;
      is = has_tbs-taken w.contents bytes w.some;
      begins = t.begins;
      ends = t.ends;
    }

-- a date fits 64 bits
pub dated-fits : (by : Option (List ℕ)) (signed : List ℕ) (date : Option ℤ) → IsDated by signed date → IfSome date (FitsSigned w64)
dated-fits by signed None h = tt
dated-fits None signed (Some until) h = time-fits until h.ends.not_after h.ends.is_time
dated-fits (Some issuer) signed (Some until) h = time-fits until h.ends.not_after h.ends.is_time
