-- What is read of certificates is what stands in the bytes.
use Rattle.std.proofs.Common.{◌≡◌, ℕ, ◌≤◌, List, [], ◌∷◌, ◌++◌, length, Bool, true, false, cond, ◌&&◌, nat_le, Option, Some, None, refl, sym, ap, ◌∙◌, subst, arith}
use Rattle.std.proofs.lemmas.Bool.Decides.{nat_tests}
use Rattle.std.proofs.lemmas.List.{append_assoc}
use Rattle.octets_core.specs.Walk.{Walk, value_of, within}
use Rattle.der_core.specs.Elements.{Der}
use Rattle.der_core.specs.Grammar.{IsElement, AreElements, StandsBefore, StandsOrNot}
use Rattle.der_core.specs.Walk.{any, field, optional, element_where}
use Rattle.der_core.proofs.WalkLaws.{step, given-step, value-step, alone-read, alone-taken, field-read, field-taken, optional-read, optional-other}
use Rattle.der_core.proofs.WalkLaws.{optional-taken, element_where-read, element_where-taken, whole_field-read, whole_field-taken}
use Rattle.log_core.specs.Certificates.{if_short, serial, signature_and_issuer, public_key, tbs_contents, certificate_contents}
use Rattle.log_core.specs.Certificates.{tbs_serial, certificate_serial, certificate_key, left_by, left_within, certificate_tail}
use Rattle.log_core.specs.CertificateGrammar.{BeginsWithSerial, IsTbs, HasTbs, IsCertificate, StandsBehindFour, HasKey, HasTail}
use Rattle.log_core.proofs.VectorLaws.{join}

le_true : (a b : ℕ) → a ≤ b → nat_le a b ≡ true
le_true a b h = grind (arith, nat_tests)

short-read : (octets : List ℕ) → 1 ≤ length octets → length octets ≤ 32 → if_short octets ≡ Some octets
short-read octets some few = rw (le_true 1 (length octets) some, le_true (length octets) 32 few) refl

true_le : (a b : ℕ) → nat_le a b ≡ true → a ≤ b
true_le a b h = grind (arith, nat_tests)

pub record Short (octets x : List ℕ) : Type 0 where
  pub same : octets ≡ x
  pub some : 1 ≤ length x
  pub few : length x ≤ 32

short-by : (octets x : List ℕ) (a b : Bool) → nat_le 1 (length octets) ≡ a → nat_le (length octets) 32 ≡ b → cond (a && b) (Some octets) None ≡ Some x → Short octets x
short-by octets x true true some few h =
    let same : octets ≡ x = cc in
    let P : List ℕ → Type 0 = λ y. Short octets y in
    subst P same (record { same = refl; some = true_le 1 (length octets) some; few = true_le (length octets) 32 few })
short-by octets x true false some few h = cc
short-by octets x false b some few h = cc

short-taken : (octets x : List ℕ) → if_short octets ≡ Some x → Short octets x
short-taken octets x h = short-by octets x (nat_le 1 (length octets)) (nat_le (length octets) 32) refl refl h

version-read : (version : Option (List ℕ)) (contents behind octets rest : List ℕ) → StandsOrNot 0xa0 version contents behind
    → StandsBefore 0x02 octets behind rest → optional 0xa0 contents ≡ Some (version, behind)
version-read (Some v) contents behind octets rest h s = optional-read 0xa0 v contents behind h
version-read None contents behind octets rest h s =
    let P : List ℕ → Type 0 = λ bs. optional 0xa0 bs ≡ Some (None, behind) in
    subst P h (optional-other 0xa0 0x02 octets behind rest refl s)

pub serial-read : (octets contents rest : List ℕ) → BeginsWithSerial octets contents rest → serial contents ≡ Some (octets, rest)
unfolding serial
serial-read octets contents rest h =
    rw (version-read h.version contents h.behind octets rest h.is_version h.is_serial, field-read 0x02 octets h.behind rest h.is_serial, short-read octets h.some h.few) refl

pub serial-taken : (contents : List ℕ) (x : List ℕ × List ℕ) → serial contents ≡ Some x → BeginsWithSerial x.0 contents x.1
unfolding serial
serial-taken contents x h =
    let version = step (optional 0xa0 contents) _ x h in
    let octets = step (field 0x02 version.0.1) _ x version.2 in
    let g = given-step (if_short octets.0.0) octets.0.1 x octets.2 in
    let s = short-taken octets.0.0 x.0 g.0 in
    let P : List ℕ → Type 0 = λ o. StandsBefore 0x02 o version.0.1 octets.0.1 in
    let Q : List ℕ → Type 0 = λ r. StandsBefore 0x02 x.0 version.0.1 r in
    record {
      version = version.0.0;
      behind = version.0.1;
      is_version = optional-taken 0xa0 contents version.0 version.1;
      is_serial = subst Q g.1 (subst P s.same (field-taken 0x02 version.0.1 octets.0 octets.1));
      some = s.some;
      few = s.few;
    }

-- the first of some elements is passed, whatever follows them
pub any-read : (e : Der) (es : List Der) (bytes tail : List ℕ) (h : AreElements (e ∷ es) bytes) → element_where any (bytes ++ tail) ≡ Some (e, h.1 ++ tail)
any-read e es bytes tail h =
    element_where-read any e h.0 (bytes ++ tail) (h.1 ++ tail) refl h.2 (ap (λ (bs : List ℕ). bs ++ tail) h.3 ∙ append_assoc h.0 h.1 tail)

pub key-read : (key octets contents behind : List ℕ) → BeginsWithSerial octets contents behind → (h : StandsBehindFour key behind) → public_key contents ≡ Some (key, h.rest)
unfolding public_key signature_and_issuer
key-read key octets contents behind begins h =
    let tail : List ℕ = key ++ h.rest in
    let one = h.are in
    let two = one.4 in
    let three = two.4 in
    let four = three.4 in
    let P : List ℕ → Type 0 = λ bs. element_where any bs ≡ Some (h.signature, one.1 ++ tail) in
    let signature = subst P (sym h.same) (any-read h.signature (h.issuer ∷ h.validity ∷ h.subject ∷ []) h.four tail one) in
    let issuer = any-read h.issuer (h.validity ∷ h.subject ∷ []) one.1 tail two in
    let validity = any-read h.validity (h.subject ∷ []) two.1 tail three in
    let subject = any-read h.subject [] three.1 tail four in
    let end : four.1 ++ tail ≡ key ++ h.rest = ap (λ (bs : List ℕ). bs ++ tail) four.4 in
    rw (serial-read octets contents behind begins, signature, issuer, validity, subject) (whole_field-read 0x30 h.contents key (four.1 ++ tail) h.rest h.is_key end)

pub grow : (bytes front rest middle tail : List ℕ) → bytes ≡ front ++ rest → rest ≡ middle ++ tail → bytes ≡ (front ++ middle) ++ tail
grow bytes front rest middle tail h k = join bytes front rest (middle ++ tail) h k ∙ sym (append_assoc front middle tail)

four-are : (a b c d : Der) (one two three four : List ℕ) → IsElement a one → IsElement b two → IsElement c three → IsElement d four
    → AreElements (a ∷ b ∷ c ∷ d ∷ []) (one ++ (two ++ (three ++ (four ++ []))))
four-are a b c d one two three four h i j k = (one, two ++ (three ++ (four ++ [])), h, refl, (two, three ++ (four ++ []), i, refl, (three, four ++ [], j, refl, (four, [], k, refl, refl))))

-- Two elements stand before the rest.
pub record TakesTwo (bytes rest : List ℕ) : Type 0 where
  pub first : Der
  pub second : Der
  pub one : List ℕ
  pub two : List ℕ
  pub is_first : IsElement first one
  pub is_second : IsElement second two
  pub same : bytes ≡ one ++ (two ++ rest)

pub two-taken : (bytes : List ℕ) (x : Unit {0} × List ℕ) → signature_and_issuer bytes ≡ Some x → TakesTwo bytes x.1
unfolding signature_and_issuer
two-taken bytes x h =
    let signature = step (element_where any bytes) _ x h in
    let issuer = step (element_where any signature.0.1) _ x signature.2 in
    let gone : issuer.0.1 ≡ x.1 = cc (issuer.2) in
    let a = element_where-taken any bytes signature.0 signature.1 in
    let b = element_where-taken any signature.0.1 issuer.0 issuer.1 in
    record {
      first = signature.0.0;
      second = issuer.0.0;
      one = a.front;
      two = b.front;
      is_first = a.is;
      is_second = b.is;
      same = join bytes a.front signature.0.1 (b.front ++ x.1) a.same (join signature.0.1 b.front issuer.0.1 x.1 b.same gone);
    }

-- The serial and what stands behind it, of a walk that gave a key and left the rest.
pub record TakesKey (key contents rest : List ℕ) : Type 0 where
  pub serial : List ℕ
  pub behind : List ℕ
  pub begins : BeginsWithSerial serial contents behind
  pub stands : StandsBehindFour key behind
  pub same : stands.rest ≡ rest

pub key-taken : (contents : List ℕ) (x : List ℕ × List ℕ) → public_key contents ≡ Some x → TakesKey x.0 contents x.1
unfolding public_key
key-taken contents x h =
    let number = step (serial contents) _ x h in
    let passed = step (signature_and_issuer number.0.1) _ x number.2 in
    let validity = step (element_where any passed.0.1) _ x passed.2 in
    let subject = step (element_where any validity.0.1) _ x validity.2 in
    let t = two-taken number.0.1 passed.0 passed.1 in
    let c = element_where-taken any passed.0.1 validity.0 validity.1 in
    let d = element_where-taken any validity.0.1 subject.0 subject.1 in
    let k = whole_field-taken 0x30 subject.0.1 x subject.2 in
    let tail : List ℕ = x.0 ++ x.1 in
    let fourth = grow validity.0.1 d.front subject.0.1 [] tail d.same k.same in
    let third = grow passed.0.1 c.front validity.0.1 (d.front ++ []) tail c.same fourth in
    let second = grow (t.two ++ passed.0.1) t.two passed.0.1 (c.front ++ (d.front ++ [])) tail refl third in
    let first = grow number.0.1 t.one (t.two ++ passed.0.1) (t.two ++ (c.front ++ (d.front ++ []))) tail t.same second in
    record {
      serial = number.0.0;
      behind = number.0.1;
      begins = serial-taken contents number.0 number.1;
      stands = record {
        signature = t.first;
        issuer = t.second;
        validity = validity.0.0;
        subject = subject.0.0;
        four = t.one ++ (t.two ++ (c.front ++ (d.front ++ [])));
        are = four-are t.first t.second validity.0.0 subject.0.0 t.one t.two c.front d.front t.is_first t.is_second c.is d.is;
        contents = k.contents;
        is_key = k.is;
        rest = x.1;
        same = first;
      };
      same = refl;
    }

pub within-read : {A : Type 0} (walk : Walk A) (r : Option (List ℕ)) (contents : List ℕ) (x : A) (rest : List ℕ) → r ≡ Some contents → walk contents ≡ Some (x, rest) → within walk r ≡ Some x
within-read walk r contents x rest h k = rw (h, k) refl

-- The contents that a walk within some contents was in, and what it left.
pub record Within {A : Type 0} (walk : Walk A) (r : Option (List ℕ)) (x : A) : Type 0 where
  pub contents : List ℕ
  pub rest : List ℕ
  pub some : r ≡ Some contents
  pub walked : walk contents ≡ Some (x, rest)

pub within-taken : {A : Type 0} (walk : Walk A) (r : Option (List ℕ)) (x : A) → within walk r ≡ Some x → Within walk r x
within-taken walk None x h = cc
within-taken walk (Some contents) x h =
    let w = value-step (walk contents) x h in
    record { contents = contents; rest = w.0; some = refl; walked = w.1 }

pub tbs-read : (contents bytes : List ℕ) → IsElement (record { tag = 0x30; contents = contents }) bytes → tbs_contents bytes ≡ Some contents
tbs-read contents bytes h = ap value_of (alone-read 0x30 contents bytes h)

pub tbs_serial-read : (octets bytes : List ℕ) → IsTbs octets bytes → tbs_serial bytes ≡ Some octets
tbs_serial-read octets bytes h = within-read serial (tbs_contents bytes) h.contents octets h.rest (tbs-read h.contents bytes h.is) (serial-read octets h.contents h.rest h.begins)

pub tbs_serial-taken : (octets bytes : List ℕ) → tbs_serial bytes ≡ Some octets → IsTbs octets bytes
tbs_serial-taken octets bytes h =
    let w = within-taken serial (tbs_contents bytes) octets h in
    record {
      contents = w.contents;
      rest = w.rest;
      is = alone-taken 0x30 bytes w.contents w.some;
      begins = serial-taken w.contents (octets, w.rest) w.walked;
    }

pub has_tbs-read : (tbs bytes : List ℕ) → HasTbs tbs bytes → certificate_contents bytes ≡ Some tbs
has_tbs-read tbs bytes h = within-read (field 0x30) (tbs_contents bytes) h.contents tbs h.rest (tbs-read h.contents bytes h.is) (field-read 0x30 tbs h.contents h.rest h.first)

pub has_tbs-taken : (tbs bytes : List ℕ) → certificate_contents bytes ≡ Some tbs → HasTbs tbs bytes
has_tbs-taken tbs bytes h =
    let w = within-taken (field 0x30) (tbs_contents bytes) tbs h in
    record {
      contents = w.contents;
      rest = w.rest;
      is = alone-taken 0x30 bytes w.contents w.some;
      first = field-taken 0x30 w.contents (tbs, w.rest) w.walked;
    }

pub certificate_serial-read : (octets bytes : List ℕ) → IsCertificate octets bytes → certificate_serial bytes ≡ Some octets
certificate_serial-read octets bytes h = within-read serial (certificate_contents bytes) h.tbs octets h.rest (has_tbs-read h.tbs bytes h.is) (serial-read octets h.tbs h.rest h.begins)

pub certificate_serial-taken : (octets bytes : List ℕ) → certificate_serial bytes ≡ Some octets → IsCertificate octets bytes
certificate_serial-taken octets bytes h =
    let w = within-taken serial (certificate_contents bytes) octets h in
    record {
      tbs = w.contents;
      rest = w.rest;
      is = has_tbs-taken w.contents bytes w.some;
      begins = serial-taken w.contents (octets, w.rest) w.walked;
    }

pub certificate_key-read : (key bytes : List ℕ) → HasKey key bytes → certificate_key bytes ≡ Some key
certificate_key-read key bytes h = within-read public_key (certificate_contents bytes) h.tbs key h.stands.rest (has_tbs-read h.tbs bytes h.is) (key-read key h.serial h.tbs h.behind h.begins h.stands)

pub certificate_key-taken : (key bytes : List ℕ) → certificate_key bytes ≡ Some key → HasKey key bytes
certificate_key-taken key bytes h =
    let w = within-taken public_key (certificate_contents bytes) key h in
    let k = key-taken w.contents (key, w.rest) w.walked in
    record {
      tbs = w.contents;
      serial = k.serial;
      behind = k.behind;
      is = has_tbs-taken w.contents bytes w.some;
      begins = k.begins;
      stands = k.stands;
    }

pub certificate_tail-read : (tail bytes : List ℕ) → HasTail tail bytes → certificate_tail bytes ≡ Some tail
certificate_tail-read tail bytes h =
    let k : HasKey h.key bytes = h.has in
    rw (has_tbs-read k.tbs bytes k.is, key-read h.key k.serial k.tbs k.behind k.begins k.stands) (ap (λ (r : List ℕ). Some r) h.same)

left-taken : {A : Type 0} (r : Option (A × List ℕ)) (rest : List ℕ) → left_by r ≡ Some rest → (x : A) × (r ≡ Some (x, rest))
left-taken None rest h = cc
left-taken {A} (Some y) rest h = let same : y.1 ≡ rest = cc in (y.0, ap (λ (r : List ℕ). Some (y.0, r)) same)

tail-taken : (tail bytes : List ℕ) (r : Option (List ℕ)) → certificate_contents bytes ≡ r → left_within public_key r ≡ Some tail → HasTail tail bytes
tail-taken tail bytes None e h = cc
tail-taken tail bytes (Some tbs) e h =
    let left = left-taken (public_key tbs) tail h in
    let k = key-taken tbs (left.0, tail) left.1 in
    record {
      key = left.0;
      has = record { tbs = tbs; serial = k.serial; behind = k.behind; is = has_tbs-taken tbs bytes e; begins = k.begins; stands = k.stands };
      same = k.same;
    }

pub certificate_tail-taken : (tail bytes : List ℕ) → certificate_tail bytes ≡ Some tail → HasTail tail bytes
certificate_tail-taken tail bytes h = tail-taken tail bytes (certificate_contents bytes) refl h
