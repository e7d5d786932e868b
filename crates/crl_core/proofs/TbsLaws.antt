-- What is read as a TBSCertList is one, and what is one is read.
use Rattle.std.proofs.Common.{◌≡◌, ℕ, ℤ, List, [], ◌∷◌, ◌++◌, Bool, true, false, ◌||◌, cond, nat_eq, Option, Some, None, refl, sym, ap, ◌∙◌, subst, append-nil}
use Rattle.std.specs.Prelude.{IfSome}
use Rattle.std.specs.Option.{option_map}
use Rattle.std.specs.Str.{bytes_eq}
use Rattle.std.proofs.lemmas.Slice.Eq.{bytes_eq-Decides}
use Rattle.octets_core.specs.Walk.{ends, value_of}
use Rattle.der_core.specs.Elements.{Der}
use Rattle.der_core.specs.Grammar.{AreElements, one_of}
use Rattle.der_core.specs.Walk.{field, optional, element_where, optional_where, has_tag, is_time_tag, contents_if, alone}
use Rattle.der_core.specs.Times.{utc_time, generalized_time, time_of}
use Rattle.der_core.proofs.WalkLaws.{ends-step, ends-read, alone-read, alone-taken}
use Rattle.der_core.proofs.OrderLaws.{Takes, first_passes, element_if, field-first, element-first, optional-first, optional_where-first, field-before}
use Rattle.der_core.proofs.OrderLaws.{element-before, optional-before, optional_where-passes}
use Rattle.der_core.proofs.EachLaws.{each-read, each-taken, from_map}
use Rattle.crl_core.specs.Extensions.{CrlExt, crl_extension}
use Rattle.crl_core.specs.Form.{Dates, Entry, CrlForm, known_version, time_if, dates, listed, entry, wrapped, crl_extensions, tbs}
use Rattle.crl_core.specs.Grammar.{tagged, HoldsEach, HoldsExtensions, IsTimeIf, IsEntry, IsCrlExtension, IsTbsCertList}
use Rattle.der_core.proofs.Steps.{then, given-then, value-then, whole-is, rest-is}
use Rattle.crl_core.proofs.ExtensionLaws.{crl_extension-reads}
use Rattle.crl_core.proofs.EntryLaws.{listed-tag, listed-read, listed-taken, entry-reads}

-- a time has the tag of one
chosen-tag : (a b : Bool) (u v : Option ℤ) (n : ℤ) → cond a u (cond b v None) ≡ Some n → (a || b) ≡ true
chosen-tag true b u v n h = refl
chosen-tag false true u v n h = refl
chosen-tag false false u v n h = cc

time-tag : (e : Der) (n : ℤ) → time_of e ≡ Some n → is_time_tag e ≡ true
unfolding time_of
time-tag e n h = chosen-tag (nat_eq e.tag 0x17) (nat_eq e.tag 0x18) (value_of (utc_time e.contents)) (value_of (generalized_time e.contents)) n h

next-tag : (moment : Option ℤ) (o : Option Der) → IsTimeIf moment o → IfSome o (λ e. is_time_tag e ≡ true)
next-tag moment None h = tt
next-tag moment (Some e) h = time-tag e h.0 h.1

next-read : (moment : Option ℤ) (o : Option Der) → IsTimeIf moment o → time_if o ≡ Some moment
next-read moment None h = ap (λ (m : Option ℤ). Some m) (sym h)
next-read moment (Some e) h = ap (option_map (λ (n : ℤ). Some n)) h.1 ∙ ap (λ (m : Option ℤ). Some m) (sym h.2)

next-taken : (moment : Option ℤ) (o : Option Der) → time_if o ≡ Some moment → IsTimeIf moment o
next-taken moment None h = let same : None ≡ moment = cc in sym same
next-taken moment (Some e) h = let n = from_map (λ (n : ℤ). Some n) (time_of e) moment h in (n.0, n.1, n.2)

-- the version is v2
version-read : (o : Option Der) → IfSome o (λ e. (e.tag ≡ 0x02) × (e.contents ≡ 0x01 ∷ [])) → known_version (contents_if o) ≡ Some tt
version-read None h = refl
version-read (Some e) h = rw h.1 refl

version-tag : (o : Option Der) → IfSome o (λ e. (e.tag ≡ 0x02) × (e.contents ≡ 0x01 ∷ [])) → IfSome o (λ e. e.tag ≡ 0x02)
version-tag None h = tt
version-tag (Some e) h = h.0

same_bytes : (xs ys : List ℕ) (b : Bool) → bytes_eq xs ys ≡ b → cond b (Some (tt {0})) None ≡ Some (tt {0}) → xs ≡ ys
same_bytes xs ys true t h = (bytes_eq-Decides xs ys).0 t
same_bytes xs ys false t h = cc

version-taken : (o : Option (List ℕ)) → known_version o ≡ Some tt → IfSome (element_if 0x02 o) (λ e. (e.tag ≡ 0x02) × (e.contents ≡ 0x01 ∷ []))
version-taken None h = tt
version-taken (Some contents) h = (refl, same_bytes contents (0x01 ∷ []) (bytes_eq contents (0x01 ∷ [])) refl h)

-- The dates and what stands before them, and then these elements.
record DatesBefore (d : Dates) (es : List Der) (bytes : List ℕ) : Type 0 where
  pub version : Option Der
  pub signature : Der
  pub issuer : Der
  pub this : Der
  pub next : Option Der
  pub is_version : IfSome version (λ e. (e.tag ≡ 0x02) × (e.contents ≡ 0x01 ∷ []))
  pub is_signature : signature.tag ≡ 0x30
  pub is_issuer : issuer.tag ≡ 0x30
  pub is_this : time_of this ≡ Some d.this_update
  pub is_next : IsTimeIf d.next_update next
  pub elements : AreElements (one_of version ++ signature ∷ (issuer ∷ (this ∷ (one_of next ++ es)))) bytes

dates-first : (d : Dates) (es : List Der) (bytes : List ℕ) → DatesBefore d es bytes → first_passes is_time_tag es ≡ false → Takes (dates bytes) d es
unfolding dates
dates-first d es bytes h other =
    let version = optional-first 0x02 h.version (h.signature ∷ (h.issuer ∷ (h.this ∷ (one_of h.next ++ es)))) bytes h.elements
    (version-tag h.version h.is_version) (ap (λ (t : ℕ). nat_eq t 0x02) h.is_signature) in
    let signature = field-first 0x30 h.signature (h.issuer ∷ (h.this ∷ (one_of h.next ++ es))) version.rest version.more h.is_signature in
    let issuer = field-first 0x30 h.issuer (h.this ∷ (one_of h.next ++ es)) signature.rest signature.more h.is_issuer in
    let this = element-first is_time_tag h.this (one_of h.next ++ es) issuer.rest issuer.more (time-tag h.this d.this_update h.is_this) in
    let next = optional_where-first is_time_tag h.next es this.rest this.more (next-tag d.next_update h.next h.is_next) other in
    record {
      rest = next.rest;
      is = rw (version.is, version-read h.version h.is_version, signature.is, issuer.is, this.is, h.is_this, next.is, next-read d.next_update h.next h.is_next) refl;
      more = next.more;
    }

dates-before : (d : Dates) (rest : List ℕ) (es : List Der) (bytes : List ℕ) → dates bytes ≡ Some (d, rest) → AreElements es rest → DatesBefore d es bytes
unfolding dates
dates-before d rest es bytes h more =
    then (DatesBefore d es bytes) (optional 0x02 bytes) _ (d, rest) h (λ version at_version h1.
    given-then (DatesBefore d es bytes) (known_version version.0) version.1 _ (d, rest) h1 (λ known at_known h2.
    then (DatesBefore d es bytes) (field 0x30 version.1) _ (d, rest) h2 (λ signature at_signature h3.
    then (DatesBefore d es bytes) (field 0x30 signature.1) _ (d, rest) h3 (λ issuer at_issuer h4.
    then (DatesBefore d es bytes) (element_where is_time_tag issuer.1) _ (d, rest) h4 (λ this at_this h5.
    given-then (DatesBefore d es bytes) (time_of this.0) this.1 _ (d, rest) h5 (λ this_update at_this_update h6.
    then (DatesBefore d es bytes) (optional_where is_time_tag this.1) _ (d, rest) h6 (λ next at_next h7.
    given-then (DatesBefore d es bytes) (time_if next.0) next.1 _ (d, rest) h7 (λ next_update at_next_update h8.
    let made : Dates = record { this_update = this_update; next_update = next_update } in
    let behind : next.1 ≡ rest = rest-is made next.1 (d, rest) h8 in
    let P : List ℕ → Type 0 = λ bs. AreElements es bs in
    let e1 = (optional_where-passes is_time_tag this.1 next at_next).before es (subst P (sym behind) more) in
    let e2 = element-before is_time_tag issuer.1 this (one_of next.0 ++ es) at_this e1 in
    let e3 = field-before 0x30 signature.1 issuer (this.0 ∷ (one_of next.0 ++ es)) at_issuer e2.1 in
    let e4 = field-before 0x30 version.1 signature (tagged 0x30 issuer.0 ∷ (this.0 ∷ (one_of next.0 ++ es))) at_signature e3 in
    let e5 = optional-before 0x02 bytes version (tagged 0x30 signature.0 ∷ (tagged 0x30 issuer.0 ∷ (this.0 ∷ (one_of next.0 ++ es)))) at_version e4 in
    let Q : Dates → Type 0 = λ y. DatesBefore y es bytes in
    subst Q (whole-is made next.1 (d, rest) h8) (record {
      version = element_if 0x02 version.0;
      signature = tagged 0x30 signature.0;
      issuer = tagged 0x30 issuer.0;
      this = this.0;
      next = next.0;
      is_version = version-taken version.0 at_known;
      is_signature = refl;
      is_issuer = refl;
      is_this = at_this_update;
      is_next = next-taken next_update next.0 at_next_update;
      elements = e5;
    })))))))))

-- the list of the CRL's extensions
last-tag : (xs : List CrlExt) (o : Option Der) → HoldsExtensions xs o → IfSome o (λ e. e.tag ≡ 0xa0)
last-tag xs None h = tt
last-tag xs (Some e) h = h.0

last-read : (xs : List CrlExt) (o : Option Der) → HoldsExtensions xs o → crl_extensions (contents_if o) ≡ Some xs
last-read xs None h = ap (λ (ys : List CrlExt). Some ys) (sym h)
last-read xs (Some e) h =
    let list = h.1 in
    rw (alone-read 0x30 list.0 e.contents list.1) (each-read crl_extension IsCrlExtension crl_extension-reads xs list.0 list.2)

last-taken-in : (xs : List CrlExt) (contents : List ℕ) (r : Option (List ℕ)) → value_of (alone 0x30 contents) ≡ r → wrapped r ≡ Some xs → HoldsExtensions xs (Some (tagged 0xa0 contents))
last-taken-in xs contents None one h = cc
last-taken-in xs contents (Some list) one h = (refl, (list, alone-taken 0x30 contents list one, each-taken crl_extension IsCrlExtension crl_extension-reads xs list h))

last-taken : (xs : List CrlExt) (o : Option (List ℕ)) → crl_extensions o ≡ Some xs → HoldsExtensions xs (element_if 0xa0 o)
last-taken xs None h = let same : [] ≡ xs = cc in sym same
last-taken xs (Some contents) h = last-taken-in xs contents (value_of (alone 0x30 contents)) refl h

-- no element of the CRL's extensions, and none of the entries, is taken for another
last-other : (xs : List CrlExt) (o : Option Der) → HoldsExtensions xs o → first_passes (has_tag 0x30) (one_of o ++ []) ≡ false
last-other xs None h = refl
last-other xs (Some e) h = ap (λ (t : ℕ). nat_eq t 0x30) h.0

no-time : (e : Der) (t : ℕ) → e.tag ≡ t → (nat_eq t 0x17 || nat_eq t 0x18) ≡ false → is_time_tag e ≡ false
no-time e t h other = ap (λ (t : ℕ). nat_eq t 0x17 || nat_eq t 0x18) h ∙ other

lists-other : {A : Type 0} (R : A → Der → Type 0) (xs : List A) (revoked : Option Der) (ys : List CrlExt) (last : Option Der) → HoldsEach R xs revoked → HoldsExtensions ys last
    → first_passes is_time_tag (one_of revoked ++ (one_of last ++ [])) ≡ false
lists-other R xs (Some e) ys last h k = no-time e 0x30 h.0 refl
lists-other R xs None ys None h k = refl
lists-other R xs None ys (Some e) h k = no-time e 0xa0 k.0 refl

pub tbs-gives : (form : CrlForm) (contents : List ℕ) → IsTbsCertList form contents → (rest : List ℕ) × (tbs contents ≡ Some (form, rest))
unfolding tbs
tbs-gives form contents h =
    let d : Dates = record { this_update = form.this_update; next_update = form.next_update } in
    let P : List Der → Type 0 = λ last. AreElements (one_of h.version ++ h.signature ∷ (h.issuer ∷ (h.this ∷ (one_of h.next ++ (one_of h.revoked ++ last))))) contents in
    let before : DatesBefore d (one_of h.revoked ++ (one_of h.last ++ [])) contents = record {
      version = h.version;
      signature = h.signature;
      issuer = h.issuer;
      this = h.this;
      next = h.next;
      is_version = h.is_version;
      is_signature = h.is_signature;
      is_issuer = h.is_issuer;
      is_this = h.is_this;
      is_next = h.is_next;
      elements = subst P (sym (append-nil (one_of h.last))) h.elements;
    } in
    let dated = dates-first d (one_of h.revoked ++ (one_of h.last ++ [])) contents before (lists-other IsEntry form.entries h.revoked form.extensions h.last h.is_revoked h.is_last) in
    let revoked = optional-first 0x30 h.revoked (one_of h.last ++ []) dated.rest dated.more (listed-tag IsEntry form.entries h.revoked h.is_revoked) (last-other form.extensions h.last h.is_last) in
    let last = optional-first 0xa0 h.last [] revoked.rest revoked.more (last-tag form.extensions h.last h.is_last) refl in
    ([], rw (dated.is, revoked.is, listed-read entry IsEntry entry-reads form.entries h.revoked h.is_revoked, last.is, last-read form.extensions h.last h.is_last, last.more, ends-read) refl)

tbs-made : (form : CrlForm) (d : Dates) (revoked last : Option (List ℕ)) (entries : List Entry) (extensions : List CrlExt) (contents : List ℕ)
    → record { this_update = d.this_update; next_update = d.next_update; entries = entries; extensions = extensions } ≡ form
    → DatesBefore d (one_of (element_if 0x30 revoked) ++ one_of (element_if 0xa0 last)) contents
    → HoldsEach IsEntry entries (element_if 0x30 revoked) → HoldsExtensions extensions (element_if 0xa0 last) → IsTbsCertList form contents
tbs-made form d revoked last entries extensions contents same h is_revoked is_last =
    let P : CrlForm → Type 0 = λ y. IsTbsCertList y contents in
    subst P same (record {
      version = h.version;
      signature = h.signature;
      issuer = h.issuer;
      this = h.this;
      next = h.next;
      revoked = element_if 0x30 revoked;
      last = element_if 0xa0 last;
      is_version = h.is_version;
      is_signature = h.is_signature;
      is_issuer = h.is_issuer;
      is_this = h.is_this;
      is_next = h.is_next;
      is_revoked = is_revoked;
      is_last = is_last;
      elements = h.elements;
    })

pub tbs-only : (form : CrlForm) (contents : List ℕ) → value_of (tbs contents) ≡ Some form → IsTbsCertList form contents
unfolding tbs
tbs-only form contents h =
    value-then (IsTbsCertList form contents) (tbs contents) form h (λ rest all.
    then (IsTbsCertList form contents) (dates contents) _ (form, rest) all (λ d at_d h1.
    then (IsTbsCertList form contents) (optional 0x30 d.1) _ (form, rest) h1 (λ revoked at_revoked h2.
    given-then (IsTbsCertList form contents) (listed entry revoked.0) revoked.1 _ (form, rest) h2 (λ entries at_entries h3.
    then (IsTbsCertList form contents) (optional 0xa0 revoked.1) _ (form, rest) h3 (λ last at_last h4.
    given-then (IsTbsCertList form contents) (crl_extensions last.0) last.1 _ (form, rest) h4 (λ extensions at_extensions h5.
    then (IsTbsCertList form contents) (ends last.1) _ (form, rest) h5 (λ end at_end h6.
    let made : CrlForm = record { this_update = d.0.this_update; next_update = d.0.next_update; entries = entries; extensions = extensions } in
    let e1 : AreElements (one_of (element_if 0xa0 last.0) ++ []) revoked.1 = optional-before 0xa0 revoked.1 last [] at_last (ends-step last.1 end at_end).0 in
    let P : List Der → Type 0 = λ es. AreElements es revoked.1 in
    let e2 = optional-before 0x30 d.1 revoked (one_of (element_if 0xa0 last.0)) at_revoked (subst P (append-nil (one_of (element_if 0xa0 last.0))) e1) in
    tbs-made form d.0 revoked.0 last.0 entries extensions contents (whole-is made end.1 (form, rest) h6)
    (dates-before d.0 d.1 (one_of (element_if 0x30 revoked.0) ++ one_of (element_if 0xa0 last.0)) contents at_d e2)
    (listed-taken entry IsEntry entry-reads entries revoked.0 at_entries) (last-taken extensions last.0 at_extensions))))))))
