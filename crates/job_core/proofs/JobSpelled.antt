-- A job: what is read is the text of what its records hold, and the value is their meaning.
use Rattle.std.proofs.Common.{◌≡◌, ℕ, zero, suc, ◌-◌, ◌≤◌, ◌<◌, ◌^◌, Bool, true, false, List, [], ◌∷◌, ◌++◌, length, Option, Some, None, Result, Ok, Err}
use Rattle.std.proofs.Common.{refl, sym, ap, subst, ◌∙◌, append_assoc, arith, inl, inr}
use Rattle.std.specs.Prelude.{All, codes, nat_lt, if◌then◌else◌}
use Rattle.std.specs.Int.{w8, w64, to_be_bytes}
use Rattle.std.specs.Str.{bytes_eq}
use Rattle.std.proofs.lemmas.Bool.{cases_lt, ltb-false}
use Rattle.std.proofs.lemmas.List.{take_all, get_or_past}
use Rattle.std.proofs.lemmas.Slice.Eq.{bytes_eq-Decides}
use Rattle.octets_core.specs.Reading.{value_of, fault_at, end}
use Rattle.octets_core.specs.declared.field.Field.TheVariants as fields
use Rattle.octets_core.specs.declared.fault.Why.TheVariants as why
use Rattle.octets_core.specs.declared.fault.LayoutFault.{LayoutFault}
use Rattle.octets_core.proofs.Fields.{ok_is}
use Rattle.octets_core.proofs.Texts.{IsBytes, Takes, Takes-as, ◌>>>◌, Leaves, ◌>>-◌, whole-leaves, mapped-leaves, bytes_field-leaves, number_field-leaves, wide64}
use Rattle.job_core.specs.declared.bounds.Limits.{Limits}
use Rattle.job_core.specs.declared.fault.JobFault.{JobFault}
use Rattle.job_core.specs.declared.fault.JobFault.TheVariants as faults
use Rattle.job_core.specs.JobFields.{JobFields}
use Rattle.job_core.specs.JobLayout.{HeldSoFar, nothing_held, Item, with_item, serials_of, with_serials, with_others, records_within, records}
use Rattle.job_core.specs.JobLayout.{opening, JobTexts, job}
use Rattle.job_core.specs.JobText.{contents_in, record_text, opening_text, spelling, FitsJob, Pass}
use Rattle.job_core.specs.JobMeaning.{meaning_of, kept_in, IsJob, IsJobOf, meant, job_of}
use Rattle.job_core.specs.declared.bounds.What.TheVariants as what
use Rattle.job_core.proofs.Items.{few-brought}
use Rattle.job_core.proofs.Passing.{texts_of}
use Rattle.job_core.proofs.RecordsSpelled.{Says, at_most-leaves, next-leaves}
use Rattle.job_core.proofs.JobReads.{whole-read}
use Rattle.job_core.proofs.Sorting.{spelled, fits-job}

-- ---- records

others-leave : (brings : List ℕ → ℕ) (limits : Limits) (n : ℕ) (h : HeldSoFar) (serials : ℕ) (bytes : List ℕ) → IsBytes bytes → (at : ℕ) (x : Option Item) (p : ℕ) → Says limits h bytes at x p
    → ((t : HeldSoFar) (k q : ℕ) → Leaves (records_within brings n limits t k) bytes q (λ xs r. Takes bytes q (texts_of xs ++ to_be_bytes w8 0) r × Pass brings limits t k xs))
    → Leaves (with_others brings (records_within brings n limits) limits h serials x) bytes p (λ xs q. Takes bytes at (texts_of xs ++ to_be_bytes w8 0) q × Pass brings limits h serials xs)
others-leave brings limits n h serials bytes fits at None p said each = whole-leaves [] bytes p _ (said, tt)
others-leave brings limits n h serials bytes fits at (Some x) p said each =
    at_most-leaves what.Serials limits.serials (with_serials brings serials x) bytes p >>- λ few q a.
    each (with_item h x) (with_serials brings serials x) q >>- λ xs r b.
    whole-leaves (x ∷ xs) bytes r _ (
      Takes-as (record_text x ++ (texts_of xs ++ to_be_bytes w8 0)) (texts_of (x ∷ xs) ++ to_be_bytes w8 0) (sym (append_assoc (record_text x) (texts_of xs) (to_be_bytes w8 0)))
          (said.0 >>> subst (λ (m : ℕ). Takes bytes m (texts_of xs ++ to_be_bytes w8 0) r) a.0 b.0),
      (said.1, a.1, b.1),
    )

records-leave : (brings : List ℕ → ℕ) (limits : Limits) (n : ℕ) (h : HeldSoFar) (serials : ℕ) (bytes : List ℕ) → IsBytes bytes → (at : ℕ)
    → Leaves (records_within brings n limits h serials) bytes at (λ xs q. Takes bytes at (texts_of xs ++ to_be_bytes w8 0) q × Pass brings limits h serials xs)
unfolding records_within
records-leave brings limits zero h serials bytes fits at = record { each = λ x is. absurd cc }
records-leave brings limits (suc n) h serials bytes fits at =
    next-leaves limits h bytes fits at >>- λ x p said. others-leave brings limits n h serials bytes fits at x p said (λ t k q. records-leave brings limits n t k bytes fits q)

pub all-bytes : (bytes : List ℕ) → All (λ b. b < 256) bytes → IsBytes bytes
all-bytes bytes all i =
    elim (cases_lt i (length bytes)) [
      | inl lt ↦ all i 0 lt
      | inr le ↦ rw (get_or_past bytes i 0 le) (omega arith)
    ]

-- ---- the job

end-by : (b : Bool) (e : LayoutFault) (at : ℕ) (x : Unit {0} × ℕ) → (if b then Err e else Ok (tt, at)) ≡ Ok x → (b ≡ false) × (at ≡ x.1)
end-by true e at x h = absurd cc
end-by false e at x h = (refl, ap (λ (p : Unit {0} × ℕ). p.1) (ok_is {E = LayoutFault} (tt, at) x h))

pub end-tells : (bytes : List ℕ) (at : ℕ) → Leaves end bytes at (λ u q. (q ≡ at) × (length bytes ≤ at))
end-tells bytes at = record {
  each = λ x h.
      let t = end-by (nat_lt at (length bytes)) (fault_at why.Value fields.End at) at x h in
      (sym t.1, ltb-false at (length bytes) t.0);
}

pub opening-leaves : (bytes : List ℕ) → IsBytes bytes → (at : ℕ) → Leaves opening bytes at (λ o q. Takes bytes at (opening_text o.0 o.1) q × (o.0 < 2 ^ 64) × (o.1 < 2 ^ 64))
unfolding opening
opening-leaves bytes fits at =
    bytes_field-leaves _ _ 8 (bytes_eq (codes "CLUBJOB1")) bytes at >>- λ begin p a.
    number_field-leaves _ _ w64 (2 ^ 64) 0 (2 ^ 64 - 1) wide64 bytes fits p >>- λ epoch q b.
    number_field-leaves _ _ w64 (2 ^ 64) 0 (2 ^ 64 - 1) wide64 bytes fits q >>- λ moment r c.
    whole-leaves (epoch, moment) bytes r _ (
      Takes-as begin (codes "CLUBJOB1") (sym ((bytes_eq-Decides (codes "CLUBJOB1") begin).0 a.passed)) a.takes >>> b.takes >>> c.takes,
      omega (arith, b.to_high),
      omega (arith, c.to_high),
    )

pub all-leave : (brings : List ℕ → ℕ) (limits : Limits) (bytes : List ℕ) → IsBytes bytes → (at : ℕ)
    → Leaves (records brings limits nothing_held 0) bytes at (λ xs q. Takes bytes at (texts_of xs ++ to_be_bytes w8 0) q × Pass brings limits nothing_held 0 xs)
all-leave brings limits bytes fits at = record { each = (records-leave brings limits (length bytes - at) nothing_held 0 bytes fits at).each }

-- what is read of bytes: they are the text of what was read, which fits
pub job-leaves : (brings : List ℕ → ℕ) (limits : Limits) (bytes : List ℕ) → IsBytes bytes
    → Leaves (job brings limits) bytes 0 (λ t q. (bytes ≡ spelling (contents_in t)) × FitsJob limits (contents_in t) × Pass brings limits nothing_held 0 t.items)
unfolding job
job-leaves brings limits bytes fits =
    mapped-leaves faults.Layout opening bytes 0 _ (opening-leaves bytes fits 0) >>- λ o r a.
    all-leave brings limits bytes fits r >>- λ xs u b.
    mapped-leaves faults.Layout end bytes u _ (end-tells bytes u) >>- λ over v d.
    whole-leaves _ bytes v _
    (let t : JobTexts = record { epoch = o.0; moment = o.1; items = xs } in (
      sym (take_all u bytes d.1) ∙ (a.0 >>> b.0).parts ∙ spelled brings limits t b.1,
      fits-job brings limits t a.1 a.2 b.1,
      b.1,
    ))

meant-ok : (r : Result (JobTexts × ℕ) JobFault) (f : JobFields) → meant (value_of r) ≡ Ok f → (x : JobTexts × ℕ) × (r ≡ Ok x) × (meaning_of (contents_in x.0) ≡ f)
meant-ok (Ok x) f h = (x, refl, ok_is {E = JobFault} (meaning_of (contents_in x.0)) f h)
meant-ok (Err e) f h = absurd cc

meant-err : (r : Result (JobTexts × ℕ) JobFault) (e : JobFault) → meant (value_of r) ≡ Err e → r ≡ Err e
meant-err (Ok x) e h = absurd cc
meant-err (Err d) e h = let same : d ≡ e = cc in ap (λ (c : JobFault). Err c) same

-- what is read is the text of what the job holds, and says its meaning
pub read-spelled : (limits : Limits) (bytes : List ℕ) (f : JobFields) → IsBytes bytes → job_of limits bytes ≡ Ok f → IsJob limits bytes f
read-spelled limits bytes f fits h =
    let (x, read, means) = meant-ok (job serials_of limits bytes 0) f h in
    let (text, fitting, pass) = (job-leaves serials_of limits bytes fits).each x read in
    record {
      contents = contents_in x.0;
      text = text;
      fits = fitting;
      few_serials = subst (λ (g : JobFields). kept_in g.crls ≤ limits.serials) means (omega (arith, few-brought limits nothing_held 0 x.0.items (omega arith) pass));
      means = sym means;
    }

pub read-fault : (limits : Limits) (bytes : List ℕ) (e : JobFault) → job_of limits bytes ≡ Err e → IsJobOf limits bytes (Err e)
read-fault limits bytes e is = meant-err (job serials_of limits bytes 0) e is

-- bytes are read as what they are
pub read-found : (limits : Limits) (bytes : List ℕ) (r : Result JobFields JobFault) → IsBytes bytes → job_of limits bytes ≡ r → IsJobOf limits bytes r
read-found limits bytes (Ok f) fits is = read-spelled limits bytes f fits is
read-found limits bytes (Err e) fits is = read-fault limits bytes e is

pub found-read : (limits : Limits) (bytes : List ℕ) (r : Result JobFields JobFault) → IsJobOf limits bytes r → job_of limits bytes ≡ r
found-read limits bytes (Ok f) is =
    ap (job_of limits) is.text
    ∙ whole-read limits is.contents is.fits (subst (λ (g : JobFields). kept_in g.crls ≤ limits.serials) is.means is.few_serials)
    ∙ ap (λ (g : JobFields). Ok g) (sym is.means)
found-read limits bytes (Err e) is = ap (λ r. meant (value_of r)) is
