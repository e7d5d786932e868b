-- What the records of a job say, read one by one, as a loop does.
use Rattle.std.proofs.Common.{◌≡◌, ℕ, ◌≤◌, ◌<◌, List, [], ◌∷◌, map, Some, None, Result, Ok, Err, refl, sym, ap, ◌∙◌, append_assoc, arith}
use Rattle.std.proofs.lemmas.List.{append-nil}
use Rattle.octets_core.specs.Layout.{then_read, ◌>>=◌, whole, with_fault}
use Rattle.octets_core.specs.Reading.{value_of, end}
use Rattle.octets_core.specs.declared.fault.LayoutFault.{LayoutFault}
use Rattle.octets_core.proofs.Fields.{ok_is}
use Rattle.job_core.specs.declared.bounds.Limits.{Limits}
use Rattle.job_core.specs.declared.bounds.What.TheVariants as what
use Rattle.job_core.specs.declared.fault.JobFault.{JobFault}
use Rattle.job_core.specs.declared.fault.JobFault.TheVariants as faults
use Rattle.job_core.specs.JobFields.{JobFields}
use Rattle.job_core.specs.JobLayout.{fielded, Item, OneRange, OneCrl, OneEntry, HeldSoFar, with_item, serials_of, with_serials, next_item, records, opening, job, crl_meaning, entry_meaning}
use Rattle.job_core.specs.JobText.{ranges_in, crls_in, entries_in, behind}
use Rattle.job_core.specs.JobMeaning.{meant, job_of}
use Rattle.job_core.specs.Partial.{begun, saying_one, saying, said_behind, records_saying}
use Rattle.job_core.proofs.Steps.{fails, ends, goes_on, runs_over}
use Rattle.job_core.proofs.JobReads.{behind-opening}

-- ---- records

saying-none : (f : JobFields) → saying f [] ≡ f
saying-none f = rw (append-nil f.ranges, append-nil f.crls, append-nil f.entries) refl

saying-more : (f : JobFields) (x : Item) (xs : List Item) → saying f (x ∷ xs) ≡ saying (saying_one f x) xs
saying-more f (OneRange r) xs = rw (append_assoc f.ranges (r ∷ []) (ranges_in xs)) refl
saying-more f (OneCrl c) xs = rw (append_assoc f.crls (crl_meaning c ∷ []) (map crl_meaning (crls_in xs))) refl
saying-more f (OneEntry e) xs = rw (append_assoc f.entries (entry_meaning e ∷ []) (map entry_meaning (entries_in xs))) refl

module _ (limits : Limits) (f : JobFields) (h : HeldSoFar) (serials : ℕ) (bytes : List ℕ) (at : ℕ) (total : Result (JobFields × ℕ) JobFault) where
  abbrev IsTotal : Type 0
  IsTotal = said_behind f (records serials_of limits h serials bytes at) ≡ total

  behind-said : (x : Item) (r : Result (List Item × ℕ) JobFault) → said_behind f (behind (x ∷ []) r) ≡ said_behind (saying_one f x) r
  behind-said x (Ok y) = ap (λ (g : JobFields). Ok (g, y.1)) (saying-more f x y.0)
  behind-said x (Err e) = refl

  pub says_more : (x : Item) (q : ℕ) (g : JobFields) (k : HeldSoFar) (n : ℕ) (later : List ℕ) → next_item limits h bytes at ≡ Ok (Some x, q)
      → g ≡ saying_one f x → k ≡ with_item h x → n ≡ with_serials serials_of serials x → n ≤ limits.serials → later ≡ bytes → IsTotal
      → said_behind g (records serials_of limits k n later q) ≡ total
  says_more x q g k n later is says holds counts few same before =
      rw (says, holds, counts, same)
      (sym (behind-said x (records serials_of limits (with_item h x) (with_serials serials_of serials x) bytes q))
      ∙ ap (said_behind f) (sym (goes_on serials_of limits h serials bytes at x q is (omega (arith, few, counts))))
      ∙ before)

  pub says_all : (q : ℕ) → next_item limits h bytes at ≡ Ok (None, q) → IsTotal → total ≡ Ok (f, q)
  says_all q is before = sym before ∙ ap (said_behind f) (ends serials_of limits h serials bytes at q is) ∙ ap (λ (g : JobFields). Ok (g, q)) (saying-none f)

  pub says_over : (x : Item) (q : ℕ) → next_item limits h bytes at ≡ Ok (Some x, q) → limits.serials < with_serials serials_of serials x → IsTotal
      → total ≡ Err (faults.TooMany what.Serials limits.serials)
  says_over x q is over before = sym before ∙ ap (said_behind f) (runs_over serials_of limits h serials bytes at x q is over)

  pub says_fault : (e : JobFault) → next_item limits h bytes at ≡ Err e → IsTotal → total ≡ Err e
  says_fault e is before = sym before ∙ ap (said_behind f) (fails serials_of limits h serials bytes at e is)

-- ---- the job

pub opening-fails : (limits : Limits) (bytes : List ℕ) (e : LayoutFault) → opening bytes 0 ≡ Err e → job_of limits bytes ≡ Err (faults.Layout e)
unfolding job
opening-fails limits bytes e is = rw is refl

-- behind the records
abbrev last : ℕ × ℕ → Result (List Item × ℕ) JobFault → List ℕ → Result JobFields JobFault
last o r bytes = meant (value_of (then_read r (λ xs. fielded end >>= λ over. whole (record { epoch = o.0; moment = o.1; items = xs })) bytes))

last-fails : (o : ℕ × ℕ) (bytes : List ℕ) (e : JobFault) (r : Result (List Item × ℕ) JobFault) → said_behind (begun o.0 o.1) r ≡ Err e → last o r bytes ≡ Err e
last-fails o bytes e (Ok x) is = absurd cc
last-fails o bytes e (Err d) is = let same : d ≡ e = cc in ap (λ (c : JobFault). Err c) same

last-over : (o : ℕ × ℕ) (bytes : List ℕ) (f : JobFields) (q : ℕ) (e : LayoutFault) (r : Result (List Item × ℕ) JobFault) → said_behind (begun o.0 o.1) r ≡ Ok (f, q)
    → end bytes q ≡ Err e → last o r bytes ≡ Err (faults.Layout e)
last-over o bytes f q e (Ok x) is over =
    let place : x.1 ≡ q = ap (λ (y : JobFields × ℕ). y.1) (ok_is {E = JobFault} (saying (begun o.0 o.1) x.0, x.1) (f, q) is) in
    rw (place, over) refl
last-over o bytes f q e (Err d) is over = absurd cc

last-ends : (o : ℕ × ℕ) (bytes : List ℕ) (f : JobFields) (q p : ℕ) (r : Result (List Item × ℕ) JobFault) → said_behind (begun o.0 o.1) r ≡ Ok (f, q)
    → end bytes q ≡ Ok (tt, p) → last o r bytes ≡ Ok f
last-ends o bytes f q p (Ok x) is over =
    let same : (saying (begun o.0 o.1) x.0, x.1) ≡ (f, q) = ok_is {E = JobFault} (saying (begun o.0 o.1) x.0, x.1) (f, q) is in
    let place : x.1 ≡ q = ap (λ (y : JobFields × ℕ). y.1) same in
    let says : saying (begun o.0 o.1) x.0 ≡ f = ap (λ (y : JobFields × ℕ). y.0) same in
    rw (place, over) (ap (λ (g : JobFields). Ok g) says)
last-ends o bytes f q p (Err d) is over = absurd cc

module _ (limits : Limits) (bytes : List ℕ) (o : ℕ × ℕ) (at : ℕ) (opened : opening bytes 0 ≡ Ok (o, at)) where
  job-is : job_of limits bytes ≡ last o (records serials_of limits Rattle.job_core.specs.JobLayout.nothing_held 0 bytes at) bytes
  job-is = ap (λ r. meant (value_of r)) (behind-opening serials_of limits bytes 0 o at opened)

  pub records-fail : (e : JobFault) → records_saying limits (begun o.0 o.1) bytes at ≡ Err e → job_of limits bytes ≡ Err e
  records-fail e is = job-is ∙ last-fails o bytes e _ is

  pub more-follows : (f : JobFields) (q : ℕ) (e : LayoutFault) → records_saying limits (begun o.0 o.1) bytes at ≡ Ok (f, q) → end bytes q ≡ Err e
      → job_of limits bytes ≡ Err (faults.Layout e)
  more-follows f q e is over = job-is ∙ last-over o bytes f q e _ is over

  pub job-says : (f : JobFields) (q p : ℕ) → records_saying limits (begun o.0 o.1) bytes at ≡ Ok (f, q) → end bytes q ≡ Ok (tt, p) → job_of limits bytes ≡ Ok f
  job-says f q p is over = job-is ∙ last-ends o bytes f q p _ is over

-- ---- the same of layouts under the faults of a job

with_fault-err : {A : Type 0} (r : Result (A × ℕ) LayoutFault) (e : JobFault) → with_fault faults.Layout r ≡ Err e → (d : LayoutFault) × (r ≡ Err d) × (faults.Layout d ≡ e)
with_fault-err (Ok x) e is = absurd cc
with_fault-err (Err d) e is = (d, refl, cc)

pub end-comes : (limits : Limits) (bytes : List ℕ) (o : ℕ × ℕ) (at : ℕ) → opening bytes 0 ≡ Ok (o, at) → (f : JobFields) (q : ℕ) (e : JobFault)
    → records_saying limits (begun o.0 o.1) bytes at ≡ Ok (f, q)
    → fielded end bytes q ≡ Err e → job_of limits bytes ≡ Err e
end-comes limits bytes o at opened f q e is over =
    let (d, fails_so, same) = with_fault-err (end bytes q) e over in
    more-follows limits bytes o at opened f q d is fails_so ∙ ap (λ (c : JobFault). Err c) same
