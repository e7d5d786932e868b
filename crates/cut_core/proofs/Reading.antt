-- Raw jobs are read as what they mean, also once they are cut or put together.
use Rattle.std.specs.Prelude.{All, nat_le, if◌then◌else◌}
use Rattle.std.proofs.Common.{◌≡◌, ℕ, ◌≤◌, Bool, true, false, List, [], ◌∷◌, length, Result, Ok, Err, refl, sym, ap, ◌∙◌, subst, arith}
use Rattle.std.proofs.lemmas.Bool.{leb-true}
use Rattle.std.proofs.lemmas.List.Elements.{All-nil, All-head, All-tail, All-append, All-filter}
use Rattle.octets_core.specs.Reading.{value_of}
use Rattle.octets_core.proofs.Texts.{IsBytes}
use Rattle.job_core.specs.declared.bounds.Limits.{Limits}
use Rattle.job_core.specs.declared.bounds.TheConstants.Limits.{PUBLISHED}
use Rattle.job_core.specs.declared.bounds.What.TheVariants as what
use Rattle.job_core.specs.declared.fault.JobFault.{JobFault}
use Rattle.job_core.specs.declared.fault.JobFault.TheVariants as faults
use Rattle.job_core.specs.JobFields.{JobFields}
use Rattle.job_core.specs.JobLayout.{CrlText, EntryText, JobTexts, job, entry_meaning}
use Rattle.job_core.specs.JobText.{JobContents, FitsCrl, FitsEntry, FitsJob, spelling}
use Rattle.job_core.specs.JobMeaning.{meaning_of, kept_in, reading_of, IsJob, job_of}
use Rattle.job_core.specs.Reader.{no_serials}
use Rattle.job_core.proofs.JobReads.{spelled-read}
use Rattle.job_core.proofs.JobSpelled.{job-leaves}
use Rattle.gather_core.specs.Raw.{contents_in, raw_by, raw_job, piece_limits}
use Rattle.place_core.specs.Cuts.{Cut}
use Rattle.piece_core.specs.Cuts.{keeps_entry, cut_contents}
use Rattle.cut_core.specs.Cutting.{cut_job}
use Rattle.cut_core.specs.Texts.{IsMerged}
use Rattle.cut_core.proofs.Admitting.{few_kept, few_serials}
use Rattle.cut_core.proofs.Records.{entries_of, meaning_cut}

-- ---- a raw job is its text

module _ (limits : Limits) (bytes : List ℕ) (octets : IsBytes bytes) where
  raw_ok : (r : Result (JobTexts × ℕ) JobFault) (j : JobContents) → raw_by (value_of r) ≡ Ok j → (x : JobTexts × ℕ) × (r ≡ Ok x) × (contents_in x.0 ≡ j)
  raw_ok (Ok x) j is = (x, refl, let h : ◌≡◌ {A = Result JobContents JobFault} (Ok (contents_in x.0)) (Ok j) = is in cc)
  raw_ok (Err e) j is = absurd (let h : ◌≡◌ {A = Result JobContents JobFault} (Err e) (Ok j) = is in cc)

  pub raw_text : (j : JobContents) → raw_job limits bytes ≡ Ok j → (bytes ≡ spelling j) × FitsJob limits j
  raw_text j is =
      let r = raw_ok (job no_serials limits bytes 0) j is in
      let (text, fits, pass) = (job-leaves no_serials limits bytes octets).each r.0 r.1 in
      subst (λ (k : JobContents). (bytes ≡ spelling k) × FitsJob limits k) r.2 (text, fits)

-- ---- cut

text_fits : (cut : Cut) (limits : Limits) (j : JobContents) → FitsJob limits j → FitsJob limits (cut_contents cut j)
text_fits cut limits j f = record {
  epoch = f.epoch;
  moment = f.moment;
  few_ranges = f.few_ranges;
  ranges = f.ranges;
  few_crls = omega (arith, few_kept (λ (c : CrlText). cut.takes c.issuer) j.crls, f.few_crls);
  crls = All-filter (λ (c : CrlText). cut.takes c.issuer) FitsCrl j.crls f.crls;
  few_entries = omega (arith, few_kept (λ (e : EntryText). keeps_entry cut (entry_meaning e)) j.entries, f.few_entries);
  entries = All-filter (λ (e : EntryText). keeps_entry cut (entry_meaning e)) FitsEntry j.entries f.entries;
}

reading_ok : (b : Bool) (e : JobFault) (m f : JobFields) → (if b then Ok m else Err e) ≡ Ok f → (b ≡ true) × (m ≡ f)
reading_ok true e m f is = (refl, let h : ◌≡◌ {A = Result JobFields JobFault} (Ok m) (Ok f) = is in cc)
reading_ok false e m f is = absurd (let h : ◌≡◌ {A = Result JobFields JobFault} (Err e) (Ok f) = is in cc)

-- the text of what is kept of a job is the job, cut
pub cut_read : (cut : Cut) (limits : Limits) (bytes : List ℕ) (j : JobContents) (f : JobFields) → IsBytes bytes → raw_job limits bytes ≡ Ok j
    → job_of limits bytes ≡ Ok f → IsJob limits (spelling (cut_contents cut j)) (cut_job cut f)
cut_read cut limits bytes j f octets raw is =
    let text = raw_text limits bytes octets j raw in
    let read : reading_of limits j ≡ Ok f = sym (spelled-read limits j text.1) ∙ ap (job_of limits) (sym text.0) ∙ is in
    let means = reading_ok (nat_le (kept_in (meaning_of j).crls) limits.serials) (faults.TooMany what.Serials limits.serials) (meaning_of j) f read in
    let all : kept_in (meaning_of j).crls ≤ limits.serials = leb-true (kept_in (meaning_of j).crls) limits.serials means.0 in
    record {
      contents = cut_contents cut j;
      text = refl;
      fits = text_fits cut limits j text.1;
      few_serials = subst (λ (g : JobFields). kept_in (cut_job cut g).crls ≤ limits.serials) means.1 (omega (arith, all, few_serials cut (meaning_of j).crls));
      means = sym (meaning_cut cut j ∙ ap (cut_job cut) means.1);
    }

-- ---- put together

entries_fit : (pieces : List JobContents) → All (FitsJob piece_limits) pieces → All FitsEntry (entries_of pieces)
entries_fit [] each = All-nil FitsEntry
entries_fit (p ∷ pieces) each =
    All-append FitsEntry p.entries (entries_of pieces) (All-head (FitsJob piece_limits) p pieces each).entries
    (entries_fit pieces (All-tail (FitsJob piece_limits) p pieces each))

merged_fits : (head : JobContents) (pieces : List JobContents) (job : JobContents) → IsMerged head pieces job → FitsJob PUBLISHED head
    → All (FitsJob piece_limits) pieces → length job.entries ≤ PUBLISHED.entries → FitsJob PUBLISHED job
merged_fits head pieces job m f each few =
    subst (FitsJob PUBLISHED) (sym m.whole) (record {
      epoch = f.epoch;
      moment = f.moment;
      few_ranges = f.few_ranges;
      ranges = f.ranges;
      few_crls = f.few_crls;
      crls = f.crls;
      few_entries = subst (λ (j : JobContents). length j.entries ≤ PUBLISHED.entries) m.whole few;
      entries = All-append FitsEntry head.entries (entries_of pieces) f.entries (entries_fit pieces each);
    })

-- the text of what is put together is read as its meaning
pub merged_read : (head : JobContents) (pieces : List JobContents) (job : JobContents) → IsMerged head pieces job → FitsJob PUBLISHED head
    → All (FitsJob piece_limits) pieces → length job.entries ≤ PUBLISHED.entries → job_of PUBLISHED (spelling job) ≡ reading_of PUBLISHED job
merged_read head pieces job m f each few = spelled-read PUBLISHED job (merged_fits head pieces job m f each few)
