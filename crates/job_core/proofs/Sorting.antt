-- Records that pass are ranges, then CRLs, then entries, and what they hold fits.
use Rattle.std.proofs.Common.{◌≡◌, ℕ, ◌+◌, ◌≤◌, ◌<◌, ◌^◌, List, [], ◌∷◌, ◌++◌, length, Some, refl, sym, ap, ◌∙◌, arith}
use Rattle.std.specs.Prelude.{All}
use Rattle.std.specs.Int.{w8, to_be_bytes}
use Rattle.std.proofs.lemmas.List.Elements.{All-nil, All-cons}
use Rattle.octets_core.specs.Linked.{Linked}
use Rattle.ident_core.specs.declared.range.Range.{Range}
use Rattle.ident_core.specs.RangeText.{FitsRange}
use Rattle.job_core.specs.declared.bounds.Limits.{Limits}
use Rattle.job_core.specs.JobLayout.{CrlText, EntryText, HeldSoFar, nothing_held, Item, OneRange, OneCrl, OneEntry, with_item, JobTexts}
use Rattle.job_core.specs.JobText.{opening_text, spelling, ranges_in, crls_in, entries_in, contents_in, FitsCrl, FitsEntry, FitsJob, Pass}
use Rattle.job_core.proofs.Items.{items}
use Rattle.job_core.proofs.JobReads.{spelling-is}
use Rattle.job_core.proofs.Passing.{texts_of}

pub record Sorts (limits : Limits) (h : HeldSoFar) (xs : List Item) : Type 0 where
  pub is : items (ranges_in xs) (crls_in xs) (entries_in xs) ≡ xs
  pub few_ranges : h.ranges ≤ limits.ranges → h.ranges + length (ranges_in xs) ≤ limits.ranges
  pub few_crls : h.crls ≤ limits.crls → h.crls + length (crls_in xs) ≤ limits.crls
  pub few_entries : h.entries ≤ limits.entries → h.entries + length (entries_in xs) ≤ limits.entries
  pub ranges_fit : Linked FitsRange (λ previous r. Some r.log) h.log (ranges_in xs)
  pub crls_fit : All FitsCrl (crls_in xs)
  pub entries_fit : All FitsEntry (entries_in xs)
  pub no_ranges : 2 ≤ h.kind → ranges_in xs ≡ []
  pub no_crls : 3 ≤ h.kind → crls_in xs ≡ []

crls-first : (c : CrlText) (xs : List Item) (rs : List Range) → rs ≡ [] → items rs (crls_in xs) (entries_in xs) ≡ xs
    → items rs (c ∷ crls_in xs) (entries_in xs) ≡ OneCrl c ∷ xs
crls-first c xs [] none is = ap (λ (l : List Item). OneCrl c ∷ l) is
crls-first c xs (r ∷ rs) none is = absurd cc

entries-first : (e : EntryText) (xs : List Item) (rs : List Range) (cs : List CrlText) → rs ≡ [] → cs ≡ [] → items rs cs (entries_in xs) ≡ xs
    → items rs cs (e ∷ entries_in xs) ≡ OneEntry e ∷ xs
entries-first e xs [] [] no_ranges no_crls is = ap (λ (l : List Item). OneEntry e ∷ l) is
entries-first e xs (r ∷ rs) cs no_ranges no_crls is = absurd cc
entries-first e xs [] (c ∷ cs) no_ranges no_crls is = absurd cc

pub sorted : (brings : List ℕ → ℕ) (limits : Limits) (h : HeldSoFar) (serials : ℕ) (xs : List Item) → Pass brings limits h serials xs → Sorts limits h xs
sorted brings limits h serials [] pass = record {
  is = refl;
  few_ranges = λ le. omega (arith, le);
  few_crls = λ le. omega (arith, le);
  few_entries = λ le. omega (arith, le);
  ranges_fit = tt;
  crls_fit = All-nil FitsCrl;
  entries_fit = All-nil FitsEntry;
  no_ranges = λ le. refl;
  no_crls = λ le. refl;
}
sorted brings limits h serials (OneRange r ∷ xs) pass =
    let s = sorted brings limits (with_item h (OneRange r)) _ xs pass.2 in
    let fits = pass.0 in
    record {
      is = ap (λ (l : List Item). OneRange r ∷ l) s.is;
      few_ranges = λ le. omega (arith, s.few_ranges fits.2);
      few_crls = s.few_crls;
      few_entries = s.few_entries;
      ranges_fit = (fits.0, s.ranges_fit);
      crls_fit = s.crls_fit;
      entries_fit = s.entries_fit;
      no_ranges = λ le. absurd (omega (arith, le, fits.1));
      no_crls = λ le. absurd (omega (arith, le, fits.1));
    }
sorted brings limits h serials (OneCrl c ∷ xs) pass =
    let s = sorted brings limits (with_item h (OneCrl c)) _ xs pass.2 in
    let fits = pass.0 in
    let none = s.no_ranges (omega arith) in
    record {
      is = crls-first c xs (ranges_in xs) none s.is;
      few_ranges = λ le. omega (arith, le, ap (λ (l : List Range). length l) none);
      few_crls = λ le. omega (arith, s.few_crls fits.2);
      few_entries = s.few_entries;
      ranges_fit = s.ranges_fit;
      crls_fit = All-cons FitsCrl c (crls_in xs) fits.0 s.crls_fit;
      entries_fit = s.entries_fit;
      no_ranges = λ le. none;
      no_crls = λ le. absurd (omega (arith, le, fits.1));
    }
sorted brings limits h serials (OneEntry e ∷ xs) pass =
    let s = sorted brings limits (with_item h (OneEntry e)) _ xs pass.2 in
    let fits = pass.0 in
    let no_ranges = s.no_ranges (omega arith) in
    let no_crls = s.no_crls (omega arith) in
    record {
      is = entries-first e xs (ranges_in xs) (crls_in xs) no_ranges no_crls s.is;
      few_ranges = λ le. omega (arith, le, ap (λ (l : List Range). length l) no_ranges);
      few_crls = λ le. omega (arith, le, ap (λ (l : List CrlText). length l) no_crls);
      few_entries = λ le. omega (arith, s.few_entries fits.2);
      ranges_fit = s.ranges_fit;
      crls_fit = s.crls_fit;
      entries_fit = All-cons FitsEntry e (entries_in xs) fits.0 s.entries_fit;
      no_ranges = λ le. no_ranges;
      no_crls = λ le. no_crls;
    }

-- their texts are the text of what they hold
pub spelled : (brings : List ℕ → ℕ) (limits : Limits) (t : JobTexts) → Pass brings limits nothing_held 0 t.items
    → opening_text t.epoch t.moment ++ (texts_of t.items ++ to_be_bytes w8 0) ≡ spelling (contents_in t)
spelled brings limits t pass =
    ap (λ (l : List Item). opening_text t.epoch t.moment ++ (texts_of l ++ to_be_bytes w8 0)) (sym (sorted brings limits nothing_held 0 t.items pass).is) ∙ sym (spelling-is (contents_in t))

-- and this fits
pub fits-job : (brings : List ℕ → ℕ) (limits : Limits) (t : JobTexts) → t.epoch < 2 ^ 64 → t.moment < 2 ^ 64 → Pass brings limits nothing_held 0 t.items → FitsJob limits (contents_in t)
fits-job brings limits t epoch moment pass =
    let s = sorted brings limits nothing_held 0 t.items pass in
    record {
      epoch = epoch;
      moment = moment;
      few_ranges = omega (arith, s.few_ranges (omega arith));
      ranges = s.ranges_fit;
      few_crls = omega (arith, s.few_crls (omega arith));
      crls = s.crls_fit;
      few_entries = omega (arith, s.few_entries (omega arith));
      entries = s.entries_fit;
    }
