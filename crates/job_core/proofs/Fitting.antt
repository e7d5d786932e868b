-- What holds of a job that was read, from what its text holds.
use Rattle.std.proofs.Common.{◌≡◌, ℕ, ◌≤◌, List, length, sym, subst, arith, IfOk}
use Rattle.std.specs.Prelude.{All, IfSome}
use Rattle.std.proofs.lemmas.List.{length-map}
use Rattle.std.proofs.lemmas.List.Elements.{All-map}
use Rattle.ident_core.proofs.RangeTexts.{ranges-ascend}
use Rattle.job_core.specs.declared.bounds.Limits.{Limits}
use Rattle.job_core.specs.JobFields.{CrlMeaning, JobFields}
use Rattle.job_core.specs.JobText.{JobContents, FitsJob}
use Rattle.job_core.specs.JobMeaning.{crl_meaning, entry_meaning, meaning_of, kept_in, IsJob}
use Rattle.crl_core.specs.Outcome.{CrlFieldsFit}
use Rattle.job_core.specs.Fitting.{EntryFieldsFit, FitsPublishing, FitsFields, IsWithinLimits}

within-meaning : (limits : Limits) (j : JobContents) → FitsJob limits j → kept_in (meaning_of j).crls ≤ limits.serials → IsWithinLimits limits (meaning_of j)
within-meaning limits j fits few = record {
  ranges = fits.few_ranges;
  crls = omega (arith, fits.few_crls, length-map j.crls crl_meaning);
  serials = few;
  entries = omega (arith, fits.few_entries, length-map j.entries entry_meaning);
}

fits-meaning : (limits : Limits) (j : JobContents) → FitsJob limits j → limits.ranges ≤ 1024
    → All (λ e. IfSome e EntryFieldsFit) (meaning_of j).entries → FitsPublishing (meaning_of j)
fits-meaning limits j fits published entries = record {
  epoch = fits.epoch;
  moment = fits.moment;
  ranges_fit = record { few = omega (arith, fits.few_ranges, published); ascending = ranges-ascend j.ranges fits.ranges };
  ranges = fits.ranges;
  crls = All-map (λ (c : CrlMeaning). length c.issuer ≡ 32) crl_meaning j.crls (λ k d lt. (fits.crls k d lt).0);
  entries = entries;
}

pub within-job : (limits : Limits) (bytes : List ℕ) (f : JobFields) → IsJob limits bytes f → IsWithinLimits limits f
within-job limits bytes f is =
    subst (λ (g : JobFields). kept_in g.crls ≤ limits.serials → IsWithinLimits limits g) (sym is.means) (within-meaning limits is.contents is.fits) is.few_serials

pub fits-read : (limits : Limits) (bytes : List ℕ) (f : JobFields) → limits.ranges ≤ 1024
    → All (λ c. IfOk c.outcome CrlFieldsFit) f.crls → All (λ e. IfSome e EntryFieldsFit) f.entries → IsJob limits bytes f → FitsFields f
fits-read limits bytes f published crls entries is = record {
  publishing = subst (λ (g : JobFields). All (λ e. IfSome e EntryFieldsFit) g.entries → FitsPublishing g) (sym is.means)
      (λ all. fits-meaning limits is.contents is.fits published all) entries;
  accepted = crls;
}
