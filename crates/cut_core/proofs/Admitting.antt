-- A cut job follows where the whole one does, by all that isn't its own.
use Rattle.std.specs.List.{AllZip, filter}
use Rattle.std.specs.Prelude.{All, IfSome, IsOk}
use Rattle.std.proofs.Common.{◌≡◌, ℕ, ◌<◌, ◌≤◌, suc, List, [], ◌∷◌, length, Bool, not, Option, refl, sym, ap, ◌∙◌, subst, arith}
use Rattle.std.proofs.lemmas.List.Elements.{All-filter}
use Rattle.std.proofs.lemmas.List.Filters.{length-filter_both, sum_by-filter_both}
use Rattle.ident_core.specs.declared.bounds.TheConstants.{MAX_PARTS}
use Rattle.ident_core.specs.declared.identity.Identity.{Identity}
use Rattle.ident_core.specs.declared.range.Range.{Range}
use Rattle.ident_core.specs.Coverage.{LiesWithin}
use Rattle.job_core.specs.declared.bounds.Limits.{Limits}
use Rattle.job_core.specs.declared.bounds.TheConstants.Limits.{PUBLISHED}
use Rattle.job_core.specs.JobFields.{CrlMeaning, JobFields}
use Rattle.job_core.specs.Fitting.{EntryFieldsFit, FitsPublishing, IsWithinLimits}
use Rattle.job_core.specs.JobLayout.{kept}
use Rattle.job_core.specs.JobMeaning.{kept_in}
use Rattle.universe_core.specs.Jobs.{Entry}
use Rattle.universe_core.specs.Formats.{JobIn, facts_in}
use Rattle.universe_core.specs.History.{Release, past_of, accepted_with}
use Rattle.publication_core.specs.Building.{HaveBlocks}
use Rattle.publication_core.specs.Histories.{newest_of, groups_of, GoesOn, IsAdmissible}
use Rattle.place_core.specs.Cuts.{Cut, is_kept}
use Rattle.piece_core.specs.Cuts.{keeps_entry}
use Rattle.cut_core.specs.Cutting.{cut_job, cut_in, IsCut}
use Rattle.cut_core.specs.Courses.{Course, left, cut_course}
use Rattle.cut_core.proofs.Steps.{accepted_cut}
use Rattle.cut_core.proofs.Releases.{past_cut}
use Rattle.cut_core.proofs.Courses.{facts_cut, course_beside}

module _ (cut : Cut) where
  fits_cut : (job : JobFields) → FitsPublishing job → FitsPublishing (cut_job cut job)
  fits_cut job f = record {
    epoch = f.epoch;
    moment = f.moment;
    ranges_fit = f.ranges_fit;
    ranges = f.ranges;
    crls = All-filter (λ (c : CrlMeaning). cut.takes c.issuer) (λ (c : CrlMeaning). length c.issuer ≡ 32) job.crls f.crls;
    entries = All-filter (keeps_entry cut) (λ (o : Option Entry). IfSome o EntryFieldsFit) job.entries f.entries;
  }

  goes_on_cut : (job : JobFields) (r q : Release) → IsCut cut r q → GoesOn job r → GoesOn (cut_job cut job) q
  goes_on_cut job r q c g = record {
    epoch = subst (λ (n : ℕ). n < job.epoch) (sym c.epoch) g.epoch;
    coverage = subst (λ (old : List Range). LiesWithin old job.ranges) (sym c.ranges) g.coverage;
  }

  newest_goes_on : (job : JobFields) (rs qs : List Release) → AllZip (IsCut cut) rs qs → IfSome (newest_of rs) (GoesOn job)
      → IfSome (newest_of qs) (GoesOn (cut_job cut job))
  newest_goes_on job [] [] z h = h
  newest_goes_on job [] (q ∷ qs) z h = absurd z
  newest_goes_on job (r ∷ rs) [] z h = absurd z
  newest_goes_on job (r ∷ []) (q ∷ []) z h = goes_on_cut job r q z.0 h
  newest_goes_on job (r ∷ []) (q ∷ p ∷ qs) z h = absurd z.1
  newest_goes_on job (r ∷ s ∷ rs) (q ∷ []) z h = absurd z.1
  newest_goes_on job (r ∷ s ∷ rs) (q ∷ p ∷ qs) z h = newest_goes_on job (s ∷ rs) (p ∷ qs) z.1 h

  as_many : (rs qs : List Release) → AllZip (IsCut cut) rs qs → length qs ≡ length rs
  as_many [] [] z = refl
  as_many [] (q ∷ qs) z = absurd z
  as_many (r ∷ rs) [] z = absurd z
  as_many (r ∷ rs) (q ∷ qs) z = ap (λ (n : ℕ). suc n) (as_many rs qs z.1)

  pub admissible_cut : (rs qs : List Release) (j : JobIn) → AllZip (IsCut cut) rs qs → FitsPublishing j.job
      → All (λ c. IsOk c.outcome) j.job.crls
      → IfSome (newest_of rs) (GoesOn j.job) → length rs < MAX_PARTS → IsWithinLimits PUBLISHED (cut_job cut j.job)
      → length (accepted_with (past_of qs) (facts_in (cut_in cut j))) ≤ PUBLISHED.identities
      → HaveBlocks j.format (groups_of qs (facts_in (cut_in cut j)))
      → IsAdmissible qs (cut_in cut j)
  admissible_cut rs qs j z fits crls goes few limits identities blocks = record {
    fits = fits_cut j.job fits;
    limits = limits;
    crls = All-filter (λ (c : CrlMeaning). cut.takes c.issuer) (λ (c : CrlMeaning). IsOk c.outcome) j.job.crls crls;
    goes_on = newest_goes_on j.job rs qs z goes;
    few_parts = subst (λ (n : ℕ). n < MAX_PARTS) (sym (as_many rs qs z)) few;
    few_identities = identities;
    blocks = blocks;
  }

-- ---- no more than the whole one has

pub few_kept : {A : Type 0} (p : A → Bool) (xs : List A) → length (filter p xs) ≤ length xs
few_kept p xs = omega (arith, length-filter_both p (λ a. not (p a)) (λ a. refl) xs)

module _ (cut : Cut) where
  abbrev taken_crl : CrlMeaning → Bool
  taken_crl c = cut.takes c.issuer

  pub few_serials : (crls : List CrlMeaning) → kept_in (filter taken_crl crls) ≤ kept_in crls
  few_serials crls = omega (arith, sum_by-filter_both taken_crl (λ c. not (taken_crl c)) (λ c. refl) (λ c. kept c.outcome) crls)

  limits_cut : (limits : Limits) (job : JobFields) → IsWithinLimits limits job → IsWithinLimits limits (cut_job cut job)
  limits_cut limits job w = record {
    ranges = w.ranges;
    crls = omega (arith, few_kept taken_crl job.crls, w.crls);
    serials = omega (arith, few_serials job.crls, w.serials);
    entries = omega (arith, few_kept (keeps_entry cut) job.entries, w.entries);
  }

  pub admissible_beside : (rs qs : List Release) (j : JobIn) → AllZip (IsCut cut) rs qs → IsAdmissible rs j
      → HaveBlocks j.format (groups_of qs (facts_in (cut_in cut j))) → IsAdmissible qs (cut_in cut j)
  admissible_beside rs qs j z a blocks =
      let known : accepted_with (past_of qs) (facts_in (cut_in cut j)) ≡ filter (is_kept cut) (accepted_with (past_of rs) (facts_in j)) =
      ap (accepted_with (past_of qs)) (facts_cut cut j) ∙ accepted_cut cut (facts_in j) (past_of rs) (past_of qs) (past_cut cut rs qs z) in
      let few : length (accepted_with (past_of qs) (facts_in (cut_in cut j))) ≤ PUBLISHED.identities =
      omega (
        arith,
        ap (λ (xs : List Identity). length xs) known,
        few_kept (is_kept cut) (accepted_with (past_of rs) (facts_in j)),
        a.few_identities,
      ) in
      admissible_cut cut rs qs j z a.fits a.crls a.goes_on a.few_parts (limits_cut PUBLISHED j.job a.limits) few blocks

  pub admissible_whole : (c : Course) (j : JobIn) → IsAdmissible (left c) j
      → HaveBlocks j.format (groups_of (left (cut_course cut c)) (facts_in (cut_in cut j)))
      → IsAdmissible (left (cut_course cut c)) (cut_in cut j)
  admissible_whole c j a blocks = admissible_beside (left c) (left (cut_course cut c)) j (course_beside cut c) a blocks
