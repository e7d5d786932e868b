-- An audit by cut jobs, which may be no history with parts.
use Rattle.std.specs.List.{AllZip}
use Rattle.std.proofs.Common.{◌≡◌, ◌≤◌, List, [], ◌∷◌, map, length, true, refl, sym, ◌∙◌, subst}
use Rattle.ident_core.specs.declared.identity.Identity.{Identity}
use Rattle.ident_core.specs.declared.range.Sighting.{Sighting}
use Rattle.ident_core.specs.HeadFields.{zero_key}
use Rattle.card_core.specs.PartFields.{PartFields}
use Rattle.card_core.specs.Verdict.{verdict}
use Rattle.job_core.specs.JobFields.{JobFields}
use Rattle.ident_core.specs.Among.{Among}
use Rattle.universe_core.specs.Jobs.{JobFacts, facts_of}
use Rattle.universe_core.specs.History.{releases, seen, sightings}
use Rattle.history_core.specs.Truth.{truth}
use Rattle.audit_core.specs.Auditing.{AllAgree, left_by_jobs}
use Rattle.audit_core.proofs.Findings.{answers_truly}
use Rattle.place_core.specs.Cuts.{Cut, is_kept}
use Rattle.cut_core.specs.Cutting.{cut_job, cut_facts, IsCut}
use Rattle.cut_core.proofs.Releases.{releases_beside, sightings_beside, truth_beside}
use Rattle.cut_core.proofs.Courses.{said_cut}

module _ (cut : Cut) where
  all_facts : (jobs : List JobFields) → map facts_of (map (cut_job cut) jobs) ≡ map (cut_facts cut) (map facts_of jobs)
  all_facts [] = refl
  all_facts (job ∷ jobs) = rw (said_cut cut job, all_facts jobs) refl

  pub audited_beside : (jobs : List JobFields) → AllZip (IsCut cut) (left_by_jobs jobs) (left_by_jobs (map (cut_job cut) jobs))
  unfolding left_by_jobs
  audited_beside jobs =
      subst (λ (fs : List JobFacts). AllZip (IsCut cut) (releases (λ r j. zero_key) [] (map facts_of jobs)) (releases (λ r j. zero_key) [] fs))
      (sym (all_facts jobs))
      (releases_beside cut (λ r j. zero_key) (λ r j. zero_key) [] [] (map facts_of jobs) tt)

  pub cut_audit : (jobs : List JobFields) (parts : List PartFields) (x : Identity) (ss : List Sighting)
      → AllAgree parts (map (cut_job cut) jobs) → is_kept cut x ≡ true → 1 ≤ length ss
      → ((s : Sighting) → Among ss s → Among (sightings x (seen (left_by_jobs jobs))) s) → verdict parts x ss ≡ truth (left_by_jobs jobs) x
  cut_audit jobs parts x ss agree k some asked =
      let z : AllZip (IsCut cut) (left_by_jobs jobs) (left_by_jobs (map (cut_job cut) jobs)) = audited_beside jobs in
      answers_truly parts (map (cut_job cut) jobs) agree x ss some
      (λ s a. subst (λ (ts : List Sighting). Among ts s)
      (sym (sightings_beside cut x k (left_by_jobs jobs) (left_by_jobs (map (cut_job cut) jobs)) z)) (asked s a))
      ∙ truth_beside cut x k (left_by_jobs jobs) (left_by_jobs (map (cut_job cut) jobs)) z
