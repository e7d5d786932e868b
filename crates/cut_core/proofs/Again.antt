-- What is cut is cut again.
use Rattle.std.specs.List.{filter}
use Rattle.std.proofs.Common.{◌≡◌, List, [], ◌∷◌, map, Bool, true, false, ◌&&◌, Option, Some, None, refl, sym, ap, ◌∙◌}
use Rattle.std.proofs.lemmas.Bool.{and_parts}
use Rattle.std.proofs.lemmas.List.Elements.{filter_agree}
use Rattle.ident_core.specs.declared.identity.Identity.{Identity}
use Rattle.job_core.specs.JobFields.{CrlMeaning, JobFields}
use Rattle.universe_core.specs.Jobs.{Entry}
use Rattle.universe_core.specs.Formats.{JobIn}
use Rattle.universe_core.specs.History.{Release}
use Rattle.place_core.specs.Cuts.{Cut, is_kept, both}
use Rattle.piece_core.specs.Cuts.{keeps_entry}
use Rattle.cut_core.specs.Cutting.{cut_job, cut_in, IsCut}
use Rattle.cut_core.specs.Courses.{Course, from_jobs, from_base, cut_course}
use Rattle.cut_core.proofs.Filters.{filter_both}

regrouped : (p q v w : Bool) → ((p && v) && (q && w)) ≡ ((p && q) && (v && w))
regrouped true true v w = refl
regrouped true false true w = refl
regrouped true false false w = refl
regrouped false q v w = refl

module _ (a b : Cut) where
  kept_again : (x : Identity) → (is_kept a x && is_kept b x) ≡ is_kept (both a b) x
  kept_again x = regrouped (a.takes x.issuer) (b.takes x.issuer) (a.chooses x) (b.chooses x)

  entry_again : (o : Option Entry) → (keeps_entry a o && keeps_entry b o) ≡ keeps_entry (both a b) o
  entry_again None = refl
  entry_again (Some e) = kept_again e.id

  ids_again : (xs : List Identity) → filter (is_kept b) (filter (is_kept a) xs) ≡ filter (is_kept (both a b)) xs
  ids_again xs =
      sym (filter_both (is_kept a) (is_kept b) xs) ∙ filter_agree (λ x. is_kept a x && is_kept b x) (is_kept (both a b)) kept_again xs

  shown_again : (es : List Entry)
      → filter (λ e. is_kept b e.id) (filter (λ e. is_kept a e.id) es) ≡ filter (λ e. is_kept (both a b) e.id) es
  shown_again es =
      sym (filter_both (λ (e : Entry). is_kept a e.id) (λ (e : Entry). is_kept b e.id) es)
      ∙ filter_agree (λ (e : Entry). is_kept a e.id && is_kept b e.id) (λ (e : Entry). is_kept (both a b) e.id) (λ e. kept_again e.id) es

  entries_again : (es : List (Option Entry)) → filter (keeps_entry b) (filter (keeps_entry a) es) ≡ filter (keeps_entry (both a b)) es
  entries_again es =
      sym (filter_both (keeps_entry a) (keeps_entry b) es)
      ∙ filter_agree (λ o. keeps_entry a o && keeps_entry b o) (keeps_entry (both a b)) entry_again es

  pub job_again : (job : JobFields) → cut_job b (cut_job a job) ≡ cut_job (both a b) job
  job_again job =
      ap (λ (cs : List CrlMeaning). record job { crls = cs; entries = filter (keeps_entry b) (filter (keeps_entry a) job.entries) })
      (sym (filter_both (λ (c : CrlMeaning). a.takes c.issuer) (λ (c : CrlMeaning). b.takes c.issuer) job.crls))
      ∙ ap (λ (es : List (Option Entry)). record (cut_job (both a b) job) { entries = es }) (entries_again job.entries)

  pub release_again : (r q s : Release) → IsCut a r q → IsCut b q s → IsCut (both a b) r s
  release_again r q s first second = record {
    epoch = second.epoch ∙ first.epoch;
    ranges = second.ranges ∙ first.ranges;
    issuers = second.issuers ∙ ap (filter b.takes) first.issuers ∙ sym (filter_both a.takes b.takes r.issuers);
    lists = λ x k.
        let p = and_parts (is_kept a x) (is_kept b x) (kept_again x ∙ k) in second.lists x p.1 ∙ first.lists x p.0;
    shown = second.shown ∙ ap (filter (λ (e : Entry). is_kept b e.id)) first.shown ∙ shown_again r.shown;
    accepted = second.accepted ∙ ap (filter (is_kept b)) first.accepted ∙ ids_again r.accepted;
    revoked = second.revoked ∙ ap (filter (is_kept b)) first.revoked ∙ ids_again r.revoked;
  }

  jobs_again : (jobs : List JobIn) → map (cut_in b) (map (cut_in a) jobs) ≡ map (cut_in (both a b)) jobs
  jobs_again [] = refl
  jobs_again (j ∷ jobs) =
      ap (λ (job : JobFields). record j { job = job } ∷ map (cut_in b) (map (cut_in a) jobs)) (job_again j.job)
      ∙ ap (λ (js : List JobIn). cut_in (both a b) j ∷ js) (jobs_again jobs)

  pub course_again : (c : Course) → cut_course b (cut_course a c) ≡ cut_course (both a b) c
  course_again (from_jobs jobs) = ap from_jobs (jobs_again jobs)
  course_again (from_base c moment without jobs) =
      ap (λ (d : Course). from_base d moment without (map (cut_in b) (map (cut_in a) jobs))) (course_again c)
      ∙ ap (from_base (cut_course (both a b) c) moment without) (jobs_again jobs)
