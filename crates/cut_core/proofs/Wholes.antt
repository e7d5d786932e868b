-- A history with parts, beside what its jobs alone tell: that is cut by a cut that keeps all.
use Rattle.std.specs.List.{filter, AllZip}
use Rattle.std.proofs.Common.{◌≡◌, ℕ, ◌≤◌, List, [], ◌∷◌, map, length, true, Option, Some, None, refl, sym, ap, ◌∙◌, subst}
use Rattle.std.proofs.lemmas.List.Elements.{filter_agree}
use Rattle.ident_core.specs.declared.identity.Identity.{Identity}
use Rattle.ident_core.specs.declared.range.Sighting.{Sighting}
use Rattle.ident_core.specs.Among.{Among}
use Rattle.ident_core.specs.HeadFields.{zero_key}
use Rattle.card_core.specs.Verdict.{verdict}
use Rattle.job_core.specs.JobFields.{CrlMeaning, JobFields}
use Rattle.universe_core.specs.Jobs.{Entry}
use Rattle.universe_core.specs.Formats.{JobIn}
use Rattle.universe_core.specs.History.{Release, seen, sightings}
use Rattle.history_core.specs.Bases.{release_cut, releases_cut, base_at}
use Rattle.history_core.specs.Truth.{truth}
use Rattle.history_core.proofs.Cuts.{cut_by_everything}
use Rattle.publication_core.specs.Histories.{History, of_jobs, rebased, IsHistory, parts_of, releases_of}
use Rattle.publication_core.proofs.Unique.{same_bases}
use Rattle.place_core.specs.Cuts.{Cut, is_kept, everything}
use Rattle.piece_core.specs.Cuts.{keeps_entry}
use Rattle.cut_core.specs.Cutting.{cut_job, cut_in, IsCut}
use Rattle.cut_core.specs.Courses.{Course, from_jobs, from_base, left, cut_course, course_of}
use Rattle.cut_core.proofs.Filters.{filter_all}
use Rattle.cut_core.proofs.Releases.{sightings_beside, truth_beside}
use Rattle.cut_core.proofs.Again.{release_again}
use Rattle.cut_core.proofs.Bases.{release_is_cut, base_cut}
use Rattle.cut_core.proofs.Courses.{after_beside, history_beside, beside_verdict, cut_verdict}

entry_kept : (o : Option Entry) → keeps_entry everything o ≡ true
entry_kept None = refl
entry_kept (Some e) = refl

job_whole : (job : JobFields) → cut_job everything job ≡ job
job_whole job =
    ap (λ (cs : List CrlMeaning). record job { crls = cs; entries = filter (keeps_entry everything) job.entries }) (filter_all job.crls)
    ∙ ap (λ (es : List (Option Entry)). record job { entries = es })
    (filter_agree (keeps_entry everything) (λ o. true) entry_kept job.entries ∙ filter_all job.entries)

jobs_whole : (jobs : List JobIn) → map (cut_in everything) jobs ≡ jobs
jobs_whole [] = refl
jobs_whole (j ∷ jobs) =
    ap (λ (job : JobFields). record j { job = job } ∷ map (cut_in everything) jobs) (job_whole j.job)
    ∙ ap (λ (js : List JobIn). j ∷ js) (jobs_whole jobs)

course_whole : (c : Course) → cut_course everything c ≡ c
course_whole (from_jobs jobs) = ap from_jobs (jobs_whole jobs)
course_whole (from_base c moment kept jobs) =
    ap (λ (d : Course). from_base d moment kept (map (cut_in everything) jobs)) (course_whole c)
    ∙ ap (from_base c moment kept) (jobs_whole jobs)

-- what is kept of releases beside those with parts
rest_beside : (cut : Cut) (rs qs : List Release) → AllZip (IsCut everything) rs qs → AllZip (IsCut cut) rs (releases_cut cut qs)
unfolding releases_cut
rest_beside cut [] [] z = z
rest_beside cut [] (q ∷ qs) z = absurd z
rest_beside cut (r ∷ rs) [] z = absurd z
rest_beside cut (r ∷ rs) (q ∷ qs) z =
    (release_again everything cut r q (release_cut cut q) z.0 (release_is_cut cut q), rest_beside cut rs qs z.1)

-- what is cut of a release is cut of the same with another part
release_whole : (cut : Cut) (w r q : Release) → IsCut everything w r → IsCut cut w q → IsCut cut r q
release_whole cut w r q e c = record {
  epoch = c.epoch ∙ sym e.epoch;
  ranges = c.ranges ∙ sym e.ranges;
  issuers = c.issuers ∙ ap (filter cut.takes) (sym (e.issuers ∙ filter_all w.issuers));
  lists = λ x k. c.lists x k ∙ sym (e.lists x refl);
  shown = c.shown ∙ ap (filter (λ (e : Entry). is_kept cut e.id)) (sym (e.shown ∙ filter_all w.shown));
  accepted = c.accepted ∙ ap (filter (is_kept cut)) (sym (e.accepted ∙ filter_all w.accepted));
  revoked = c.revoked ∙ ap (filter (is_kept cut)) (sym (e.revoked ∙ filter_all w.revoked));
}

releases_whole : (cut : Cut) (ws rs qs : List Release) → AllZip (IsCut everything) ws rs → AllZip (IsCut cut) ws qs → AllZip (IsCut cut) rs qs
releases_whole cut [] [] [] e c = tt
releases_whole cut [] [] (q ∷ qs) e c = absurd c
releases_whole cut [] (r ∷ rs) qs e c = absurd e
releases_whole cut (w ∷ ws) [] qs e c = absurd e
releases_whole cut (w ∷ ws) (r ∷ rs) [] e c = absurd c
releases_whole cut (w ∷ ws) (r ∷ rs) (q ∷ qs) e c = (release_whole cut w r q e.0 c.0, releases_whole cut ws rs qs e.1 c.1)

module _ (h : History) where
  beside : AllZip (IsCut everything) (left (course_of h)) (releases_of h)
  beside = history_beside everything (course_of h) h (sym (course_whole (course_of h)))

  pub whole_truth : (x : Identity) → truth (releases_of h) x ≡ truth (left (course_of h)) x
  whole_truth x = truth_beside everything x refl (left (course_of h)) (releases_of h) beside

  pub whole_sightings : (x : Identity) → sightings x (seen (releases_of h)) ≡ sightings x (seen (left (course_of h)))
  whole_sightings x = sightings_beside everything x refl (left (course_of h)) (releases_of h) beside

  -- a cut history beside the whole one
  pub cut_beside : (cut : Cut) (kept : History) → course_of kept ≡ cut_course cut (course_of h) → AllZip (IsCut cut) (releases_of h) (releases_of kept)
  cut_beside cut kept e =
      releases_whole cut (left (course_of h)) (releases_of h) (releases_of kept) beside (history_beside cut (course_of h) kept e)

-- ---- a chain that is begun anew by what is kept of a history, beside the whole, begun anew

module _ (cut : Cut) (c : Course) (moment : ℕ) (jobs : List JobIn) where
  abbrev begun : Course
  begun = from_base c moment everything jobs

  abbrev split : Course
  split = from_base c moment cut (map (cut_in cut) jobs)

  abbrev whole : Release
  whole = base_at moment (releases_cut everything (left c)) zero_key

  base_split : (h : History) (trailer : List ℕ) → course_of h ≡ c → IsCut cut whole (base_at moment (releases_cut cut (releases_of h)) trailer)
  base_split h trailer e =
      base_cut cut moment (releases_cut everything (left c)) (releases_cut cut (releases_of h))
      (subst (λ (rs : List Release). AllZip (IsCut cut) rs (releases_cut cut (releases_of h))) (sym (cut_by_everything (left c)))
      (rest_beside cut (left c) (releases_of h) (history_beside everything c h (e ∙ sym (course_whole c))))) zero_key trailer

  pub split_beside : (h : History) → course_of h ≡ split → AllZip (IsCut cut) (left begun) (releases_of h)
  split_beside (of_jobs ps) e = absurd cc
  split_beside (rebased h n w s ps) e =
      let same = same_bases (course_of h) c n moment w cut (map (λ p. p.job) ps) (map (cut_in cut) jobs) e in
      let by_moment : IsCut cut whole (base_at moment (releases_cut w (releases_of h)) s.trailer) =
      subst (λ (v : Cut). IsCut cut whole (base_at moment (releases_cut v (releases_of h)) s.trailer)) (sym same.2) (base_split h s.trailer same.0) in
      let base : IsCut cut whole (base_at n (releases_cut w (releases_of h)) s.trailer) =
      subst (λ (m : ℕ). IsCut cut whole (base_at m (releases_cut w (releases_of h)) s.trailer)) (sym same.1) by_moment in
      after_beside cut (whole ∷ []) (base_at n (releases_cut w (releases_of h)) s.trailer ∷ []) jobs ps (base, tt) same.3

  -- the verdict of its parts is the truth of the whole, begun anew
  pub split_verdict : (h : History) (x : Identity) (ss : List Sighting) → IsHistory h → course_of h ≡ split → is_kept cut x ≡ true
      → 1 ≤ length ss → ((s : Sighting) → Among ss s → Among (sightings x (seen (left begun))) s)
      → verdict (map (λ s. s.part) (parts_of h)) x ss ≡ truth (left begun) x
  split_verdict h x ss is e = beside_verdict cut (left begun) h x ss (split_beside h e) is

-- ---- the truth

-- the verdict of the parts of a cut history is the truth of the whole one, where that has parts too
pub whole_verdict : (cut : Cut) (whole kept : History) (x : Identity) (ss : List Sighting)
    → IsHistory kept → course_of kept ≡ cut_course cut (course_of whole) → is_kept cut x ≡ true → 1 ≤ length ss
    → ((s : Sighting) → Among ss s → Among (sightings x (seen (releases_of whole))) s)
    → verdict (map (λ s. s.part) (parts_of kept)) x ss ≡ truth (releases_of whole) x
whole_verdict cut whole kept x ss is e k some asked =
    cut_verdict cut (course_of whole) kept x ss e is k some
    (λ s a. subst (λ (ts : List Sighting). Among ts s) (whole_sightings whole x) (asked s a))
    ∙ sym (whole_truth whole x)
