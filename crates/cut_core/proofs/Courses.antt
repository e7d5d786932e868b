-- Histories whose jobs are cut, beside the whole ones.
use Rattle.std.specs.List.{filter, filter_map, AllZip}
use Rattle.std.specs.Option.{option_map}
use Rattle.std.proofs.Common.{◌≡◌, ℕ, ◌≤◌, List, [], ◌∷◌, ◌++◌, map, length, Bool, true, false}
use Rattle.std.proofs.Common.{cond, Option, Some, None, Result, Ok, Err, refl, sym, ap, ◌∙◌, subst}
use Rattle.ident_core.specs.declared.identity.Identity.{Identity}
use Rattle.ident_core.specs.declared.range.Sighting.{Sighting}
use Rattle.ident_core.specs.HeadFields.{zero_key}
use Rattle.card_core.specs.Verdict.{verdict}
use Rattle.ident_core.specs.Among.{Among}
use Rattle.crl_core.specs.declared.crl.CrlFault.{CrlFault}
use Rattle.crl_core.specs.Outcome.{CrlFields}
use Rattle.job_core.specs.JobFields.{CrlMeaning, JobFields}
use Rattle.ident_core.proofs.Elements.{some_item}
use Rattle.universe_core.specs.Jobs.{Entry, Crl, JobFacts, crl_by, accepted_crl, facts_of}
use Rattle.universe_core.specs.Formats.{JobIn, undated, reads_dates, entries_in, facts_in}
use Rattle.universe_core.specs.History.{Release, past_of, released, releases, seen, sightings}
use Rattle.history_core.specs.Bases.{releases_cut, base_at}
use Rattle.history_core.specs.Truth.{truth}
use Rattle.publication_core.specs.Histories.{Published, History, of_jobs, rebased, IsHistory, parts_of, releases_of, releases_after, release_of}
use Rattle.publication_core.proofs.Unique.{same_jobs, same_bases}
use Rattle.publication_core.proofs.Verdicts.{history_verdict}
use Rattle.place_core.specs.Cuts.{Cut, is_kept}
use Rattle.piece_core.specs.Cuts.{keeps_entry}
use Rattle.cut_core.specs.Cutting.{cut_job, cut_in, cut_facts, IsCut}
use Rattle.cut_core.specs.Courses.{Course, from_jobs, from_base, left_after, left, cut_course, course_of}
use Rattle.cut_core.proofs.Filters.{filter_map_kept}
use Rattle.cut_core.proofs.Releases.{releases_beside, more_beside, sightings_beside, truth_beside}
use Rattle.cut_core.proofs.Bases.{base_beside}

-- ---- formats

the_issuer : (issuer : List ℕ) (o : Result CrlFields CrlFault) (d : Crl) → crl_by issuer o ≡ Some d → d.issuer ≡ issuer
the_issuer issuer (Ok c) d e =
    ap (λ (b : Crl). b.issuer) (sym (some_item (record { issuer = issuer; next_update = c.next_update; serials = c.serials }) d e))
the_issuer issuer (Err f) d e = absurd cc

module _ (cut : Cut) where
  undated_same : (o : Option Entry) → keeps_entry cut (option_map undated o) ≡ keeps_entry cut o
  undated_same None = refl
  undated_same (Some e) = refl

  undated_step : (o : Option Entry) (kept rest : List (Option Entry)) (b : Bool) → keeps_entry cut o ≡ b
      → map (option_map undated) kept ≡ filter (keeps_entry cut) rest
      → map (option_map undated) (cond b (o ∷ kept) kept) ≡ filter (keeps_entry cut) (option_map undated o ∷ rest)
  undated_step o kept rest true e next = rw (undated_same o ∙ e) (ap (λ (l : List (Option Entry)). option_map undated o ∷ l) next)
  undated_step o kept rest false e next = rw (undated_same o ∙ e) next

  undated_kept : (es : List (Option Entry))
      → map (option_map undated) (filter (keeps_entry cut) es) ≡ filter (keeps_entry cut) (map (option_map undated) es)
  undated_kept [] = refl
  undated_kept (o ∷ es) =
      undated_step o (filter (keeps_entry cut) es) (map (option_map undated) es) (keeps_entry cut o) refl (undated_kept es)

  entries_by : (b : Bool) (es : List (Option Entry))
      → cond b (filter (keeps_entry cut) es) (map (option_map undated) (filter (keeps_entry cut) es))
      ≡ filter (keeps_entry cut) (cond b es (map (option_map undated) es))
  entries_by true es = refl
  entries_by false es = undated_kept es

  -- the accepted CRLs of what is kept are those of the accepted ones that are kept
  pub crls_cut : (crls : List CrlMeaning) → filter_map accepted_crl (filter (λ (c : CrlMeaning). cut.takes c.issuer) crls) ≡ filter
      (λ (c : Crl). cut.takes c.issuer) (filter_map accepted_crl crls)
  crls_cut crls =
      filter_map_kept accepted_crl accepted_crl (λ (c : CrlMeaning). cut.takes c.issuer) (λ (c : Crl). cut.takes c.issuer) (λ c t. refl)
      (λ c d e. ap cut.takes (the_issuer c.issuer c.outcome d e)) crls

  -- what a cut job says is what the job says, cut
  pub said_cut : (job : JobFields) → facts_of (cut_job cut job) ≡ cut_facts cut (facts_of job)
  said_cut job =
      ap (λ (cs : List Crl). record (facts_of job) { crls = cs; entries = filter (keeps_entry cut) job.entries }) (crls_cut job.crls)

  -- and so it is in its format
  pub facts_cut : (j : JobIn) → facts_in (cut_in cut j) ≡ cut_facts cut (facts_in j)
  facts_cut j =
      ap (λ (es : List (Option Entry)). record (facts_of (cut_job cut j.job)) { entries = es })
      (entries_by (reads_dates j.format) j.job.entries)
      ∙ ap (λ (cs : List Crl). record (facts_in j) { crls = cs; entries = filter (keeps_entry cut) (entries_in j.format j.job.entries) })
      (crls_cut j.job.crls)

  all_facts_cut : (jobs : List JobIn) → map facts_in (map (cut_in cut) jobs) ≡ map (cut_facts cut) (map facts_in jobs)
  all_facts_cut [] = refl
  all_facts_cut (j ∷ jobs) = rw (facts_cut j, all_facts_cut jobs) refl

  -- ---- courses

  left_beside : (rs qs : List Release) (jobs : List JobIn) → AllZip (IsCut cut) rs qs
      → AllZip (IsCut cut) (left_after rs jobs) (left_after qs (map (cut_in cut) jobs))
  left_beside rs qs jobs z =
      subst (λ (js : List JobFacts). AllZip (IsCut cut) (left_after rs jobs) (releases (λ r j. zero_key) qs js)) (sym (all_facts_cut jobs))
      (releases_beside cut (λ r j. zero_key) (λ r j. zero_key) rs qs (map facts_in jobs) z)

  pub course_beside : (c : Course) → AllZip (IsCut cut) (left c) (left (cut_course cut c))
  course_beside (from_jobs jobs) = left_beside [] [] jobs tt
  course_beside (from_base c moment kept jobs) =
      left_beside (base_at moment (releases_cut kept (left c)) zero_key ∷ [])
      (base_at moment (releases_cut kept (left (cut_course cut c))) zero_key ∷ []) jobs
      (base_beside cut kept moment (left c) (left (cut_course cut c)) zero_key zero_key (course_beside c), tt)

  -- ---- histories with parts

  pub next_beside : (rs qs : List Release) (j : JobIn) (trailer other : List ℕ) → AllZip (IsCut cut) rs qs
      → AllZip (IsCut cut) (rs ++ released (past_of rs) (facts_in j) trailer ∷ []) (qs ++ released (past_of qs) (facts_in (cut_in cut j)) other ∷ [])
  next_beside rs qs j trailer other z =
      subst (λ (job : JobFacts). AllZip (IsCut cut) (rs ++ released (past_of rs) (facts_in j) trailer ∷ [])
      (qs ++ released (past_of qs) job other ∷ [])) (sym (facts_cut j))
      (more_beside cut rs qs (facts_in j) trailer other z)

  pub after_beside : (rs qs : List Release) (jobs : List JobIn) (ps : List Published) → AllZip (IsCut cut) rs qs
      → map (λ p. p.job) ps ≡ map (cut_in cut) jobs → AllZip (IsCut cut) (left_after rs jobs) (releases_after qs ps)
  unfolding releases
  after_beside rs qs [] [] z e = z
  after_beside rs qs [] (p ∷ ps) z e = absurd cc
  after_beside rs qs (j ∷ jobs) [] z e = absurd cc
  after_beside rs qs (j ∷ jobs) (p ∷ ps) z e =
      let same : p.job ≡ cut_in cut j = cc in
      let rest : map (λ p. p.job) ps ≡ map (cut_in cut) jobs = cc in
      let whole : List Release = rs ++ released (past_of rs) (facts_in j) zero_key ∷ [] in
      after_beside whole (qs ++ release_of qs p ∷ []) jobs ps
      (subst (λ (i : JobIn). AllZip (IsCut cut) whole (qs ++ released (past_of qs) (facts_in i) p.sealed.trailer ∷ [])) (sym same)
      (next_beside rs qs j zero_key p.sealed.trailer z)) rest

  pub history_beside : (c : Course) (h : History) → course_of h ≡ cut_course cut c → AllZip (IsCut cut) (left c) (releases_of h)
  history_beside (from_jobs jobs) (of_jobs ps) e = after_beside [] [] jobs ps tt (same_jobs (map (λ p. p.job) ps) (map (cut_in cut) jobs) e)
  history_beside (from_jobs jobs) (rebased h at w s ps) e = absurd cc
  history_beside (from_base c moment kept jobs) (of_jobs ps) e = absurd cc
  history_beside (from_base c moment kept jobs) (rebased h at w s ps) e =
      let same = same_bases (course_of h) (cut_course cut c) at moment w kept (map (λ p. p.job) ps) (map (cut_in cut) jobs) e in
      let whole : Release = base_at moment (releases_cut kept (left c)) zero_key in
      let by_moment : IsCut cut whole (base_at moment (releases_cut w (releases_of h)) s.trailer) =
      subst (λ (v : Cut). IsCut cut whole (base_at moment (releases_cut v (releases_of h)) s.trailer)) (sym same.2)
      (base_beside cut kept moment (left c) (releases_of h) zero_key s.trailer (history_beside c h same.0)) in
      let base : IsCut cut whole (base_at at (releases_cut w (releases_of h)) s.trailer) =
      subst (λ (m : ℕ). IsCut cut whole (base_at m (releases_cut w (releases_of h)) s.trailer)) (sym same.1) by_moment in
      after_beside (whole ∷ []) (base_at at (releases_cut w (releases_of h)) s.trailer ∷ []) jobs ps (base, tt) same.3

-- ---- the truth

-- the verdict of the parts of a history beside releases is their truth, asked with their accepted sightings
pub beside_verdict : (cut : Cut) (rs : List Release) (h : History) (x : Identity) (ss : List Sighting)
    → AllZip (IsCut cut) rs (releases_of h) → IsHistory h → is_kept cut x ≡ true → 1 ≤ length ss
    → ((s : Sighting) → Among ss s → Among (sightings x (seen rs)) s) → verdict (map (λ s. s.part) (parts_of h)) x ss ≡ truth rs x
beside_verdict cut rs h x ss z is k some asked =
    history_verdict h x ss is some (λ s a. subst (λ (ts : List Sighting). Among ts s)
    (sym (sightings_beside cut x k rs (releases_of h) z)) (asked s a))
    ∙ truth_beside cut x k rs (releases_of h) z

-- so is that of the parts of a cut history the truth of the whole one
pub cut_verdict : (cut : Cut) (c : Course) (h : History) (x : Identity) (ss : List Sighting)
    → course_of h ≡ cut_course cut c → IsHistory h → is_kept cut x ≡ true → 1 ≤ length ss
    → ((s : Sighting) → Among ss s → Among (sightings x (seen (left c))) s)
    → verdict (map (λ s. s.part) (parts_of h)) x ss ≡ truth (left c) x
cut_verdict cut c h x ss e = beside_verdict cut (left c) h x ss (history_beside cut c h e)
