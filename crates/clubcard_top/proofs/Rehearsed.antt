-- What comes of commands that rehearse jobs: a history of them, and its truth.
use Rattle.std.proofs.Common.{◌≡◌, ℕ, inl, inr, List, [], ◌∷◌, ◌++◌, append_assoc, Option, Some, None, Result, Ok, Err, refl, sym, ap, ◌∙◌, subst}
use Rattle.std.specs.FinMap.{get}
use Rattle.std.specs.List.{AllZip}
use Rattle.std.specs.Prelude.{All}
use Rattle.std.proofs.lemmas.List.{append-nil}
use Rattle.std.proofs.lemmas.List.Elements.{All-nil, All-cons}
use Rattle.outside_core.specs.Files.{Files}
use Rattle.input_core.specs.Queries.{Query}
use Rattle.input_core.specs.QueryReading.{queries_in as queries_of}
use Rattle.input_core.specs.declared.fault.QueriesFault.{QueriesFault}
use Rattle.job_core.specs.declared.bounds.TheConstants.Limits.{PUBLISHED}
use Rattle.job_core.specs.JobFields.{JobFields}
use Rattle.job_core.specs.Fitting.{FitsFields}
use Rattle.job_core.specs.JobMeaning.{job_of}
use Rattle.card_core.specs.declared.verdict.Verdict.{Verdict}
use Rattle.publication_core.specs.Histories.{Published, of_jobs, IsHistory}
use Rattle.word_core.specs.declared.command.Command.{Command}
use Rattle.word_core.specs.declared.command.Command.TheVariants as commands
use Rattle.word_core.specs.declared.command.Rehearse.{Rehearse}
use Rattle.line_core.specs.Lines.{line}
use Rattle.input_core.specs.declared.fault.FileFault.TheVariants as faults
use Rattle.input_core.specs.Faults.{of_queries}
use Rattle.input_core.specs.Readings.{faulted, queries_in, job_in}
use Rattle.command_core.specs.ReplyFields.{Done, NamedFault}
use Rattle.command_core.specs.Commands.{named, input, verdict_word, rehearsed, MakesRehearsal, Makes}
use Rattle.command_core.specs.Steps.{RehearsesOn}
use Rattle.command_core.specs.Replies.{held_under, held_by}
use Rattle.clubcard_top.specs.Headline.{HoldsJob, HoldsMember, HoldsQueries, AsksToRehearse, IsRehearsed}
use Rattle.command_core.proofs.Existing.{job_value}
use Rattle.command_core.proofs.Results.{ok_same, not_ok}
use Rattle.command_core.proofs.Unique.{refused_follows, member_same}
use Rattle.clubcard_top.proofs.Made.{Layers, job_input}
use Rattle.command_core.proofs.Chains.{first_jobs}
use Rattle.command_core.proofs.Prefixes.{from_first}

-- ---- what is read

job_held : (files : Files) (name : List ℕ) (job : JobFields) (given : Option (List ℕ)) → get files name ≡ given → input name job_in given ≡ Ok job → HoldsJob files name job
job_held files name job None held h = absurd (not_ok job (record { name = name; fault = faults.Unread }) h)
job_held files name job (Some b) held h = (b, held, job_value name job (job_of PUBLISHED b) h)

queries_value : (name : List ℕ) (queries : List Query) (r : Result (List Query) QueriesFault) → named name (faulted of_queries r) ≡ Ok queries → r ≡ Ok queries
queries_value name queries (Ok x) h = ap (λ (q : List Query). Ok q) (ok_same {E = NamedFault} x queries h)
queries_value name queries (Err e) h = absurd (not_ok queries (record { name = name; fault = of_queries e }) h)

queries_held : (files : Files) (name : List ℕ) (queries : List Query) (given : Option (List ℕ)) → get files name ≡ given → input name queries_in given ≡ Ok queries → HoldsQueries files name queries
queries_held files name queries None held h = absurd (not_ok queries (record { name = name; fault = faults.Unread }) h)
queries_held files name queries (Some b) held h = (b, held, queries_value name queries (queries_of b) h)

queries_input : (files : Files) (name : List ℕ) (queries : List Query) → HoldsQueries files name queries → input name queries_in (get files name) ≡ Ok queries
queries_input files name queries h = rw h.1 (ap (λ (r : Result (List Query) QueriesFault). named name (faulted of_queries r)) h.2)

-- the job of a member fits its fields
abbrev Fits : Published → Type 0
Fits p = FitsFields p.job.job

module _ (layers : Layers) (files : Files) where
  -- ---- what was rehearsed

  -- the files hold these jobs, which are a history behind others
  pub record Follows (queries : List Query) (jobs : List Published) (names : List (List ℕ)) (d : Done) : Type 0 where
    pub others : List Published
    pub held : AllZip (HoldsMember files) names others
    pub fit : All Fits others
    pub is_history : IsHistory (of_jobs (jobs ++ others))
    pub done : d ≡ rehearsed queries (jobs ++ others)

  follows_none : (queries : List Query) (jobs : List Published) (d : Done) → IsHistory (of_jobs jobs) → d ≡ rehearsed queries jobs → Follows queries jobs [] d
  follows_none queries jobs d is same = record {
    others = [];
    held = tt;
    fit = All-nil Fits;
    is_history = subst (λ (ps : List Published). IsHistory (of_jobs ps)) (sym (append-nil jobs)) is;
    done = same ∙ ap (rehearsed queries) (sym (append-nil jobs));
  }

  follows_one : (queries : List Query) (jobs : List Published) (p : Published) (name : List ℕ) (names : List (List ℕ)) (d : Done) → HoldsMember files name p
      → Fits p → Follows queries (jobs ++ p ∷ []) names d → Follows queries jobs (name ∷ names) d
  follows_one queries jobs p name names d held fits f = record {
    others = p ∷ f.others;
    held = (held, f.held);
    fit = All-cons Fits p f.others fits f.fit;
    is_history = subst (λ (ps : List Published). IsHistory (of_jobs ps)) (append_assoc jobs (p ∷ []) f.others) f.is_history;
    done = f.done ∙ ap (rehearsed queries) (append_assoc jobs (p ∷ []) f.others);
  }

  follows : (queries : List Query) (jobs : List Published) (names : List (List ℕ)) (d : Done) → IsHistory (of_jobs jobs)
      → RehearsesOn queries jobs names (held_under files names) (Ok d) → Follows queries jobs names d
  follows queries jobs [] d is m = follows_none queries jobs d is (ok_same {E = NamedFault} d (rehearsed queries jobs) m)
  follows queries jobs (name ∷ names) d is (inl (e, refused, same)) = absurd (not_ok d e (sym same))
  follows queries jobs (name ∷ names) d is (inr (p, is_job, fits, is_more, rest)) =
      follows_one queries jobs p name names d (job_held files name p.job.job (get files name) refl is_job.0, is_job.1) fits
      (follows queries (jobs ++ p ∷ []) names d is_more rest)

  abbrev pub IsRehearsal : Command → Done → Type 0
  IsRehearsal asked d = (queries : List Query) × (jobs : List Published) × AsksToRehearse asked queries jobs files
      × IsRehearsed queries jobs × (d ≡ rehearsed queries jobs)

  rehearsed_as : (r : Rehearse) (d : Done) (queries : List Query) → HoldsQueries files r.queries queries → Follows queries [] r.jobs d → IsRehearsal (commands.Rehearse r) d
  rehearsed_as r d queries held f = (
    queries,
    f.others,
    (held, f.held),
    record {
      fit = f.fit;
      is_history = f.is_history;
      truths = λ q among asked. ap (λ (v : Verdict). line (verdict_word v)) (layers.truths (of_jobs f.others) q.identity q.sightings f.is_history asked.0 asked.1);
    },
    f.done,
  )

  rehearsed_by : (r : Rehearse) (d : Done) (queries : Result (List Query) NamedFault) → input r.queries queries_in (get files r.queries) ≡ queries
      → MakesRehearsal r queries (held_under files r.jobs) (Ok d)
      → IsRehearsal (commands.Rehearse r) d
  rehearsed_by r d (Ok queries) is m = rehearsed_as r d queries (queries_held files r.queries queries (get files r.queries) refl is)
      (follows queries [] r.jobs d tt (from_first queries r.jobs (held_under files r.jobs) (Ok d) m))
  rehearsed_by r d (Err e) is m = absurd (not_ok d e (sym m))

  pub rehearsed_law : (asked : Command) (r : Rehearse) (d : Done) → asked ≡ commands.Rehearse r → Makes asked (held_by asked files) (Ok d) → IsRehearsal asked d
  rehearsed_law asked r d is m =
      subst (λ (c : Command). IsRehearsal c d) (sym is)
      (rehearsed_by r d (input r.queries queries_in (get files r.queries)) refl (subst (λ (c : Command). Makes c (held_by c files) (Ok d)) is m))

  -- ---- histories are rehearsed

  goes_on : (queries : List Query) (jobs : List Published) (names : List (List ℕ)) (others : List Published) (o : Result Done NamedFault) → IsHistory (of_jobs jobs)
      → IsHistory (of_jobs (jobs ++ others)) → AllZip (HoldsMember files) names others → RehearsesOn queries jobs names (held_under files names) o
      → o ≡ Ok (rehearsed queries (jobs ++ others))
  goes_on queries jobs [] [] o is is_all held m = m ∙ ap (λ (ps : List Published). Ok (rehearsed queries ps)) (sym (append-nil jobs))
  goes_on queries jobs [] (q ∷ others) o is is_all held m = absurd held
  goes_on queries jobs (name ∷ names) [] o is is_all held m = absurd held
  goes_on queries jobs (name ∷ names) (q ∷ others) o is is_all held (inl (e, refused, same)) =
      absurd (refused_follows layers.publishing jobs name (get files name) e q others is (job_input files name q.job.job held.0.0, held.0.1) is_all refused)
  goes_on queries jobs (name ∷ names) (q ∷ others) o is is_all held (inr (p, is_job, fits, is_more, rest)) =
      let next : IsHistory (of_jobs (jobs ++ q ∷ [])) = first_jobs jobs q others is_all in
      let same : p ≡ q = member_same layers.publishing jobs name (get files name) p q is_job (job_input files name q.job.job held.0.0, held.0.1) is_more next in
      goes_on queries (jobs ++ q ∷ []) names others o next
      (subst (λ (ps : List Published). IsHistory (of_jobs ps)) (sym (append_assoc jobs (q ∷ []) others)) is_all) held.1
      (subst (λ (r : Published). RehearsesOn queries (jobs ++ r ∷ []) names (held_under files names) o) same rest)
      ∙ ap (λ (ps : List Published). Ok (rehearsed queries ps)) (append_assoc jobs (q ∷ []) others)

  pub done_law : (asked : Command) (queries : List Query) (jobs : List Published) (o : Result Done NamedFault)
      → IsHistory (of_jobs jobs) → AsksToRehearse asked queries jobs files
      → Makes asked (held_by asked files) o → o ≡ Ok (rehearsed queries jobs)
  done_law (commands.Rehearse r) queries jobs o is p m =
      goes_on queries [] r.jobs jobs o tt is p.1
      (from_first queries r.jobs (held_under files r.jobs) o (subst (λ (q : Result (List Query) NamedFault). MakesRehearsal r q (held_under files r.jobs) o)
      (queries_input files r.queries queries p.0) m))
  done_law asked queries jobs o is p m = absurd p
