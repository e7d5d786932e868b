-- Something comes of each command, whatever its files hold.
use Rattle.std.proofs.Common.{◌≡◌, ◌≢◌, ◌≤◌, ℕ, suc, inl, inr, List, [], ◌∷◌, ◌++◌, map, length, Option, Some, None, Result, Ok, Err, refl, ap, arith}
use Rattle.std.specs.List.{All}
use Rattle.std.specs.Prelude.{IsOk}
use Rattle.std.proofs.lemmas.List.Elements.{All-nil, All-cons, All-head, All-tail}
use Rattle.octets_core.proofs.Texts.{IsBytes}
use Rattle.input_core.specs.Queries.{Query}
use Rattle.card_core.specs.PartFields.{PartFields}
use Rattle.part_text.specs.SealedFields.{SealedFields}
use Rattle.job_core.specs.declared.bounds.Limits.{Limits}
use Rattle.job_core.specs.declared.bounds.TheConstants.Limits.{PUBLISHED}
use Rattle.job_core.specs.JobFields.{CrlMeaning, JobFields}
use Rattle.job_core.specs.Fitting.{FitsFields, FitsPublishing, IsWithinLimits}
use Rattle.job_core.specs.JobMeaning.{job_of}
use Rattle.place_core.specs.Cuts.{Cut}
use Rattle.ledger_core.specs.LedgerFields.{LedgerFields}
use Rattle.universe_core.specs.Formats.{in_format}
use Rattle.universe_core.specs.Ledgers.{no_ledger, ledger_of}
use Rattle.publication_core.specs.declared.fault.PublishFault.{PublishFault}
use Rattle.publication_core.specs.Formats.{current}
use Rattle.publication_core.specs.Histories.{Published, History, of_jobs, with_job, IsHistory, releases_of}
use Rattle.publication_core.specs.Publishing.{PublicationFields, Publishes}
use Rattle.publication_core.specs.declared.base_fault.BaseFault.{BaseFault}
use Rattle.publication_core.specs.Rebasing.{BasePublicationFields, PublishesBase}
use Rattle.word_core.specs.declared.command.Command.{Command}
use Rattle.word_core.specs.declared.command.Command.TheVariants as commands
use Rattle.audit_core.specs.declared.auditing.Audited.{Audited}
use Rattle.audit_core.specs.declared.fault.AuditFault.{AuditFault}
use Rattle.audit_core.specs.declared.fault.AuditFault.TheVariants.{NoMemory}
use Rattle.audit_core.specs.Auditing.{IsAuditable, entries_of, IsFound}
use Rattle.word_core.specs.declared.command.{Snapshot.Snapshot, Delta.Delta, Rebase.Rebase, Rehearse.Rehearse}
use Rattle.word_core.specs.declared.command.{Audit.Audit}
use Rattle.word_core.specs.Names.{HasFewJobs}
use Rattle.input_core.specs.Inputs.{Inputs, rest_of}
use Rattle.job_core.specs.declared.fault.JobFault.{JobFault}
use Rattle.input_core.specs.Faults.{of_job}
use Rattle.input_core.specs.Readings.{faulted, queries_in, job_in, ledger_in, store_in}
use Rattle.command_core.specs.ReplyFields.{Done, NamedFault, ReplyFields}
use Rattle.command_core.specs.Faults.{of_publishing}
use Rattle.command_core.proofs.Results.{ok_same, not_ok}
use Rattle.command_core.specs.Commands.{named, input, published_as, rehearsed}
use Rattle.command_core.specs.Commands.{MakesPart, MakesSnapshot, MakesDelta, MakesRehearsal, Makes}
use Rattle.command_core.specs.Commands.{AreJobs}
use Rattle.command_core.specs.Audits.{audit_jobs, audited_as, MakesAudit}
use Rattle.command_core.specs.Rebasings.{cut_without, rebased_as, MakesRebase}
use Rattle.command_core.specs.Steps.{RehearsesOn}
use Rattle.command_core.specs.Replies.{usage, reply_of, IsReplyOver, IsOctets, AreOctets}
use Rattle.command_core.proofs.AuditsMade.{AreAccepted, audit_jobs_are}
use Rattle.command_core.proofs.Prefixes.{first_of}

-- a job that is read under a name
pub job_value : (name : List ℕ) (job : JobFields) (r : Result JobFields JobFault) → named name (faulted of_job r) ≡ Ok job → r ≡ Ok job
job_value name job (Ok x) h = ap (λ (j : JobFields). Ok j) (ok_same {E = NamedFault} x job h)
job_value name job (Err e) h = absurd (not_ok job (record { name = name; fault = of_job e }) h)

-- What the layers promise: something comes of each job behind each ledger, and of each rebase of one; a job that is read
-- fits, and one that is published goes on with the history.
pub record Existence : Type 0 where
  pub something : (ledger : LedgerFields) (job : JobFields) → (o : Result PublicationFields PublishFault) × Publishes ledger job o
  pub rebases : (ledger : LedgerFields) (moment : ℕ) (cut : Cut) → (o : Result BasePublicationFields BaseFault) × PublishesBase ledger moment cut o
  pub fits : (limits : Limits) (bytes : List ℕ) (job : JobFields) → IsBytes bytes → limits.ranges ≤ 1024 → job_of limits bytes ≡ Ok job → FitsFields job
  pub within : (limits : Limits) (bytes : List ℕ) (job : JobFields) → IsBytes bytes → job_of limits bytes ≡ Ok job → IsWithinLimits limits job
  pub next : (h : History) (job : JobFields) (p : PublicationFields) → IsHistory h → FitsPublishing job → IsWithinLimits PUBLISHED job
      → Publishes (ledger_of (releases_of h)) job (Ok p) → IsHistory (with_job h (in_format current job) p.sealed)
  pub found : (parts : List PartFields) (jobs : List JobFields) → length jobs ≤ 64 → All IsAuditable jobs → entries_of jobs ≤ 4194304
      → (r : Result Audited AuditFault) × IsFound parts jobs r × (r ≢ Err NoMemory)

module _ (layers : Existence) where
  job_fits : (name : List ℕ) (given : Option (List ℕ)) (job : JobFields) → IsOctets given → input name job_in given ≡ Ok job
      → FitsFields job × IsWithinLimits PUBLISHED job
  job_fits name None job octets is = absurd cc
  job_fits name (Some bytes) job octets is =
      let read = job_value name job (job_of PUBLISHED bytes) is in
      (layers.fits PUBLISHED bytes job octets (omega arith) read, layers.within PUBLISHED bytes job octets read)

  -- ---- publishing

  part_made : (name part ledger : List ℕ) (before : LedgerFields) (job : JobFields) → FitsFields job × IsWithinLimits PUBLISHED job
      → (o : Result Done NamedFault) × MakesPart name part ledger before job o
  part_made name part ledger before job facts =
      let r = layers.something before job in
      (published_as name part ledger r.0, record { fits = facts.0; limits = facts.1; result = r.0; publishes = r.1; is = refl })

  snapshot_made : (s : Snapshot) (r : Result JobFields NamedFault) → ((job : JobFields) → r ≡ Ok job → FitsFields job × IsWithinLimits PUBLISHED job)
      → (o : Result Done NamedFault) × MakesSnapshot s r o
  snapshot_made s (Ok job) facts = part_made s.job s.part s.ledger no_ledger job (facts job refl)
  snapshot_made s (Err e) facts = (Err e, refl)

  delta_made : (d : Delta) (r : Result JobFields NamedFault) (l : Result LedgerFields NamedFault)
      → ((job : JobFields) → r ≡ Ok job → FitsFields job × IsWithinLimits PUBLISHED job) → (o : Result Done NamedFault) × MakesDelta d r l o
  delta_made d (Ok job) (Ok l) facts = part_made d.job d.part d.new_ledger l job (facts job refl)
  delta_made d (Ok job) (Err e) facts = (Err e, refl)
  delta_made d (Err e) l facts = (Err e, refl)

  rebase_made : (b : Rebase) (l : Result LedgerFields NamedFault) → (o : Result Done NamedFault) × MakesRebase b l o
  rebase_made b (Ok l) =
      let r = layers.rebases l b.moment (cut_without b.left) in
      (rebased_as b r.0, record { result = r.0; publishes = r.1; is = refl })
  rebase_made b (Err e) = (Err e, refl)

  -- ---- rehearsing

  abbrev On : List Query → List Published → List (List ℕ) → Inputs → Type 0
  On queries ps names inputs = (o : Result Done NamedFault) × RehearsesOn queries ps names inputs o

  -- what comes of the files behind one more job
  abbrev OnAfter : List Query → List Published → List (List ℕ) → Inputs → Type 0
  OnAfter queries ps names inputs = (p : Published) → IsHistory (of_jobs (ps ++ p ∷ [])) → On queries (ps ++ p ∷ []) names inputs

  -- a job that was read goes on, or is refused
  job_on : (queries : List Query) (ps : List Published) (name : List ℕ) (names : List (List ℕ)) (at : Inputs) (job : JobFields) → input name job_in (at 0) ≡ Ok job
      → FitsFields job × IsWithinLimits PUBLISHED job → IsHistory (of_jobs ps) → OnAfter queries ps names (rest_of at)
      → (r : Result PublicationFields PublishFault) → Publishes (ledger_of (releases_of (of_jobs ps))) job r → On queries ps (name ∷ names) at
  job_on queries ps name names at job is facts is_history rest (Err fault) publishes =
      let e : NamedFault = record { name = name; fault = of_publishing fault } in
      (Err e, inl (e, inr (job, fault, is, publishes, refl), refl))
  job_on queries ps name names at job is facts is_history rest (Ok made) publishes =
      let p : Published = record { job = in_format current job; sealed = made.sealed } in
      let next : IsHistory (of_jobs (ps ++ p ∷ [])) = layers.next (of_jobs ps) job made is_history facts.0.publishing facts.1 publishes in
      let o = rest p next in
      (o.0, inr (p, (is, refl), facts.0, next, o.1))

  file_on : (queries : List Query) (ps : List Published) (name : List ℕ) (names : List (List ℕ)) (at : Inputs) → AreOctets at → IsHistory (of_jobs ps)
      → OnAfter queries ps names (rest_of at) → (r : Result JobFields NamedFault) → input name job_in (at 0) ≡ r → On queries ps (name ∷ names) at
  file_on queries ps name names at octets is_history rest (Err e) is = (Err e, inl (e, inl is, refl))
  file_on queries ps name names at octets is_history rest (Ok job) is =
      let o = layers.something (ledger_of (releases_of (of_jobs ps))) job in
      job_on queries ps name names at job is (job_fits name (at 0) job (octets 0) is) is_history rest o.0 o.1

  files_on : (queries : List Query) (ps : List Published) (names : List (List ℕ)) (at : Inputs) → AreOctets at → IsHistory (of_jobs ps) → On queries ps names at
  files_on queries ps [] at octets is_history = (Ok (rehearsed queries ps), refl)
  files_on queries ps (name ∷ names) at octets is_history =
      file_on queries ps name names at octets is_history
      (λ p is_more. files_on queries (ps ++ p ∷ []) names (rest_of at) (λ i. octets (suc i)) is_more)
      (input name job_in (at 0)) refl

  rehearsal_made : (r : Rehearse) (queries : Result (List Query) NamedFault) (at : Inputs)
      → AreOctets at → (o : Result Done NamedFault) × MakesRehearsal r queries at o
  rehearsal_made r (Ok queries) at octets =
      let o = files_on queries [] r.jobs at octets tt in
      (o.0, first_of queries r.jobs at o.0 o.1)
  rehearsal_made r (Err e) at octets = (Err e, refl)

  -- ---- auditing

  abbrev CrlsAccepted : JobFields → Type 0
  CrlsAccepted job = All (λ (c : CrlMeaning). IsOk c.outcome) job.crls

  -- jobs that were read can be audited, where their CRLs are accepted
  auditable : (names : List (List ℕ)) (at : Inputs) (jobs : List JobFields) → AreJobs names at jobs → AreOctets at → AreAccepted jobs → All IsAuditable jobs
  auditable [] at [] are octets accepted = All-nil IsAuditable
  auditable [] at (job ∷ jobs) are octets accepted = absurd are
  auditable (name ∷ names) at [] are octets accepted = absurd are
  auditable (name ∷ names) at (job ∷ jobs) are octets accepted =
      let facts = job_fits name (at 0) job (octets 0) are.0 in
      let limits = facts.1 in
      let one : IsAuditable job = record {
        ranges = facts.0.publishing.ranges_fit;
        limits = record { ranges = limits.ranges; crls = limits.crls; entries = limits.entries };
        crls = All-head CrlsAccepted job jobs accepted;
      } in
      All-cons IsAuditable job jobs one (auditable names (rest_of at) jobs are.1 (λ i. octets (suc i)) (All-tail CrlsAccepted job jobs accepted))

  audit_by : (a : Audit) (parts : List SealedFields) (at : Inputs) → length a.jobs ≤ 64 → AreOctets at
      → (jobs : Result (List JobFields) NamedFault) → audit_jobs a.jobs at ≡ jobs → (o : Result Done NamedFault) × MakesAudit a (Ok parts) jobs o
  audit_by a parts at few octets (Err e) is = (Err e, refl)
  audit_by a parts at few octets (Ok jobs) is =
      let f = audit_jobs_are a.jobs at jobs is in
      let same = f.many in
      let r = layers.found (map (λ (s : SealedFields). s.part) parts) jobs (omega (arith, few, same)) (auditable a.jobs at jobs f.are octets f.accepted) f.within.entries in
      (audited_as a jobs r.0, record { result = r.0; found = r.1; settled = r.2; is = refl })

  audit_made : (a : Audit) (store : Result (List SealedFields) NamedFault) (at : Inputs) → length a.jobs ≤ 64 → AreOctets at
      → (o : Result Done NamedFault) × MakesAudit a store (audit_jobs a.jobs at) o
  audit_made a (Ok parts) at few octets = audit_by a parts at few octets (audit_jobs a.jobs at) refl
  audit_made a (Err e) at few octets = (Err e, refl)

  -- ---- commands

  pub outcome_exists : (c : Command) (at : Inputs) → c ≢ commands.Usage → HasFewJobs c → AreOctets at
      → (o : Result Done NamedFault) × Makes c at o
  outcome_exists commands.Usage at some few octets = absurd (some refl)
  outcome_exists (commands.Snapshot s) at some few octets = snapshot_made s (input s.job job_in (at 0)) (λ job is. job_fits s.job (at 0) job (octets 0) is)
  outcome_exists (commands.Delta t) at some few octets =
      delta_made t (input t.job job_in (at 0)) (input t.ledger ledger_in (at 1)) (λ job is. job_fits t.job (at 0) job (octets 0) is)
  outcome_exists (commands.Rebase b) at some few octets = rebase_made b (input b.ledger ledger_in (at 0))
  outcome_exists (commands.Rehearse r) at some few octets = rehearsal_made r (input r.queries queries_in (at 0)) (rest_of at) (λ i. octets (suc i))
  outcome_exists (commands.Audit a) at some few octets = audit_made a (input a.store store_in (at 0)) (rest_of at) few (λ i. octets (suc i))
  outcome_exists c at some few octets = (_, refl)

  made_reply : (c : Command) (inputs : Inputs) → (o : Result Done NamedFault) × Makes c inputs o → (r : ReplyFields) × IsReplyOver c inputs r
  made_reply c inputs o = (reply_of o.0, inr (o.0, o.1, refl))

  pub reply_exists : (c : Command) (inputs : Inputs) → HasFewJobs c → AreOctets inputs → (r : ReplyFields) × IsReplyOver c inputs r
  reply_exists commands.Usage inputs few octets = (usage, inl (refl, refl))
  reply_exists c inputs few octets = made_reply c inputs (outcome_exists c inputs (λ none. cc) few octets)
