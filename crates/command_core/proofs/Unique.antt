-- One thing comes of a command and its inputs, and there is one reply to it over files.
use Rattle.std.proofs.Common.{◌≡◌, ◌≢◌, ℕ, inl, inr, List, [], ◌∷◌, ◌++◌, map, Option, Result, Ok, Err, sym, ap, ◌∙◌, subst}
use Rattle.input_core.specs.Queries.{Query}
use Rattle.card_core.specs.PartFields.{PartFields}
use Rattle.part_text.specs.SealedFields.{SealedFields}
use Rattle.job_core.specs.JobFields.{JobFields}
use Rattle.place_core.specs.Cuts.{Cut}
use Rattle.ledger_core.specs.LedgerFields.{LedgerFields}
use Rattle.universe_core.specs.Formats.{JobIn, in_format}
use Rattle.universe_core.specs.History.{Release}
use Rattle.universe_core.specs.Ledgers.{ledger_of}
use Rattle.publication_core.specs.declared.fault.PublishFault.{PublishFault}
use Rattle.publication_core.specs.Formats.{current}
use Rattle.publication_core.specs.Histories.{Published, IsPartOf, IsAdmissible, History, of_jobs, with_jobs, IsHistory, releases_of}
use Rattle.publication_core.specs.Publishing.{PublicationFields, Publishes}
use Rattle.publication_core.specs.declared.base_fault.BaseFault.{BaseFault}
use Rattle.publication_core.specs.Rebasing.{BasePublicationFields, PublishesBase}
use Rattle.word_core.specs.declared.command.Command.{Command}
use Rattle.word_core.specs.declared.command.Command.TheVariants as commands
use Rattle.audit_core.specs.declared.auditing.Audited.{Audited}
use Rattle.audit_core.specs.declared.fault.AuditFault.{AuditFault}
use Rattle.audit_core.specs.declared.fault.AuditFault.TheVariants.{NoMemory}
use Rattle.audit_core.specs.Auditing.{IsFound}
use Rattle.word_core.specs.declared.command.{Snapshot.Snapshot, Delta.Delta, Rebase.Rebase, Rehearse.Rehearse}
use Rattle.word_core.specs.declared.command.{Audit.Audit}
use Rattle.command_core.specs.ReplyFields.{Done, NamedFault, ReplyFields}
use Rattle.input_core.specs.Inputs.{Inputs, rest_of}
use Rattle.input_core.specs.Readings.{queries_in, job_in, ledger_in, store_in}
use Rattle.command_core.specs.Commands.{input, published_as, MakesPart, MakesSnapshot, MakesDelta, IsFileRefused, IsReadMember, MakesRehearsal, Makes}
use Rattle.command_core.specs.Audits.{audit_jobs, audited_as, MakesAudit}
use Rattle.command_core.specs.Rebasings.{cut_without, rebased_as, MakesRebase}
use Rattle.command_core.specs.Steps.{RehearsesOn}
use Rattle.command_core.specs.Faults.{of_publishing}
use Rattle.command_core.specs.Replies.{reply_of, IsReplyOver}
use Rattle.publication_core.proofs.Fronts.{history_front}
use Rattle.command_core.proofs.Prefixes.{from_first}

-- One thing is published of a job behind a ledger.
abbrev pub OnePublication : Type 0
OnePublication = (ledger : LedgerFields) (job : JobFields) (a b : Result PublicationFields PublishFault) → Publishes ledger job a → Publishes ledger job b → a ≡ b

-- One thing comes of a rebase behind a ledger.
abbrev pub OneBase : Type 0
OneBase = (ledger : LedgerFields) (moment : ℕ) (cut : Cut) (a b : Result BasePublicationFields BaseFault) → PublishesBase ledger moment cut a
    → PublishesBase ledger moment cut b → a ≡ b

-- What is published is unique, a job of a history is admissible behind those before it, and each admissible job is
-- published.
pub record Publishing : Type 0 where
  pub one : OnePublication
  pub front : (h : History) (p : Published) (others : List Published) → IsHistory (with_jobs h (p ∷ others)) → IsAdmissible (releases_of h) p.job
  pub part : (rs : List Release) (j : JobIn) (a b : SealedFields) → IsPartOf rs j a → IsPartOf rs j b → a ≡ b
  pub complete : (h : History) (job : JobFields) → IsHistory h → IsAdmissible (releases_of h) (in_format current job)
      → (p : PublicationFields) × Publishes (ledger_of (releases_of h)) job (Ok p)

-- An audit finds one thing.
abbrev pub OneAudit : Type 0
OneAudit = (parts : List PartFields) (jobs : List JobFields) (a b : Result Audited AuditFault) → IsFound parts jobs a → IsFound parts jobs b → a ≢ Err NoMemory → b ≢ Err NoMemory → a ≡ b

-- What comes of an audit and of a rebase is unique.
pub record Others : Type 0 where
  pub audits : OneAudit
  pub bases : OneBase

module _ (publishing : Publishing) where
  one : OnePublication
  one = publishing.one

  part_unique : (job part ledger : List ℕ) (before : LedgerFields) (j : JobFields) (a b : Result Done NamedFault) → MakesPart job part ledger before j a → MakesPart job part ledger before j b → a ≡ b
  part_unique job part ledger before j a b x y = x.is ∙ ap (published_as job part ledger) (one before j x.result y.result x.publishes y.publishes) ∙ sym y.is

  snapshot_unique : (s : Snapshot) (r : Result JobFields NamedFault) (a b : Result Done NamedFault) → MakesSnapshot s r a → MakesSnapshot s r b → a ≡ b
  snapshot_unique s (Ok j) a b x y = part_unique s.job s.part s.ledger _ j a b x y
  snapshot_unique s (Err e) a b x y = x ∙ sym y

  delta_unique : (t : Delta) (r : Result JobFields NamedFault) (l : Result LedgerFields NamedFault) (a b : Result Done NamedFault) → MakesDelta t r l a → MakesDelta t r l b → a ≡ b
  delta_unique t (Ok j) (Ok l) a b x y = part_unique t.job t.part t.new_ledger l j a b x y
  delta_unique t (Ok j) (Err e) a b x y = x ∙ sym y
  delta_unique t (Err e) l a b x y = x ∙ sym y

  -- ---- rehearsals

  in_current : (j : JobIn) → j.format ≡ current → j ≡ in_format current j.job
  in_current j e = λ i. record { format = e i; job = j.job }

  -- a job that isn't published doesn't follow
  not_published : (ps : List Published) (p : Published) (others : List Published) (fault : PublishFault) → IsHistory (of_jobs ps) → p.job.format ≡ current
      → IsHistory (of_jobs (ps ++ p ∷ others)) → Publishes (ledger_of (releases_of (of_jobs ps))) p.job.job (Err fault) → ⊥
  not_published ps p others fault is format is_all not =
      let rs : List Release = releases_of (of_jobs ps) in
      let may = subst (IsAdmissible rs) (in_current p.job format) (publishing.front (of_jobs ps) p others is_all) in
      let made = publishing.complete (of_jobs ps) p.job.job is may in
      let h : ◌≡◌ {A = Result PublicationFields PublishFault} (Ok made.0) (Err fault) = one (ledger_of rs) p.job.job (Ok made.0) (Err fault) made.1 not in cc

  pub job_same : (x y : JobFields) (r : Result JobFields NamedFault) → r ≡ Ok x → r ≡ Ok y → x ≡ y
  job_same x y r h k = let g : ◌≡◌ {A = Result JobFields NamedFault} (Ok x) (Ok y) = sym h ∙ k in cc

  fault_same : (x y : NamedFault) (r : Result JobFields NamedFault) → r ≡ Err x → r ≡ Err y → x ≡ y
  fault_same x y r h k = let g : ◌≡◌ {A = Result JobFields NamedFault} (Err x) (Err y) = sym h ∙ k in cc

  not_both : (x : JobFields) (e : NamedFault) (r : Result JobFields NamedFault) → r ≡ Ok x → r ≡ Err e → ⊥
  not_both x e r h k = let g : ◌≡◌ {A = Result JobFields NamedFault} (Ok x) (Err e) = sym h ∙ k in cc

  publish_fault_same : (x y : PublishFault) → ◌≡◌ {A = Result PublicationFields PublishFault} (Err x) (Err y) → x ≡ y
  publish_fault_same x y h = cc

  refused_same : (h : History) (name : List ℕ) (given : Option (List ℕ)) (e f : NamedFault)
      → IsFileRefused h name given e → IsFileRefused h name given f → e ≡ f
  refused_same h name given e f (inl x) (inl y) = fault_same e f (input name job_in given) x y
  refused_same h name given e f (inl x) (inr (job, fault, is, not, same)) = absurd (not_both job e (input name job_in given) is x)
  refused_same h name given e f (inr (job, fault, is, not, same)) (inl y) = absurd (not_both job f (input name job_in given) is y)
  refused_same h name given e f (inr (job, fault, is, not, same)) (inr (other, wrong, is_other, not_other, same_other)) =
      let j : job ≡ other = job_same job other (input name job_in given) is is_other in
      let w : fault ≡ wrong = publish_fault_same fault wrong
      (one (ledger_of (releases_of h)) other (Err fault) (Err wrong)
      (subst (λ (k : JobFields). Publishes (ledger_of (releases_of h)) k (Err fault)) j not) not_other) in
      same ∙ ap (λ (k : PublishFault). record { name = name; fault = of_publishing k }) w ∙ sym same_other

  pub refused_follows : (ps : List Published) (name : List ℕ) (given : Option (List ℕ)) (e : NamedFault) (p : Published) (others : List Published)
      → IsHistory (of_jobs ps) → IsReadMember name given p → IsHistory (of_jobs (ps ++ p ∷ others)) → IsFileRefused (of_jobs ps) name given e → ⊥
  refused_follows ps name given e p others is is_job is_all (inl h) = not_both p.job.job e (input name job_in given) is_job.0 h
  refused_follows ps name given e p others is is_job is_all (inr (other, fault, is_other, not, same)) =
      not_published ps p others fault is is_job.1 is_all
      (subst (λ (k : JobFields). Publishes (ledger_of (releases_of (of_jobs ps))) k (Err fault)) (job_same other p.job.job (input name job_in given) is_other is_job.0) not)

  -- two members that are read of the same file have the same part
  pub member_same : (ps : List Published) (name : List ℕ) (given : Option (List ℕ)) (p q : Published) → IsReadMember name given p → IsReadMember name given q
      → IsHistory (of_jobs (ps ++ p ∷ [])) → IsHistory (of_jobs (ps ++ q ∷ [])) → p ≡ q
  member_same ps name given p q x y is is_other =
      let rs : List Release = releases_of (of_jobs ps) in
      let read : p.job.job ≡ q.job.job = job_same p.job.job q.job.job (input name job_in given) x.0 y.0 in
      let jobs : p.job ≡ q.job = λ i. record { format = (x.1 ∙ sym y.1) i; job = read i } in
      let sealed : p.sealed ≡ q.sealed = publishing.part rs q.job p.sealed q.sealed
      (subst (λ (j : JobIn). IsPartOf rs j p.sealed) jobs (history_front (of_jobs ps) (p ∷ []) is).1.1) (history_front (of_jobs ps) (q ∷ []) is_other).1.1 in
      λ i. record { job = jobs i; sealed = sealed i }

  rehearses_unique : (queries : List Query) (ps : List Published) (names : List (List ℕ)) (inputs : Inputs)
      (a b : Result Done NamedFault) → IsHistory (of_jobs ps) → RehearsesOn queries ps names inputs a → RehearsesOn queries ps names inputs b → a ≡ b
  rehearses_unique queries ps [] inputs a b is x y = x ∙ sym y
  rehearses_unique queries ps (name ∷ names) inputs a b is (inl (e, refused, x)) (inl (f, refused_too, y)) =
      x ∙ ap (λ (k : NamedFault). Err k) (refused_same (of_jobs ps) name (inputs 0) e f refused refused_too) ∙ sym y
  rehearses_unique queries ps (name ∷ names) inputs a b is (inl (e, refused, x)) (inr (p, is_job, fits, is_more, rest)) =
      absurd (refused_follows ps name (inputs 0) e p [] is is_job is_more refused)
  rehearses_unique queries ps (name ∷ names) inputs a b is (inr (p, is_job, fits, is_more, rest)) (inl (e, refused, y)) =
      absurd (refused_follows ps name (inputs 0) e p [] is is_job is_more refused)
  rehearses_unique queries ps (name ∷ names) inputs a b is (inr (p, is_job, fits, is_more, rest)) (inr (q, is_other, fits_other, is_more_other, rest_other)) =
      rehearses_unique queries (ps ++ p ∷ []) names (rest_of inputs) a b is_more rest
      (subst (λ (r : Published). RehearsesOn queries (ps ++ r ∷ []) names (rest_of inputs) b)
      (member_same ps name (inputs 0) q p is_other is_job is_more_other is_more) rest_other)

  rehearsal_unique : (r : Rehearse) (queries : Result (List Query) NamedFault) (inputs : Inputs) (a b : Result Done NamedFault)
      → MakesRehearsal r queries inputs a → MakesRehearsal r queries inputs b
      → a ≡ b
  rehearsal_unique r (Ok queries) inputs a b x y = rehearses_unique queries [] r.jobs inputs a b tt (from_first queries r.jobs inputs a x) (from_first queries r.jobs inputs b y)
  rehearsal_unique r (Err e) inputs a b x y = x ∙ sym y

  -- ---- audits

  audit_unique : OneAudit → (a : Audit) (store : Result (List SealedFields) NamedFault) (jobs : Result (List JobFields) NamedFault) (o p : Result Done NamedFault)
      → MakesAudit a store jobs o → MakesAudit a store jobs p → o ≡ p
  audit_unique audits a (Ok parts) (Ok jobs) o p x y =
      x.is ∙ ap (audited_as a jobs) (audits (map (λ (s : SealedFields). s.part) parts) jobs x.result y.result x.found y.found x.settled y.settled) ∙ sym y.is
  audit_unique audits a (Ok parts) (Err e) o p x y = x ∙ sym y
  audit_unique audits a (Err e) jobs o p x y = x ∙ sym y

  -- ---- rebases

  rebase_unique : OneBase → (r : Rebase) (l : Result LedgerFields NamedFault) (a b : Result Done NamedFault) → MakesRebase r l a → MakesRebase r l b → a ≡ b
  rebase_unique bases r (Ok l) a b x y = x.is ∙ ap (rebased_as r) (bases l r.moment (cut_without r.left) x.result y.result x.publishes y.publishes) ∙ sym y.is
  rebase_unique bases r (Err e) a b x y = x ∙ sym y

  -- ---- commands

  pub outcome_unique : Others → (c : Command) (inputs : Inputs) (a b : Result Done NamedFault) → Makes c inputs a → Makes c inputs b → a ≡ b
  outcome_unique others commands.Usage at a b x y = absurd x
  outcome_unique others (commands.Snapshot s) at a b x y = snapshot_unique s (input s.job job_in (at 0)) a b x y
  outcome_unique others (commands.Delta t) at a b x y = delta_unique t (input t.job job_in (at 0)) (input t.ledger ledger_in (at 1)) a b x y
  outcome_unique others (commands.Rebase r) at a b x y = rebase_unique others.bases r (input r.ledger ledger_in (at 0)) a b x y
  outcome_unique others (commands.Rehearse r) at a b x y = rehearsal_unique r (input r.queries queries_in (at 0)) (rest_of at) a b x y
  outcome_unique others (commands.Audit f) at a b x y = audit_unique others.audits f (input f.store store_in (at 0)) (audit_jobs f.jobs (rest_of at)) a b x y
  outcome_unique others c at a b x y = x ∙ sym y

  usage_makes : (c : Command) (inputs : Inputs) (o : Result Done NamedFault) → c ≡ commands.Usage → Makes c inputs o → ⊥
  usage_makes c inputs o is m = subst (λ (k : Command). Makes k inputs o) is m

  pub reply_unique : Others → (c : Command) (inputs : Inputs) (a b : ReplyFields) → IsReplyOver c inputs a → IsReplyOver c inputs b → a ≡ b
  reply_unique others c inputs a b (inl (u, x)) (inl (v, y)) = x ∙ sym y
  reply_unique others c inputs a b (inl (u, x)) (inr (o, m, y)) = absurd (usage_makes c inputs o u m)
  reply_unique others c inputs a b (inr (o, m, x)) (inl (v, y)) = absurd (usage_makes c inputs o v m)
  reply_unique others c inputs a b (inr (o, m, x)) (inr (k, n, y)) = x ∙ ap reply_of (outcome_unique others c inputs o k m n) ∙ sym y
