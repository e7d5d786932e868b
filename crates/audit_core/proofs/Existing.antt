-- An audit finds something.
use Rattle.std.specs.List.{slice_get}
use Rattle.std.specs.Prelude.{All, Result, Ok, Err}
use Rattle.std.proofs.Common.{◌≡◌, ◌≢◌, ◌⊎◌, ℕ, zero, suc, ◌<◌, ◌≤◌, inl, inr, ⊎_elim, List, [], ◌∷◌, length, take, get_or, Bool, true, false}
use Rattle.std.proofs.Common.{Option, Some, None, refl, sym, ap, ◌∙◌, subst, arith}
use Rattle.std.proofs.lemmas.Option.{slice_get_within, slice_get-get_or}
use Rattle.card_core.specs.PartFields.{PartFields}
use Rattle.card_core.specs.Verdict.{verdict}
use Rattle.log_core.specs.declared.Entry.{Entry}
use Rattle.job_core.specs.JobFields.{JobFields}
use Rattle.ident_core.proofs.Elements.{some_item}
use Rattle.universe_core.specs.Jobs.{facts_of}
use Rattle.universe_core.specs.History.{past_of, class_of, seen, is_listed}
use Rattle.universe_core.specs.Ledgers.{ledger_of}
use Rattle.universe_core.specs.declared.class.Class.{Class}
use Rattle.universe_core.specs.declared.class.Class.TheVariants.{Unread, Uncovered, Unenrolled, Late, Accepted}
use Rattle.universe_core.specs.declared.fault.AdmitFault.{AdmitFault}
use Rattle.universe_core.specs.declared.fault.AdmitFault.TheVariants as admission
use Rattle.audit_core.specs.declared.auditing.Audited.{Audited}
use Rattle.audit_core.specs.declared.fault.AuditFault.{AuditFault}
use Rattle.audit_core.specs.declared.fault.AuditFault.TheVariants as faults
use Rattle.audit_core.specs.Auditing.{left_by_jobs, entries_of, IsAuditable, refusal_behind, AreAdmitted, IsRefused, IsAccepted, Agrees, IsFound}
use Rattle.audit_core.specs.Checking.{is_truth}
use Rattle.audit_core.proofs.Checks.{below_or_at}
use Rattle.audit_core.proofs.Verdicts.{truth_is, truth_is_not}
use Rattle.audit_core.proofs.Jobs.{accepted_in}
use Rattle.audit_core.proofs.Causes.{IsNamed, refused_named}

-- ---- the first place that fails

-- what holds up to a place, or fails there first
abbrev FirstOrAll : (ℕ → Type 0) → (ℕ → Type 0) → ℕ → Type 0
FirstOrAll P Q n = ((m : ℕ) → m < n → P m) ⊎ ((m : ℕ) × Q m × ((k : ℕ) → k < m → P k))

first_or_all : (P Q : ℕ → Type 0) → ((n : ℕ) → P n ⊎ Q n) → (n : ℕ) → FirstOrAll P Q n
first_or_all P Q test zero = inl (λ m lt. absurd (omega (arith, lt)))
first_or_all P Q test (suc n) =
    ⊎_elim
    (λ all. ⊎_elim (λ p. inl (λ m lt. ⊎_elim (λ b. all m b) (λ e. subst P (sym e) p) (below_or_at m n (omega (arith, lt))))) (λ q. inr (n, q, all)) (test n))
    (λ f. inr f) (first_or_all P Q test n)

-- ---- admission

module _ (jobs : List JobFields) where
  abbrev Admitted : ℕ → Type 0
  Admitted j = (job : JobFields) → slice_get jobs j ≡ Some job → refusal_behind (take j jobs) job ≡ None

  abbrev Refused : ℕ → Type 0
  Refused j = (job : JobFields) × (why : AdmitFault) × (slice_get jobs j ≡ Some job) × (refusal_behind (take j jobs) job ≡ Some why)

  refused_by : (j : ℕ) (job : JobFields) → slice_get jobs j ≡ Some job → (o : Option AdmitFault) → refusal_behind (take j jobs) job ≡ o → Admitted j ⊎ Refused j
  refused_by j job at None is = inl (λ other there. ap (refusal_behind (take j jobs)) (some_item other job (sym there ∙ at)) ∙ is)
  refused_by j job at (Some why) is = inr (job, why, at, is)

  job_by : (j : ℕ) (o : Option JobFields) → slice_get jobs j ≡ o → Admitted j ⊎ Refused j
  job_by j None none = inl (λ job at. absurd (let e : ◌≡◌ {A = Option JobFields} None (Some job) = sym none ∙ at in cc))
  job_by j (Some job) at = refused_by j job at (refusal_behind (take j jobs) job) refl

  admission_is : FirstOrAll Admitted Refused (length jobs)
  admission_is = first_or_all Admitted Refused (λ j. job_by j (slice_get jobs j) refl) (length jobs)

-- ---- agreement

accepted_or_not : (c : Class) → (c ≡ Accepted) ⊎ (c ≡ Accepted → ⊥)
accepted_or_not Unread = inr (λ h. cc)
accepted_or_not Uncovered = inr (λ h. cc)
accepted_or_not Unenrolled = inr (λ h. cc)
accepted_or_not Late = inr (λ h. cc)
accepted_or_not Accepted = inl refl

module _ (parts : List PartFields) (jobs : List JobFields) where
  -- of an entry
  abbrev Fine : ℕ → ℕ → Type 0
  Fine j n = (e : Entry) → IsAccepted jobs j n e → Agrees parts jobs e

  abbrev Wrong : ℕ → ℕ → Type 0
  Wrong j n = (e : Entry) × IsAccepted jobs j n e × (Agrees parts jobs e → ⊥)

  -- of a job
  abbrev AllFine : ℕ → Type 0
  AllFine j = (n : ℕ) → Fine j n

  abbrev SomeWrong : ℕ → Type 0
  SomeWrong j = (n : ℕ) × Wrong j n × ((m : ℕ) → m < n → Fine j m)

  said_by : (e : Entry) (b : Bool) → is_truth (verdict parts e.id (e.sighting ∷ [])) (is_listed (left_by_jobs jobs) e.id) ≡ b → Agrees parts jobs e ⊎ (Agrees parts jobs e → ⊥)
  said_by e true h = inl (truth_is (verdict parts e.id (e.sighting ∷ [])) (is_listed (left_by_jobs jobs) e.id) h)
  said_by e false h = inr (truth_is_not (verdict parts e.id (e.sighting ∷ [])) (is_listed (left_by_jobs jobs) e.id) h)

  module _ (j : ℕ) (job : JobFields) (at : slice_get jobs j ≡ Some job) where
    other_here : (n : ℕ) (e d : Entry) → slice_get job.entries n ≡ Some (Some e) → IsAccepted jobs j n d → d ≡ e
    other_here n e d there a = some_item d e (some_item (Some d) (Some e) (sym (accepted_in jobs j job at n d a).0 ∙ there))

    asked_by : (n : ℕ) (e : Entry) → slice_get job.entries n ≡ Some (Some e)
        → (class_of (past_of (left_by_jobs (take j jobs))) (facts_of job) (Some e) ≡ Accepted)
        ⊎ (class_of (past_of (left_by_jobs (take j jobs))) (facts_of job) (Some e) ≡ Accepted → ⊥)
        → Agrees parts jobs e ⊎ (Agrees parts jobs e → ⊥) → Fine j n ⊎ Wrong j n
    asked_by n e there (inr not) said =
        inl (λ d a. absurd (not (subst (λ (x : Entry). class_of (past_of (left_by_jobs (take j jobs))) (facts_of job) (Some x) ≡ Accepted) (other_here n e d there a) (accepted_in jobs j job at n d a).1)))
    asked_by n e there (inl accepted) (inl agrees) = inl (λ d a. subst (Agrees parts jobs) (sym (other_here n e d there a)) agrees)
    asked_by n e there (inl accepted) (inr differs) = inr (e, record { job = job; at = at; entry = there; accepted = accepted }, differs)

    entry_by : (n : ℕ) (o : Option (Option Entry)) → slice_get job.entries n ≡ o → Fine j n ⊎ Wrong j n
    entry_by n None none = inl (λ d a. absurd (let e : ◌≡◌ {A = Option (Option Entry)} None (Some (Some d)) = sym none ∙ (accepted_in jobs j job at n d a).0 in cc))
    entry_by n (Some None) unread =
        inl (λ d a. absurd (let e : None ≡ Some d = some_item None (Some d) (sym unread ∙ (accepted_in jobs j job at n d a).0) in cc))
    entry_by n (Some (Some e)) there =
        asked_by n e there (accepted_or_not (class_of (past_of (left_by_jobs (take j jobs))) (facts_of job) (Some e)))
        (said_by e (is_truth (verdict parts e.id (e.sighting ∷ [])) (is_listed (left_by_jobs jobs) e.id)) refl)

    entries_are : FirstOrAll (Fine j) (Wrong j) (length job.entries) → AllFine j ⊎ SomeWrong j
    entries_are (inl all) = inl (λ n e a. all n (slice_get_within job.entries n (Some e) (accepted_in jobs j job at n e a).0) e a)
    entries_are (inr first) = inr first

    job_is : AllFine j ⊎ SomeWrong j
    job_is = entries_are (first_or_all (Fine j) (Wrong j) (λ n. entry_by n (slice_get job.entries n) refl) (length job.entries))

  asked_job : (j : ℕ) (o : Option JobFields) → slice_get jobs j ≡ o → AllFine j ⊎ SomeWrong j
  asked_job j None none = inl (λ n e a. absurd (let h : ◌≡◌ {A = Option JobFields} None (Some a.job) = sym none ∙ a.at in cc))
  asked_job j (Some job) at = job_is j job at

  jobs_are : FirstOrAll AllFine SomeWrong (length jobs)
  jobs_are = first_or_all AllFine SomeWrong (λ j. asked_job j (slice_get jobs j) refl) (length jobs)

  -- ---- what is found

  abbrev Finds : Type 0
  Finds = (found : Result Audited AuditFault) × IsFound parts jobs found × (found ≢ Err faults.NoMemory)

  disagreement_finds : AreAdmitted jobs (length jobs) → (j n : ℕ) (e : Entry) → IsAccepted jobs j n e → (Agrees parts jobs e → ⊥)
      → ((m : ℕ) → m < n → Fine j m) → ((i : ℕ) → i < j → AllFine i) → Finds
  disagreement_finds admitted j n e accepted differs here before =
      let said = verdict parts e.id (e.sighting ∷ []) in
      let listed = is_listed (left_by_jobs jobs) e.id in (
        Err (faults.Disagrees j n said listed),
        (
          admitted,
          record {
            entry = e;
            accepted = accepted;
            held = refl;
            listed = refl;
            differs = differs;
            first = λ i m d a before_it.
                ⊎_elim (λ lt. before i lt m d a) (λ both. here m both.1 d (subst (λ (k : ℕ). IsAccepted jobs k m d) both.0 a)) before_it;
          },
        ),
        λ h. let g : ◌≡◌ {A = Result Audited AuditFault} (Err (faults.Disagrees j n said listed)) (Err faults.NoMemory) = h in cc,
      )

  agreement_finds : AreAdmitted jobs (length jobs) → FirstOrAll AllFine SomeWrong (length jobs) → Finds
  agreement_finds admitted (inl all) = (
    Ok (record { entries = length (seen (left_by_jobs jobs)) }),
    (admitted, λ j n e a. all j (slice_get_within jobs j a.job a.at) n e a, refl),
    λ h. absurd cc,
  )
  agreement_finds admitted (inr (j, (n, (e, accepted, differs), here), before)) = disagreement_finds admitted j n e accepted differs here before

  refusal_finds : (j : ℕ) (why : AdmitFault) → IsNamed why → IsRefused jobs j why → Finds
  refusal_finds j (admission.BadCrl place f) named r = absurd named
  refusal_finds j (admission.OldEpoch held given) named r = (
    Err (faults.OldEpoch j held given),
    r,
    λ h. let g : ◌≡◌ {A = Result Audited AuditFault} (Err (faults.OldEpoch j held given)) (Err faults.NoMemory) = h in cc,
  )
  refusal_finds j (admission.CoverageShrinks log) named r = (
    Err (faults.CoverageShrinks j log),
    r,
    λ h. let g : ◌≡◌ {A = Result Audited AuditFault} (Err (faults.CoverageShrinks j log)) (Err faults.NoMemory) = h in cc,
  )
  refusal_finds j admission.ChainFull named r = absurd named
  refusal_finds j (admission.TooMany what limit) named r = absurd named
  refusal_finds j admission.NoMemory named r = absurd named

  found_by : length jobs ≤ 64 → All IsAuditable jobs → entries_of jobs ≤ 4194304 → FirstOrAll (Admitted jobs) (Refused jobs) (length jobs) → Finds
  found_by few auditable entries (inl all) = agreement_finds (λ j job lt at. all j lt job at) jobs_are
  found_by few auditable entries (inr (j, (job, why, at, refused), before)) =
      let admitted : AreAdmitted jobs j = λ i k lt there. before i lt k there in
      let lt = slice_get_within jobs j job at in
      let here = some_item (get_or jobs j job) job (sym (slice_get-get_or jobs j job lt) ∙ at) in
      let crls = (subst IsAuditable here (auditable j job lt)).crls in
      refusal_finds j why (refused_named jobs j job at admitted few entries crls (ledger_of (left_by_jobs (take j jobs))) refl why refused)
      (record { job = job; at = at; refused = refused; admitted = admitted })

  pub something_found : length jobs ≤ 64 → All IsAuditable jobs → entries_of jobs ≤ 4194304 → Finds
  something_found few auditable entries = found_by few auditable entries (admission_is jobs)
