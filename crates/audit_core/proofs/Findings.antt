-- What an audit says, and what follows from its yes.
use Rattle.std.specs.List.{slice_get}
use Rattle.std.specs.Prelude.{OnOk, Result, Ok, Err}
use Rattle.std.proofs.Common.{◌≡◌, ℕ, zero, suc, ◌+◌, ◌<◌, ◌≤◌, inl, ⊎_elim, List, [], ◌∷◌, length, take, Bool, true, false, Some, refl, sym, ap, ◌∙◌, subst, arith}
use Rattle.std.proofs.lemmas.List.{take_all}
use Rattle.std.proofs.lemmas.Option.{slice_get_within}
use Rattle.ident_core.specs.declared.identity.Identity.{Identity}
use Rattle.ident_core.specs.declared.range.Sighting.{Sighting}
use Rattle.card_core.specs.PartFields.{PartFields}
use Rattle.card_core.specs.Verdict.{verdict}
use Rattle.log_core.specs.declared.Entry.{Entry}
use Rattle.job_core.specs.JobFields.{JobFields}
use Rattle.ident_core.specs.Among.{Among}
use Rattle.ident_core.proofs.Elements.{Among-cases}
use Rattle.universe_core.specs.Jobs.{facts_of}
use Rattle.universe_core.specs.History.{class_by, class_of, past_of, seen, sightings, shown, is_listed, accepted_by}
use Rattle.universe_core.specs.Ledgers.{no_ledger, ledger_of}
use Rattle.universe_core.specs.declared.class.Class.TheVariants.{Accepted}
use Rattle.history_core.specs.Truth.{truth}
use Rattle.history_core.proofs.Accepting.{shown_is, shown_entry}
use Rattle.history_core.proofs.Releases.{seen-push}
use Rattle.history_core.proofs.Sightings.{Among-sightings}
use Rattle.audit_core.specs.declared.auditing.Audited.{Audited}
use Rattle.audit_core.specs.declared.fault.AuditFault.{AuditFault}
use Rattle.audit_core.specs.declared.fault.AuditFault.TheVariants as faults
use Rattle.audit_core.specs.Auditing.{left_by_jobs, AreAdmitted, IsAccepted, Agrees, AllAgree, IsDisagreement, IsFound}
use Rattle.audit_core.specs.Checking.{truth_by, IsFirstIn}
use Rattle.audit_core.proofs.Lists.{at_place, place_of}
use Rattle.audit_core.proofs.Jobs.{release_behind, history_at, history-none}
use Rattle.audit_core.proofs.Knowing.{parts_length}
use Rattle.audit_core.proofs.Sightings.{revoked_by_one, good_by_all}

-- ---- disagreements

pub disagreement_is : (parts : List PartFields) (jobs : List JobFields) (j : ℕ) (e : AuditFault) → IsFirstIn parts jobs j e
    → ((i n : ℕ) (d : Entry) → i < j → IsAccepted jobs i n d → Agrees parts jobs d) → IsDisagreement parts jobs e
disagreement_is parts jobs j e f old =
    subst (IsDisagreement parts jobs) (sym f.fault) (record {
      entry = f.entry;
      accepted = f.accepted;
      held = f.said;
      listed = f.truth;
      differs = λ q. f.differs (q ∙ ap truth_by (sym f.truth));
      first = λ i m d a before. ⊎_elim (λ lt. old i m d lt a) (λ both. f.before m d both.1 (subst (λ k. IsAccepted jobs k m d) both.0 a)) before;
    })

pub disagreement_found : (parts : List PartFields) (jobs : List JobFields) → AreAdmitted jobs (length jobs) → (e : AuditFault) → IsDisagreement parts jobs e → IsFound parts jobs (Err e)
disagreement_found parts jobs a (faults.OldEpoch j held given) d = absurd d
disagreement_found parts jobs a (faults.CoverageShrinks j log) d = absurd d
disagreement_found parts jobs a (faults.Disagrees j n held listed) d = (a, d)
disagreement_found parts jobs a faults.NoMemory d = absurd d

-- ---- no job

pub seen-none : seen (left_by_jobs []) ≡ []
unfolding seen
seen-none = ap seen history-none

pub no_ledger_is : no_ledger ≡ ledger_of (left_by_jobs [])
unfolding ledger_of accepted_by
no_ledger_is = sym (ap ledger_of history-none)

no_jobs_found : (parts : List PartFields) (jobs : List JobFields) → length jobs ≡ 0 → IsFound parts jobs (Ok (record { entries = 0 }))
no_jobs_found parts [] h = (λ j job lt k. absurd (omega (arith, lt)), λ j n e a. absurd (nothing j a.job a.at), sym (ap length seen-none))
  where
    nothing : (j : ℕ) (job : JobFields) → slice_get [] j ≡ Some job → ⊥
    nothing j job k = let lt = slice_get_within [] j job k in omega (arith, lt)
no_jobs_found parts (job ∷ jobs) h = absurd (omega (arith, h))

pub none_found : (parts : List PartFields) (jobs : List JobFields) → no_ledger ≡ ledger_of (left_by_jobs jobs) → IsFound parts jobs (Ok (record { entries = 0 }))
none_found parts jobs h = let n = parts_length no_ledger jobs h in no_jobs_found parts jobs (sym n)

-- ---- the accepted entries of the history are those of its jobs

seen_accepted : (jobs : List JobFields) (k : ℕ) → k ≤ length jobs → (e : Entry) → Among (seen (left_by_jobs (take k jobs))) e → (j : ℕ) × (n : ℕ) × IsAccepted jobs j n e
unfolding class_by
seen_accepted jobs zero le e a = absurd (subst (λ (l : List Entry). Among l e) seen-none a)
seen_accepted jobs (suc k) le e a =
    let at = at_place jobs k (omega (arith, le)) in
    let rs = left_by_jobs (take k jobs) in
    let longer : suc k ≡ k + 1 = omega arith in
    let is = ap (λ n. seen (left_by_jobs (take n jobs))) longer ∙ ap seen (history_at jobs k at.0 at.1) ∙ seen-push rs (release_behind (take k jobs) at.0) in
    ⊎_elim (λ b. seen_accepted jobs k (omega (arith, le)) e b)
    (λ b.
    let s = shown_is (past_of rs) (facts_of at.0) e b in
    let p = place_of at.0.entries (Some e) (shown_entry (past_of rs) (facts_of at.0) e b) in
    let class : class_of (past_of rs) (facts_of at.0) (Some e) ≡ Accepted = rw (s.covered, s.enrolled, s.timely) refl in
    (k, p.0, record { job = at.0; at = at.1; entry = p.1; accepted = class }))
    (Among-cases (seen rs) (shown (past_of rs) (facts_of at.0)) e (subst (λ (l : List Entry). Among l e) is a))

-- ---- the yes

one_agrees : (parts : List PartFields) (jobs : List JobFields) → AllAgree parts jobs → (x : Identity) (s : Sighting) → Among (sightings x (seen (left_by_jobs jobs))) s
    → verdict parts x (s ∷ []) ≡ truth (left_by_jobs jobs) x
one_agrees parts jobs all x s a =
    let f = Among-sightings x (seen (left_by_jobs jobs)) s a in
    let whole : take (length jobs) jobs ≡ jobs = take_all (length jobs) jobs (omega arith) in
    let q = seen_accepted jobs (length jobs) (omega arith) f.0 (subst (λ l. Among (seen (left_by_jobs l)) f.0) (sym whole) f.1) in
    ap (λ y. verdict parts y (s ∷ [])) f.2 ∙ ap (λ t. verdict parts f.0.id (t ∷ [])) (sym f.3) ∙ all q.0 q.1 f.0 q.2 ∙ ap (truth (left_by_jobs jobs)) (sym f.2)

by_listing : (parts : List PartFields) (x : Identity) (ss : List Sighting) (t : Bool) → 1 ≤ length ss → ((s : Sighting) → Among ss s → verdict parts x (s ∷ []) ≡ truth_by t)
    → verdict parts x ss ≡ truth_by t
by_listing parts x [] true some h = absurd (omega (arith, some))
by_listing parts x (s ∷ ss) true some h = revoked_by_one parts x (s ∷ ss) s (inl refl) (h s (inl refl))
by_listing parts x ss false some h = good_by_all parts x ss some h

abbrev pub AnswersTruly : List PartFields → List JobFields → Type 0
AnswersTruly parts jobs = (x : Identity) (ss : List Sighting) → 1 ≤ length ss → ((s : Sighting) → Among ss s → Among (sightings x (seen (left_by_jobs jobs))) s)
    → verdict parts x ss ≡ truth (left_by_jobs jobs) x

pub answers_truly : (parts : List PartFields) (jobs : List JobFields) → AllAgree parts jobs → AnswersTruly parts jobs
answers_truly parts jobs all x ss some among =
    by_listing parts x ss (is_listed (left_by_jobs jobs) x) some (λ s a. one_agrees parts jobs all x s (among s a))

pub found_truly : (parts : List PartFields) (jobs : List JobFields) (r : Result Audited AuditFault) → IsFound parts jobs r → OnOk r (AnswersTruly parts jobs)
found_truly parts jobs (Ok a) f = answers_truly parts jobs f.1
found_truly parts jobs (Err e) f = tt
