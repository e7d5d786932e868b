-- Why a job that can be audited isn't admitted.
use Rattle.std.specs.List.{slice_get}
use Rattle.std.specs.Option.{option_or, option_map}
use Rattle.std.specs.Prelude.{All, IsOk, nat_le, Result, Ok, Err, is_some}
use Rattle.std.proofs.Common.{◌≡◌, ◌≢◌, ℕ, zero, suc, ◌+◌, ◌<◌, ◌≤◌, List, [], ◌∷◌, ◌++◌, map, length, take, Bool, true, false, cond, Option, Some, None, refl, sym, ap, ◌∙◌, subst, arith}
use Rattle.std.proofs.lemmas.Bool.{false≢true, lt-leb, le-ltb}
use Rattle.std.proofs.lemmas.List.{length-append, length-map, length-take}
use Rattle.std.proofs.lemmas.Option.{slice_get_within}
use Rattle.std.proofs.lemmas.List.Sums.{count_by-le-length, sum_by_push, sum_by-take-le}
use Rattle.ident_core.specs.Order.{identity_cmp}
use Rattle.ident_core.specs.Coverage.{first_outside}
use Rattle.log_core.specs.declared.Entry.{Entry}
use Rattle.crl_core.specs.declared.crl.CrlFault.{CrlFault}
use Rattle.crl_core.specs.Outcome.{CrlFields}
use Rattle.job_core.specs.declared.bounds.TheConstants.Limits.{PUBLISHED}
use Rattle.job_core.specs.JobFields.{CrlMeaning, JobFields}
use Rattle.ledger_core.specs.LedgerFields.{LedgerFields, LedgerPartFields, newest}
use Rattle.ident_core.proofs.Sets.{set_few}
use Rattle.universe_core.specs.Jobs.{JobFacts, facts_of}
use Rattle.universe_core.specs.History.{Past, Release, class_of, if_accepted, shown, accepted_with, accepted_by, past_of}
use Rattle.universe_core.specs.Ledgers.{past_in, ledger_of}
use Rattle.universe_core.specs.Step.{refusal, bad_crl_at, bad_crl_from, old_epoch, shrunk, chain_full, too_many}
use Rattle.universe_core.specs.declared.fault.AdmitFault.{AdmitFault}
use Rattle.universe_core.specs.declared.fault.AdmitFault.TheVariants as faults
use Rattle.history_core.proofs.Releases.{accepted_by-push}
use Rattle.history_core.proofs.Ledger.{past_in_ledger}
use Rattle.audit_core.specs.Admitting.{IsCause, as_audit_fault, IsRefusal}
use Rattle.audit_core.specs.Auditing.{left_by_jobs, entries_of, refusal_behind, AreAdmitted}
use Rattle.audit_core.proofs.Lists.{at_place, take_at, length-filter_map}
use Rattle.audit_core.proofs.Jobs.{release_behind, history_at, history-none, history_sound}
use Rattle.audit_core.proofs.Knowing.{parts_length}

-- the fault is one that an audit names
abbrev pub IsNamed : AdmitFault → Type 0
IsNamed (faults.BadCrl place f) = ⊥
IsNamed (faults.OldEpoch held given) = Unit {0}
IsNamed (faults.CoverageShrinks log) = Unit {0}
IsNamed faults.ChainFull = ⊥
IsNamed (faults.TooMany what limit) = ⊥
IsNamed faults.NoMemory = ⊥

named_cause : (f : AdmitFault) → IsNamed f → IsCause f
named_cause (faults.BadCrl place f) h = h
named_cause (faults.OldEpoch held given) h = tt
named_cause (faults.CoverageShrinks log) h = tt
named_cause faults.ChainFull h = h
named_cause (faults.TooMany what limit) h = h
named_cause faults.NoMemory h = tt

abbrev Causes : Option AdmitFault → Type 0
Causes None = Unit {0}
Causes (Some f) = IsNamed f

cause_or : (a b : Option AdmitFault) → Causes a → Causes b → Causes (option_or a b)
cause_or None b h k = k
cause_or (Some f) b h k = h

crl_cause : (place : ℕ) (r : Result CrlFields CrlFault) → IsOk r → Causes (bad_crl_at place r)
crl_cause place (Ok c) h = tt
crl_cause place (Err e) h = absurd (false≢true h)

crls_cause : (place : ℕ) (crls : List CrlMeaning) → All (λ (c : CrlMeaning). IsOk c.outcome) crls → Causes (bad_crl_from place crls)
crls_cause place [] h = tt
crls_cause place (c ∷ crls) h =
    cause_or (bad_crl_at place c.outcome) (bad_crl_from (suc place) crls) (crl_cause place c.outcome (h 0 c (omega arith)))
    (crls_cause (suc place) crls (λ k d lt. h (suc k) d (omega (arith, lt))))

epoch_cause : (p : Option LedgerPartFields) (epoch : ℕ) → Causes (old_epoch p epoch)
epoch_cause None epoch = tt
epoch_cause (Some p) epoch = elim (nat_le epoch p.epoch) as (λ b. Causes (cond b (Some (faults.OldEpoch p.epoch epoch)) None)) [ true ↦ tt | false ↦ tt ]

shrunk_cause : (p : Option LedgerPartFields) (job : JobFacts) → Causes (shrunk p job)
shrunk_cause None job = tt
shrunk_cause (Some p) job = elim (first_outside p.ranges job.ranges) as (λ o. Causes (option_map faults.CoverageShrinks o)) [ None ↦ tt | Some k ↦ tt ]

never : (b : Bool) (f : AdmitFault) → b ≡ false → Causes (cond b (Some f) None)
never false f h = tt
never true f h = absurd cc

cause_is : (ledger : LedgerFields) (job : JobFields) (fault : AdmitFault) → All (λ (c : CrlMeaning). IsOk c.outcome) job.crls → length ledger.parts < 64
    → length (accepted_with (past_in ledger) (facts_of job)) ≤ 4194304 → refusal PUBLISHED ledger job ≡ Some fault → IsNamed fault
unfolding refusal
cause_is ledger job fault crls few ids h =
    subst Causes h
    (cause_or (bad_crl_from 0 job.crls) _ (crls_cause 0 job.crls crls)
    (cause_or (old_epoch (newest ledger.parts) job.epoch) _ (epoch_cause (newest ledger.parts) job.epoch)
    (cause_or (shrunk (newest ledger.parts) (facts_of job)) _ (shrunk_cause (newest ledger.parts) (facts_of job))
    (cause_or (chain_full ledger.parts) (too_many PUBLISHED ledger (facts_of job))
    (never (nat_le 64 (length ledger.parts)) faults.ChainFull (lt-leb 64 (length ledger.parts) few)) (never _ _ (le-ltb 4194304 _ ids))))))

-- ---- how many identities are accepted

shown_few : (past : Past) (job : JobFacts) → length (shown past job) ≤ length job.entries
unfolding shown
shown_few past job =
    let a = length-filter_map (λ o. if_accepted (class_of past job o) o) job.entries in
    let b = count_by-le-length (λ o. is_some (if_accepted (class_of past job o) o)) job.entries in
    omega (arith, a, b)

pub accepted_few_more : (past : Past) (job : JobFacts) → length (accepted_with past job) ≤ length past.accepted + length job.entries
unfolding accepted_with
accepted_few_more past job =
    let a = set_few identity_cmp (map (λ (e : Entry). e.id) (shown past job) ++ past.accepted) in
    let d = length-append (map (λ (e : Entry). e.id) (shown past job)) past.accepted in
    let b = length-map (shown past job) (λ (e : Entry). e.id) in
    let c = shown_few past job in
    omega (arith, a, b, c, d)

pub all_few : (jobs : List JobFields) (n : ℕ) → n ≤ length jobs → length (accepted_by [] (left_by_jobs (take n jobs))) ≤ entries_of (take n jobs)
unfolding past_of accepted_by
all_few jobs zero le = let e = ap (λ rs. length (accepted_by [] rs)) history-none in omega (arith, e)
all_few jobs (suc n) le =
    let at = at_place jobs n (omega arith) in
    let before = all_few jobs n (omega arith) in
    let rs = left_by_jobs (take n jobs) in
    let longer : suc n ≡ n + 1 = omega arith in
    let is = ap (λ k. length (accepted_by [] (left_by_jobs (take k jobs)))) longer ∙ ap (λ l. length (accepted_by [] l)) (history_at jobs n at.0 at.1)
    ∙ ap length (accepted_by-push [] rs (release_behind (take n jobs) at.0)) in
    let few = accepted_few_more (past_of rs) (facts_of at.0) in
    let sum = ap (λ k. entries_of (take k jobs)) longer ∙ ap entries_of (take_at jobs n at.0 at.1) ∙ sum_by_push (λ (k : JobFields). length k.entries) (take n jobs) at.0 in
    omega (arith, before, is, few, sum)

pub entries_to : (jobs : List JobFields) (i : ℕ) (job : JobFields) → slice_get jobs i ≡ Some job → entries_of (take i jobs) + length job.entries ≤ entries_of jobs
entries_to jobs i job at =
    let a = ap entries_of (take_at jobs i job at) ∙ sum_by_push (λ (k : JobFields). length k.entries) (take i jobs) job in
    let b = sum_by-take-le (λ (k : JobFields). length k.entries) jobs (i + 1) in
    omega (arith, a, b)

-- ---- of one job

accepted_is : (rs : List Release) → (past_of rs).accepted ≡ accepted_by [] rs
unfolding past_of
accepted_is rs = refl

cause_unless : (fault : AdmitFault) (o : Option AdmitFault) → ((f : AdmitFault) → o ≡ Some f → IsCause f) → (fault ≢ faults.NoMemory → o ≡ Some fault) → IsCause fault
cause_unless (faults.BadCrl place f) o c h = c (faults.BadCrl place f) (h (λ e. absurd cc))
cause_unless (faults.OldEpoch held given) o c h = tt
cause_unless (faults.CoverageShrinks log) o c h = tt
cause_unless faults.ChainFull o c h = c faults.ChainFull (h (λ e. absurd cc))
cause_unless (faults.TooMany what limit) o c h = c (faults.TooMany what limit) (h (λ e. absurd cc))
cause_unless faults.NoMemory o c h = tt

pub refused_named : (jobs : List JobFields) (i : ℕ) (job : JobFields) → slice_get jobs i ≡ Some job → AreAdmitted jobs i → length jobs ≤ 64 → entries_of jobs ≤ 4194304
    → All (λ (c : CrlMeaning). IsOk c.outcome) job.crls → (ledger : LedgerFields) → ledger ≡ ledger_of (left_by_jobs (take i jobs))
    → (fault : AdmitFault) → refusal PUBLISHED ledger job ≡ Some fault → IsNamed fault
refused_named jobs i job at admitted few entries crls ledger is fault h =
    let lt = slice_get_within jobs i job at in
    let parts = parts_length ledger (take i jobs) is in
    let many = length-take i jobs in
    let rs = left_by_jobs (take i jobs) in
    let sound = history_sound jobs i (omega (arith, lt)) admitted in
    let past = ap (λ (l : LedgerFields). length (past_in l).accepted) is ∙ ap (λ (p : Past). length p.accepted) (past_in_ledger rs sound) ∙ ap length (accepted_is rs) in
    let before = all_few jobs i (omega (arith, lt)) in
    let all = accepted_few_more (past_in ledger) (facts_of job) in
    let to = entries_to jobs i job at in
    cause_is ledger job fault crls (omega (arith, lt, parts, many, few)) (omega (arith, past, before, all, to, entries)) h

pub refused_cause : (jobs : List JobFields) (i : ℕ) (job : JobFields) → slice_get jobs i ≡ Some job → AreAdmitted jobs i → length jobs ≤ 64 → entries_of jobs ≤ 4194304
    → All (λ (c : CrlMeaning). IsOk c.outcome) job.crls → (ledger : LedgerFields) → ledger ≡ ledger_of (left_by_jobs (take i jobs))
    → (fault : AdmitFault) → (fault ≢ faults.NoMemory → refusal PUBLISHED ledger job ≡ Some fault) → IsCause fault
refused_cause jobs i job at admitted few entries crls ledger is fault h =
    cause_unless fault (refusal PUBLISHED ledger job)
    (λ f e. named_cause f (refused_named jobs i job at admitted few entries crls ledger is f e)) h

refused_as : (jobs : List JobFields) (i : ℕ) (job : JobFields) → slice_get jobs i ≡ Some job → AreAdmitted jobs i
    → (fault : AdmitFault) → (fault ≢ faults.NoMemory → refusal_behind (take i jobs) job ≡ Some fault) → IsRefusal jobs (as_audit_fault i fault)
refused_as jobs i job at admitted (faults.BadCrl place f) h = tt
refused_as jobs i job at admitted (faults.OldEpoch held given) h = record { job = job; at = at; refused = h (λ e. absurd cc); admitted = admitted }
refused_as jobs i job at admitted (faults.CoverageShrinks log) h = record { job = job; at = at; refused = h (λ e. absurd cc); admitted = admitted }
refused_as jobs i job at admitted faults.ChainFull h = tt
refused_as jobs i job at admitted (faults.TooMany what limit) h = tt
refused_as jobs i job at admitted faults.NoMemory h = tt

pub refusal_is : (jobs : List JobFields) (i : ℕ) (job : JobFields) → slice_get jobs i ≡ Some job → AreAdmitted jobs i → (ledger : LedgerFields) → ledger ≡ ledger_of (left_by_jobs (take i jobs))
    → (fault : AdmitFault) → (fault ≢ faults.NoMemory → refusal PUBLISHED ledger job ≡ Some fault) → IsRefusal jobs (as_audit_fault i fault)
refusal_is jobs i job at admitted ledger is fault h = refused_as jobs i job at admitted fault (λ n. ap (λ l. refusal PUBLISHED l job) (sym is) ∙ h n)
