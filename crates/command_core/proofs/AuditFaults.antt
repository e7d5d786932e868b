-- What is wrong with the files of an audit isn't that one can't be read, unless its reading says so.
use Rattle.std.proofs.Common.{◌≡◌, ◌≢◌, ℕ, ◌⊎◌, inl, inr, Bool, true, false, List, [], ◌∷◌, ◌++◌, Option, Some, None, Result, Ok, Err, refl, sym, ap, ◌∙◌}
use Rattle.std.specs.Prelude.{IfSome, nat_lt, if◌then◌else◌}
use Rattle.std.specs.Option.{option_map, option_or}
use Rattle.part_text.specs.SealedFields.{SealedFields}
use Rattle.job_core.specs.declared.bounds.TheConstants.Limits.{PUBLISHED}
use Rattle.job_core.specs.declared.bounds.What.TheVariants as what
use Rattle.job_core.specs.JobFields.{JobFields}
use Rattle.universe_core.specs.Step.{bad_crl_from}
use Rattle.universe_core.specs.declared.fault.AdmitFault.{AdmitFault}
use Rattle.universe_core.specs.declared.fault.AdmitFault.TheVariants as admit
use Rattle.audit_core.specs.declared.auditing.Audited.{Audited}
use Rattle.audit_core.specs.declared.fault.AuditFault.{AuditFault}
use Rattle.audit_core.specs.declared.fault.AuditFault.TheVariants as audits
use Rattle.audit_core.specs.Auditing.{entries_of}
use Rattle.word_core.specs.declared.command.Audit.{Audit}
use Rattle.input_core.specs.declared.fault.FileFault.{FileFault}
use Rattle.input_core.specs.declared.fault.FileFault.TheVariants as faults
use Rattle.input_core.specs.Inputs.{Inputs}
use Rattle.input_core.specs.Readings.{job_in}
use Rattle.command_core.specs.ReplyFields.{Done, NamedFault}
use Rattle.command_core.specs.Faults.{of_admission}
use Rattle.command_core.specs.Outcomes.{◌>>=◌}
use Rattle.command_core.specs.Audits.{serials_of, passed, unless, counted, job_behind, jobs_behind, bad_crl_in, bad_crl, audit_jobs, audit_done, of_audit, audited_as, MakesAudit}
use Rattle.command_core.proofs.Outputs.{names_of}
use Rattle.command_core.proofs.Results.{ok_same, not_ok, not_err}

fault_same : {A E : Type 0} (x y : E) → ◌≡◌ {A = Result A E} (Err x) (Err y) → x ≡ y
fault_same {A} {E} x y h = cc

-- ---- an audit writes no file

audited_names : (a : Audit) (jobs : List JobFields) (found : Result Audited AuditFault) (d : Done) → Ok d ≡ audited_as a jobs found → names_of d.outputs ≡ []
audited_names a jobs (Ok found) d h = ap (λ (e : Done). names_of e.outputs) (ok_same {E = NamedFault} d (audit_done jobs found) h)
audited_names a jobs (Err fault) d h = absurd (not_err d (of_audit a fault) h)

pub audit_names : (a : Audit) (store : Result (List SealedFields) NamedFault) (jobs : Result (List JobFields) NamedFault) (d : Done) → MakesAudit a store jobs (Ok d) → names_of d.outputs ≡ []
audit_names a (Ok parts) (Ok jobs) d m = audited_names a jobs m.result d m.is
audit_names a (Ok parts) (Err e) d m = absurd (not_err d e m)
audit_names a (Err e) jobs d m = absurd (not_err d e m)

-- ---- faults that aren't of reading

abbrev IsRead : FileFault → Type 0
IsRead fault = fault ≡ faults.Unread → ⊥

passed_by : (a b : Bool) → IfSome
    (if a then Some (faults.TooMany what.Entries PUBLISHED.entries) else if b then Some (faults.TooMany what.Serials PUBLISHED.serials) else None) IsRead
passed_by true b = λ h. cc
passed_by false true = λ h. cc
passed_by false false = tt

passed_read : (jobs : List JobFields) → IfSome (passed jobs) IsRead
passed_read jobs = passed_by (nat_lt PUBLISHED.entries (entries_of jobs)) (nat_lt PUBLISHED.serials (serials_of jobs))

unless_read : (o : Option FileFault) (job : JobFields) → IfSome o IsRead → unless o job ≡ Err faults.Unread → ⊥
unless_read None job read h = not_err job faults.Unread h
unless_read (Some fault) job read h = read (fault_same {A = JobFields} fault faults.Unread h)

counted_read : (before : List JobFields) (r : Result JobFields FileFault) → (r ≡ Err faults.Unread → ⊥) → counted before r ≡ Err faults.Unread → ⊥
counted_read before (Ok job) read h = unless_read (passed (before ++ job ∷ [])) job (passed_read (before ++ job ∷ [])) h
counted_read before (Err fault) read h = read h

pub job_behind_read : (before : List JobFields) → ((bytes : List ℕ) → job_in bytes ≡ Err faults.Unread → ⊥) → (bytes : List ℕ) → job_behind before bytes ≡ Err faults.Unread → ⊥
job_behind_read before read bytes h = counted_read before (job_in bytes) (read bytes) h

-- ---- CRLs

admission_read : (f : AdmitFault) → IsRead (of_admission f)
admission_read (admit.BadCrl place fault) = λ h. cc
admission_read (admit.OldEpoch held given) = λ h. cc
admission_read (admit.CoverageShrinks log) = λ h. cc
admission_read admit.ChainFull = λ h. cc
admission_read (admit.TooMany what limit) = λ h. cc
admission_read admit.NoMemory = λ h. cc

abbrev IsReadNamed : NamedFault → Type 0
IsReadNamed e = IsRead e.fault

mapped_read : (name : List ℕ) (o : Option AdmitFault) → IfSome (option_map (λ (f : FileFault). record { name = name; fault = f }) (option_map of_admission o)) IsReadNamed
mapped_read name None = tt
mapped_read name (Some f) = admission_read f

or_read : (a b : Option NamedFault) → IfSome a IsReadNamed → IfSome b IsReadNamed → IfSome (option_or a b) IsReadNamed
or_read None b h k = k
or_read (Some e) b h k = h

crls_read : (names : List (List ℕ)) (jobs : List JobFields) → IfSome (bad_crl names jobs) IsReadNamed
crls_read [] jobs = tt
crls_read (name ∷ names) [] = tt
crls_read (name ∷ names) (job ∷ jobs) =
    or_read (option_map (λ (f : FileFault). record { name = name; fault = f }) (bad_crl_in job)) (bad_crl names jobs)
    (mapped_read name (bad_crl_from 0 job.crls)) (crls_read names jobs)

crl_stop : (o : Option NamedFault) (jobs : List JobFields) (e : NamedFault) → IfSome o IsReadNamed → unless o jobs ≡ Err e → e.fault ≡ faults.Unread → ⊥
crl_stop None jobs e read h u = not_err jobs e h
crl_stop (Some f) jobs e read h u = read (ap (λ (k : NamedFault). k.fault) (fault_same {A = List JobFields} f e h) ∙ u)

stop_by : (names : List (List ℕ)) (r : Result (List JobFields) NamedFault) (e : NamedFault) → (r >>= (λ js. unless (bad_crl names js) js)) ≡ Err e → e.fault ≡ faults.Unread → Err e ≡ r
stop_by names (Ok jobs) e h u = absurd (crl_stop (bad_crl names jobs) jobs e (crls_read names jobs) h u)
stop_by names (Err f) e h u = sym h

-- where a job can't be read, it is one that was read for the audit
pub jobs_stop : (names : List (List ℕ)) (inputs : Inputs) (e : NamedFault) → audit_jobs names inputs ≡ Err e → e.fault ≡ faults.Unread → Err e ≡ jobs_behind [] names inputs
jobs_stop names inputs e h u = stop_by names (jobs_behind [] names inputs) e h u

-- ---- what is found

found_read : (a : Audit) (fault : AuditFault) → fault ≢ audits.NoMemory → IsRead (of_audit a fault).fault
found_read a (audits.OldEpoch job held given) settled = λ h. cc
found_read a (audits.CoverageShrinks job log) settled = λ h. cc
found_read a (audits.Disagrees job entry held listed) settled = λ h. cc
found_read a audits.NoMemory settled = absurd (settled refl)

audited_read : (a : Audit) (jobs : List JobFields) (found : Result Audited AuditFault) (e : NamedFault) → found ≢ Err audits.NoMemory → Err e ≡ audited_as a jobs found
    → e.fault ≡ faults.Unread → ⊥
audited_read a jobs (Ok found) e settled h u = not_ok (audit_done jobs found) e h
audited_read a jobs (Err fault) e settled h u =
    found_read a fault (λ none. settled (ap (λ (f : AuditFault). Err f) none))
    (ap (λ (k : NamedFault). k.fault) (sym (fault_same {A = Done} e (of_audit a fault) h)) ∙ u)

-- an input that can't be read is the store, or one of the jobs
pub store_or_jobs : (a : Audit) (store : Result (List SealedFields) NamedFault) (jobs : Result (List JobFields) NamedFault) (e : NamedFault) → MakesAudit a store jobs (Err e)
    → e.fault ≡ faults.Unread → (store ≡ Err e) ⊎ (jobs ≡ Err e)
store_or_jobs a (Ok parts) (Ok jobs) e m u = absurd (audited_read a jobs m.result e m.settled m.is u)
store_or_jobs a (Ok parts) (Err f) e m u = inr (ap (λ (k : NamedFault). Err k) (sym (fault_same {A = Done} e f m)))
store_or_jobs a (Err f) jobs e m u = inl (ap (λ (k : NamedFault). Err k) (sym (fault_same {A = Done} e f m)))
