-- What is known of the jobs of an audit, as the code has them, and of what it answers.
use Rattle.std.proofs.Common.{◌≡◌, ℕ, zero, suc, ◌+◌, ◌<◌, ◌≤◌, List, [], ◌∷◌, ◌++◌, map, take, drop, get_or, length, Option, Some, None, Result, Ok, Err, IfOk, refl, sym, ap, ◌∙◌, subst, arith}
use Rattle.std.specs.Prelude.{All, IsErr}
use Rattle.std.specs.Option.{option_map, option_or}
use Rattle.std.proofs.Math.ListN.{get_or-map}
use Rattle.std.proofs.lemmas.List.{drop_more, length-map, map-append, map_more, take-append-drop}
use Rattle.std.proofs.lemmas.List.Sums.{sum_by-append, sum_by_push}
use Rattle.std.proofs.lemmas.Option.{slice_get_within}
use Rattle.octets_core.specs.declared.memory.NoMemory.{NoMemory}
use Rattle.part_text.specs.SealedFields.{SealedFields}
use Rattle.job_core.specs.declared.bounds.TheConstants.Limits.{PUBLISHED}
use Rattle.job_core.specs.declared.meaning.Job.{Job}
use Rattle.job_core.specs.declared.meaning.JobCrl.{JobCrl}
use Rattle.job_core.specs.JobFields.{CrlMeaning, JobFields, crl_view, fields_of_job}
use Rattle.job_core.specs.JobLayout.{kept}
use Rattle.job_core.specs.JobMeaning.{kept_in}
use Rattle.audit_core.specs.declared.auditing.Audited.{Audited}
use Rattle.audit_core.specs.declared.fault.AuditFault.{AuditFault}
use Rattle.audit_core.specs.declared.fault.AuditFault.TheVariants as audits
use Rattle.audit_core.specs.Auditing.{IsAuditable, IsFound}
use Rattle.word_core.specs.declared.command.Audit.{Audit}
use Rattle.command_core.specs.declared.answer.Answer.{Answer}
use Rattle.input_core.specs.declared.fault.FileFault.{FileFault}
use Rattle.input_core.specs.declared.fault.FileFault.TheVariants as faults
use Rattle.command_core.specs.ReplyFields.{Done, NamedFault}
use Rattle.command_core.specs.Answering.{reply_fields}
use Rattle.command_core.specs.AuditJobs.{AreCounted, IsReadable, NamesOneOf}
use Rattle.command_core.specs.Audits.{unless, bad_crl_in, bad_crl, audit_done, of_audit, MakesAudit}
use Rattle.command_core.specs.Replies.{done, refusal, reply_of}
use Rattle.command_core.proofs.AuditsMade.{AreAccepted, jobs_ok}

-- ---- serials

kept_both : (a b : List JobCrl) → kept_in (map crl_view (a ++ b)) ≡ kept_in (map crl_view a) + kept_in (map crl_view b)
kept_both a b = ap kept_in (map-append crl_view a b) ∙ sum_by-append (λ (c : CrlMeaning). kept c.outcome) (map crl_view a) (map crl_view b)

-- no more serials are kept of the first CRLs than of all
pub kept_more : (crls : List JobCrl) (i : ℕ) (crl : JobCrl) → i < length crls → crl ≡ get_or crls i crl
    → kept_in (map crl_view (take i crls)) + kept (crl_view crl).outcome ≤ kept_in (map crl_view crls)
kept_more crls i crl lt is =
    let next = ap kept_in (map_more crl_view crls i crl lt) ∙ sum_by_push (λ (c : CrlMeaning). kept c.outcome) (map crl_view (take i crls)) (crl_view (get_or crls i crl)) in
    let here = ap (λ (c : JobCrl). kept (crl_view c).outcome) is in
    let all = ap (λ (l : List JobCrl). kept_in (map crl_view l)) (sym (take-append-drop (i + 1) crls)) ∙ kept_both (take (i + 1) crls) (drop (i + 1) crls) in
    omega (arith, next, here, all)

-- ---- jobs at places

same_at : {A : Type 0} (xs : List A) (i : ℕ) (d e : A) → i < length xs → get_or xs i d ≡ get_or xs i e
same_at [] i d e lt = absurd (omega arith)
same_at (x ∷ xs) zero d e lt = refl
same_at (x ∷ xs) (suc i) d e lt = same_at xs i d e (omega arith)

pub readable_at : (jobs : List Job) (i : ℕ) (job : Job) → i < length jobs → job ≡ get_or jobs i job → All IsReadable (map fields_of_job jobs) → IsReadable (fields_of_job job)
readable_at jobs i job lt is all =
    let n = length-map jobs fields_of_job in
    subst IsReadable (get_or-map fields_of_job jobs i job ∙ ap fields_of_job (sym is)) (all i (fields_of_job job) (omega (arith, lt, n)))

pub crls_few : (jobs : List Job) (i : ℕ) (job : Job) → i < length jobs → job ≡ get_or jobs i job → AreCounted (map fields_of_job jobs) → length job.crls.items ≤ PUBLISHED.crls
crls_few jobs i job lt is counted =
    let few = (readable_at jobs i job lt is counted.readable).limits.crls in
    let n = length-map job.crls.items crl_view in
    omega (arith, few, n)

-- ---- CRLs that aren't accepted, one job after the other

-- what is left to be said behind the first jobs
abbrev pub BadLeft : List (List ℕ) → List Job → ℕ → Type 0
BadLeft names jobs i = bad_crl names (map fields_of_job jobs) ≡ bad_crl (drop i names) (map fields_of_job (drop i jobs))

left_at : (names : List (List ℕ)) (jobs : List Job) (i : ℕ) (name : List ℕ) (job : Job) → i < length jobs → length jobs ≡ length names → job ≡ get_or jobs i job → name ≡ get_or names i name
    → bad_crl (drop i names) (map fields_of_job (drop i jobs))
    ≡ option_or (option_map (λ (f : FileFault). record { name = name; fault = f }) (bad_crl_in (fields_of_job job))) (bad_crl (drop (i + 1) names) (map fields_of_job (drop (i + 1) jobs)))
left_at names jobs i name job lt many is at =
    ap (λ (ns : List (List ℕ)). bad_crl ns (map fields_of_job (drop i jobs))) (drop_more names i name (omega (arith, lt, many)) ∙ ap (λ (n : List ℕ). n ∷ drop (i + 1) names) (sym at))
    ∙ ap (λ (js : List Job). bad_crl (name ∷ drop (i + 1) names) (map fields_of_job js)) (drop_more jobs i job lt ∙ ap (λ (j : Job). j ∷ drop (i + 1) jobs) (sym is))

pub left_more : (names : List (List ℕ)) (jobs : List Job) (i : ℕ) (job : Job) → i < length jobs → length jobs ≡ length names → job ≡ get_or jobs i job
    → None ≡ bad_crl_in (fields_of_job job) → BadLeft names jobs i → BadLeft names jobs (i + 1)
left_more names jobs i job lt many is none left =
    left ∙ left_at names jobs i (get_or names i []) job lt many is (same_at names i [] (get_or names i []) (omega (arith, lt, many)))
    ∙ ap (λ (o : Option FileFault). option_or (option_map (λ (f : FileFault). record { name = get_or names i []; fault = f }) o)
    (bad_crl (drop (i + 1) names) (map fields_of_job (drop (i + 1) jobs)))) (sym none)

-- ---- what an audit asks for, and says

pub auditable : (jobs : List JobFields) → AreCounted jobs → AreAccepted jobs → All IsAuditable jobs
auditable jobs counted accepted = λ k job lt.
    let read = counted.readable k job lt in
    let limits = read.limits in
    record {
      ranges = read.ranges;
      limits = record { ranges = limits.ranges; crls = limits.crls; entries = limits.entries };
      crls = accepted k job lt;
    }

pub accepted_by : (names : List (List ℕ)) (jobs : List Job) → length jobs ≡ length names → bad_crl names (map fields_of_job jobs) ≡ None → AreAccepted (map fields_of_job jobs)
accepted_by names jobs many none = jobs_ok names (map fields_of_job jobs) (length-map jobs fields_of_job ∙ many) none

pub names_one : (parts : List SealedFields) (jobs : List Job) (n : ℕ) (fault : AuditFault) → length jobs ≡ n
    → IsFound (map (λ (s : SealedFields). s.part) parts) (map fields_of_job jobs) (Err fault) → NamesOneOf n fault
names_one parts jobs n (audits.OldEpoch j held given) many is =
    let lt = slice_get_within (map fields_of_job jobs) j is.job is.at in
    let size = length-map jobs fields_of_job in
    omega (arith, lt, size, many)
names_one parts jobs n (audits.CoverageShrinks j log) many is =
    let lt = slice_get_within (map fields_of_job jobs) j is.job is.at in
    let size = length-map jobs fields_of_job in
    omega (arith, lt, size, many)
names_one parts jobs n (audits.Disagrees j entry held listed) many is = tt
names_one parts jobs n audits.NoMemory many is = tt

-- ---- the answer

-- what comes of a store and of jobs that were read
abbrev pub Comes : Audit → List SealedFields → List JobFields → Answer → Type 0
Comes a parts jobs x = (o : Result Done NamedFault) × MakesAudit a (Ok parts) (unless (bad_crl a.jobs jobs) jobs) o × (reply_fields x ≡ reply_of o)

pub bad_comes : (a : Audit) (parts : List SealedFields) (jobs : List JobFields) (e : NamedFault) (r : Result Answer NoMemory) → Some e ≡ bad_crl a.jobs jobs
    → IfOk r (λ x. reply_fields x ≡ refusal e.name e.fault) → IfOk r (λ x. Comes a parts jobs x)
bad_comes a parts jobs e (Ok x) bad is =
    (Err e, subst (λ (o : Option NamedFault). MakesAudit a (Ok parts) (unless o jobs) (Err e)) bad refl, is)
bad_comes a parts jobs e (Err none) bad is = tt

pub found_comes : (a : Audit) (parts : List SealedFields) (jobs : List JobFields) (found : Audited) (x : Answer) → bad_crl a.jobs jobs ≡ None
    → IsFound (map (λ (s : SealedFields). s.part) parts) jobs (Ok found) → reply_fields x ≡ done (audit_done jobs found) → Comes a parts jobs x
found_comes a parts jobs found x none is said =
    let o : Result Done NamedFault = Ok (audit_done jobs found) in (
      o,
      subst (λ (b : Option NamedFault). MakesAudit a (Ok parts) (unless b jobs) o) (sym none) (record {
        result = Ok found;
        found = is;
        settled = λ h. let g : ◌≡◌ {A = Result Audited AuditFault} (Ok found) (Err audits.NoMemory) = h in cc;
        is = refl;
      }),
      said,
    )

settled_by : (a : Audit) (fault : AuditFault) (e : NamedFault) → e ≡ of_audit a fault → (e.fault ≡ faults.NoMemory → ⊥) → fault ≡ audits.NoMemory → ⊥
settled_by a fault e is refute none = refute (ap (λ (k : NamedFault). k.fault) is ∙ ap (λ (f : AuditFault). (of_audit a f).fault) none)

pub fault_comes : (a : Audit) (parts : List SealedFields) (jobs : List JobFields) (fault : AuditFault) (e : NamedFault) (r : Result Answer NoMemory) → bad_crl a.jobs jobs ≡ None
    → IsFound (map (λ (s : SealedFields). s.part) parts) jobs (Err fault) → e ≡ of_audit a fault → (e.fault ≡ faults.NoMemory → IsErr r)
    → IfOk r (λ x. reply_fields x ≡ refusal e.name e.fault) → IfOk r (λ x. Comes a parts jobs x)
fault_comes a parts jobs fault e (Ok x) none found is memory said =
    let o : Result Done NamedFault = Err e in
    let settled : (e.fault ≡ faults.NoMemory → ⊥) = λ wants. let h : IsErr {T = Answer} {E = NoMemory} (Ok x) = memory wants in cc in (
      o,
      subst (λ (b : Option NamedFault). MakesAudit a (Ok parts) (unless b jobs) o) (sym none) (record {
        result = Err fault;
        found = found;
        settled = λ h. settled_by a fault e is settled (fault_same fault audits.NoMemory h);
        is = ap (λ (k : NamedFault). Err k) is;
      }),
      said,
    )
  where
    fault_same : (f g : AuditFault) → ◌≡◌ {A = Result Audited AuditFault} (Err f) (Err g) → f ≡ g
    fault_same f g h = cc
fault_comes a parts jobs fault e (Err k) none found is memory said = tt
