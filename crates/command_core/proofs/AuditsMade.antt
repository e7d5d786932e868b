-- What comes of the files of an audit: which jobs they hold, and what is wrong with them.
use Rattle.std.proofs.Common.{◌≡◌, ℕ, suc, ◌+◌, ◌≤◌, Bool, true, false, List, [], ◌∷◌, ◌++◌, map, length, append_assoc, Option, Some, None, Result, Ok}
use Rattle.std.proofs.Common.{Err, refl, sym, ap, ◌∙◌, subst, arith}
use Rattle.std.specs.Prelude.{All, IsOk, nat_lt, if◌then◌else◌}
use Rattle.std.specs.Option.{option_map, option_or}
use Rattle.std.proofs.lemmas.Bool.{le-ltb}
use Rattle.std.proofs.lemmas.Bool.Decides.{nat_tests}
use Rattle.std.proofs.lemmas.List.{append-nil}
use Rattle.std.proofs.lemmas.List.Elements.{All-nil, All-cons, All-head, All-tail}
use Rattle.std.proofs.lemmas.List.Sums.{sum_by-append}
use Rattle.part_text.specs.SealedFields.{SealedFields}
use Rattle.crl_core.specs.declared.crl.CrlFault.{CrlFault}
use Rattle.crl_core.specs.Outcome.{CrlFields}
use Rattle.job_core.specs.declared.bounds.TheConstants.Limits.{PUBLISHED}
use Rattle.job_core.specs.declared.bounds.What.TheVariants as what
use Rattle.job_core.specs.JobFields.{CrlMeaning, JobFields}
use Rattle.job_core.specs.JobMeaning.{kept_in}
use Rattle.universe_core.specs.History.{seen}
use Rattle.universe_core.specs.Step.{bad_crl_at, bad_crl_from}
use Rattle.universe_core.specs.declared.fault.AdmitFault.{AdmitFault}
use Rattle.audit_core.specs.declared.auditing.Audited.{Audited}
use Rattle.audit_core.specs.declared.fault.AuditFault.{AuditFault}
use Rattle.audit_core.specs.declared.fault.AuditFault.TheVariants as audits
use Rattle.audit_core.specs.Auditing.{left_by_jobs, entries_of, AreAdmitted, AllAgree, IsFound}
use Rattle.word_core.specs.declared.command.Audit.{Audit}
use Rattle.input_core.specs.declared.fault.FileFault.{FileFault}
use Rattle.input_core.specs.declared.fault.FileFault.TheVariants as faults
use Rattle.input_core.specs.Inputs.{Inputs, rest_of}
use Rattle.input_core.specs.Readings.{job_in, input_as}
use Rattle.command_core.specs.ReplyFields.{Done, NamedFault}
use Rattle.command_core.specs.Faults.{of_admission}
use Rattle.command_core.specs.Outcomes.{◌>>=◌, named, input}
use Rattle.command_core.specs.Audits.{serials_of, passed, unless, counted, job_behind, jobs_behind, bad_crl_in, bad_crl, audit_jobs, audit_done, of_audit, audited_as, MakesAudit, AreWithinLimits, IsAudited}
use Rattle.command_core.specs.Commands.{AreJobs}
use Rattle.command_core.proofs.Results.{ok_same, not_ok, not_err, after_ok}

none_some : {A : Type 0} (x : A) → ◌≡◌ {A = Option A} (Some x) None → ⊥
none_some {A} x h = cc

-- ---- the limits of one job

abbrev too_many_entries : FileFault
too_many_entries = faults.TooMany what.Entries PUBLISHED.entries

abbrev too_many_serials : FileFault
too_many_serials = faults.TooMany what.Serials PUBLISHED.serials

entries_both : (a b : List JobFields) → entries_of (a ++ b) ≡ entries_of a + entries_of b
entries_both a b = sum_by-append (λ (j : JobFields). length j.entries) a b

serials_both : (a b : List JobFields) → serials_of (a ++ b) ≡ serials_of a + serials_of b
serials_both a b = sum_by-append (λ (j : JobFields). kept_in j.crls) a b

pub none_passed : (jobs : List JobFields) → entries_of jobs ≤ PUBLISHED.entries → serials_of jobs ≤ PUBLISHED.serials → passed jobs ≡ None
none_passed jobs e s = rw (le-ltb PUBLISHED.entries (entries_of jobs) e, le-ltb PUBLISHED.serials (serials_of jobs) s) refl

not_past : (limit n : ℕ) → nat_lt limit n ≡ false → n ≤ limit
not_past limit n h = grind (arith, nat_tests)

within_by : (jobs : List JobFields) (a b : Bool) → nat_lt PUBLISHED.entries (entries_of jobs) ≡ a → nat_lt PUBLISHED.serials (serials_of jobs) ≡ b
    → (if a then Some too_many_entries else if b then Some too_many_serials else None) ≡ None → AreWithinLimits jobs
within_by jobs true b x y h = absurd (none_some too_many_entries h)
within_by jobs false true x y h = absurd (none_some too_many_serials h)
within_by jobs false false x y h = record { entries = not_past PUBLISHED.entries (entries_of jobs) x; serials = not_past PUBLISHED.serials (serials_of jobs) y }

-- jobs that have passed no limit are within them
pub within_of : (jobs : List JobFields) → passed jobs ≡ None → AreWithinLimits jobs
within_of jobs h = within_by jobs (nat_lt PUBLISHED.entries (entries_of jobs)) (nat_lt PUBLISHED.serials (serials_of jobs)) refl refl h

-- ---- one job more

unless_ok : {A E : Type 0} (o : Option E) (x y : A) → unless o x ≡ Ok y → (o ≡ None) × (x ≡ y)
unless_ok {A} {E} None x y h = (refl, ok_same {E = E} x y h)
unless_ok (Some e) x y h = absurd (not_ok y e h)

counted_ok : (before : List JobFields) (r : Result JobFields FileFault) (job : JobFields) → counted before r ≡ Ok job → (r ≡ Ok job) × (passed (before ++ job ∷ []) ≡ None)
counted_ok before (Ok j) job h =
    let u = unless_ok (passed (before ++ j ∷ [])) j job h in
    (ap (λ (k : JobFields). Ok k) u.1, ap (λ (k : JobFields). passed (before ++ k ∷ [])) (sym u.1) ∙ u.0)
counted_ok before (Err fault) job h = absurd (not_ok job fault h)

pub named_value : {A : Type 0} (name : List ℕ) (r : Result A FileFault) (x : A) → named name r ≡ Ok x → r ≡ Ok x
named_value name (Ok y) x h = ap (λ z. Ok z) (ok_same {E = NamedFault} y x h)
named_value name (Err fault) x h = absurd (not_ok x (record { name = name; fault = fault }) h)

-- what is read behind others is read, and passes no limit with them
pub behind_read : (before : List JobFields) (given : Option (List ℕ)) (job : JobFields) → input_as (job_behind before) given ≡ Ok job
    → (input_as job_in given ≡ Ok job) × (passed (before ++ job ∷ []) ≡ None)
behind_read before None job h = absurd (not_ok job faults.Unread h)
behind_read before (Some bytes) job h = counted_ok before (job_in bytes) job h

-- and back
pub behind_within : (before : List JobFields) (given : Option (List ℕ)) (job : JobFields) → input_as job_in given ≡ Ok job → passed (before ++ job ∷ []) ≡ None
    → input_as (job_behind before) given ≡ Ok job
behind_within before None job h none = absurd (not_ok job faults.Unread h)
behind_within before (Some bytes) job h none = ap (counted before) h ∙ ap (λ (o : Option FileFault). unless o job) none

-- one file more is read
pub behind_next : (before : List JobFields) (name : List ℕ) (names : List (List ℕ)) (inputs : Inputs) (job : JobFields)
    → input_as (job_behind before) (inputs 0) ≡ Ok job → jobs_behind before (name ∷ names) inputs ≡ jobs_behind (before ++ job ∷ []) names (rest_of inputs)
behind_next before name names inputs job h = ap (λ (r : Result JobFields FileFault). named name r >>= (λ j. jobs_behind (before ++ j ∷ []) names (rest_of inputs))) h

pub behind_stop : (before : List JobFields) (name : List ℕ) (names : List (List ℕ)) (inputs : Inputs) (fault : FileFault)
    → input_as (job_behind before) (inputs 0) ≡ Err fault → jobs_behind before (name ∷ names) inputs ≡ Err (record { name = name; fault = fault })
behind_stop before name names inputs fault h = ap (λ (r : Result JobFields FileFault). named name r >>= (λ j. jobs_behind (before ++ j ∷ []) names (rest_of inputs))) h

-- ---- all jobs

-- the jobs that were read behind others, and their limits
pub record Behind (before : List JobFields) (names : List (List ℕ)) (inputs : Inputs) (jobs : List JobFields) : Type 0 where
  pub rest : List JobFields
  pub grown : jobs ≡ before ++ rest
  pub are : AreJobs names inputs rest
  pub many : length rest ≡ length names
  pub within : AreWithinLimits before → AreWithinLimits jobs

pub behind_jobs : (before : List JobFields) (names : List (List ℕ)) (inputs : Inputs) (jobs : List JobFields)
    → jobs_behind before names inputs ≡ Ok jobs → Behind before names inputs jobs
behind_jobs before [] inputs jobs h =
    let same = ok_same {E = NamedFault} before jobs h in
    record { rest = []; grown = sym same ∙ sym (append-nil before); are = tt; many = refl; within = λ w. subst AreWithinLimits same w }
behind_jobs before (name ∷ names) inputs jobs h =
    let one = after_ok (input name (job_behind before) (inputs 0)) (λ j. jobs_behind (before ++ j ∷ []) names (rest_of inputs)) jobs (sym h) in
    let read = behind_read before (inputs 0) one.0 (named_value name (input_as (job_behind before) (inputs 0)) one.0 one.1) in
    let others = behind_jobs (before ++ one.0 ∷ []) names (rest_of inputs) jobs (sym one.2) in
    record {
      rest = one.0 ∷ others.rest;
      grown = others.grown ∙ append_assoc before (one.0 ∷ []) others.rest;
      are = (ap (named name) read.0, others.are);
      many = ap suc others.many;
      within = λ w. others.within (within_of (before ++ one.0 ∷ []) read.1);
    }

-- and back
pub jobs_back : (before : List JobFields) (names : List (List ℕ)) (inputs : Inputs) (rest : List JobFields) → AreJobs names inputs rest
    → AreWithinLimits (before ++ rest) → jobs_behind before names inputs ≡ Ok (before ++ rest)
jobs_back before [] inputs [] are w = ap (λ (l : List JobFields). Ok l) (sym (append-nil before))
jobs_back before [] inputs (j ∷ rest) are w = absurd are
jobs_back before (name ∷ names) inputs [] are w = absurd are
jobs_back before (name ∷ names) inputs (j ∷ rest) are w =
    let whole = append_assoc before (j ∷ []) rest in
    let few : AreWithinLimits ((before ++ j ∷ []) ++ rest) = subst AreWithinLimits (sym whole) w in
    let e = entries_both (before ++ j ∷ []) rest in
    let s = serials_both (before ++ j ∷ []) rest in
    let none = none_passed (before ++ j ∷ []) (omega (arith, e, few.entries)) (omega (arith, s, few.serials)) in
    behind_next before name names inputs j (behind_within before (inputs 0) j (named_value name (input_as job_in (inputs 0)) j are.0) none)
    ∙ jobs_back (before ++ j ∷ []) names (rest_of inputs) rest are.1 few ∙ ap (λ (l : List JobFields). Ok l) whole

-- ---- CRLs that aren't accepted

or_none : {A : Type 0} (a b : Option A) → option_or a b ≡ None → (a ≡ None) × (b ≡ None)
or_none None b h = (refl, h)
or_none (Some x) b h = absurd (none_some x h)

mapped_none : {A B : Type 0} (f : A → B) (o : Option A) → option_map f o ≡ None → o ≡ None
mapped_none f None h = refl
mapped_none f (Some x) h = absurd (none_some (f x) h)

crl_ok : (place : ℕ) (r : Result CrlFields CrlFault) → bad_crl_at place r ≡ None → IsOk r
crl_ok place (Ok c) h = refl
crl_ok place (Err fault) h = absurd cc

crls_ok : (place : ℕ) (crls : List CrlMeaning) → bad_crl_from place crls ≡ None → All (λ (c : CrlMeaning). IsOk c.outcome) crls
crls_ok place [] h = All-nil (λ (c : CrlMeaning). IsOk c.outcome)
crls_ok place (c ∷ crls) h =
    let both = or_none (bad_crl_at place c.outcome) (bad_crl_from (suc place) crls) h in
    All-cons (λ (d : CrlMeaning). IsOk d.outcome) c crls (crl_ok place c.outcome both.0) (crls_ok (suc place) crls both.1)

abbrev pub AreAccepted : List JobFields → Type 0
AreAccepted jobs = All (λ (j : JobFields). All (λ (c : CrlMeaning). IsOk c.outcome) j.crls) jobs

pub jobs_ok : (names : List (List ℕ)) (jobs : List JobFields) → length jobs ≡ length names → bad_crl names jobs ≡ None → AreAccepted jobs
jobs_ok [] [] many h = All-nil (λ (j : JobFields). All (λ (c : CrlMeaning). IsOk c.outcome) j.crls)
jobs_ok [] (j ∷ jobs) many h = absurd (omega (arith, many))
jobs_ok (name ∷ names) [] many h = absurd (omega (arith, many))
jobs_ok (name ∷ names) (j ∷ jobs) many h =
    let both = or_none (option_map (λ (f : FileFault). record { name = name; fault = f }) (bad_crl_in j)) (bad_crl names jobs) h in
    let one = mapped_none of_admission (bad_crl_from 0 j.crls) (mapped_none (λ (f : FileFault). record { name = name; fault = f }) (bad_crl_in j) both.0) in
    All-cons (λ (k : JobFields). All (λ (c : CrlMeaning). IsOk c.outcome) k.crls) j jobs (crls_ok 0 j.crls one) (jobs_ok names jobs (omega (arith, many)) both.1)

ok_none : (place : ℕ) (r : Result CrlFields CrlFault) → IsOk r → bad_crl_at place r ≡ None
ok_none place (Ok c) h = refl
ok_none place (Err fault) h = absurd cc

accepted_crls : (place : ℕ) (crls : List CrlMeaning) → All (λ (c : CrlMeaning). IsOk c.outcome) crls → bad_crl_from place crls ≡ None
accepted_crls place [] h = refl
accepted_crls place (c ∷ crls) h =
    ap (λ (o : Option AdmitFault). option_or o (bad_crl_from (suc place) crls)) (ok_none place c.outcome (All-head (λ (d : CrlMeaning). IsOk d.outcome) c crls h))
    ∙ accepted_crls (suc place) crls (All-tail (λ (d : CrlMeaning). IsOk d.outcome) c crls h)

pub accepted_none : (names : List (List ℕ)) (jobs : List JobFields) → AreAccepted jobs → bad_crl names jobs ≡ None
accepted_none [] jobs h = refl
accepted_none (name ∷ names) [] h = refl
accepted_none (name ∷ names) (j ∷ jobs) h =
    ap (λ (o : Option AdmitFault). option_or (option_map (λ (f : FileFault). record { name = name; fault = f }) (option_map of_admission o)) (bad_crl names jobs))
    (accepted_crls 0 j.crls (All-head (λ (k : JobFields). All (λ (c : CrlMeaning). IsOk c.outcome) k.crls) j jobs h))
    ∙ accepted_none names jobs (All-tail (λ (k : JobFields). All (λ (c : CrlMeaning). IsOk c.outcome) k.crls) j jobs h)

-- ---- the jobs of an audit

-- the jobs that were read are these, within the limits, and their CRLs are accepted
pub record AuditsJobs (names : List (List ℕ)) (inputs : Inputs) (jobs : List JobFields) : Type 0 where
  pub are : AreJobs names inputs jobs
  pub many : length jobs ≡ length names
  pub within : AreWithinLimits jobs
  pub accepted : AreAccepted jobs

no_jobs : AreWithinLimits []
no_jobs = record { entries = omega arith; serials = omega arith }

pub audit_jobs_are : (names : List (List ℕ)) (inputs : Inputs) (jobs : List JobFields)
    → audit_jobs names inputs ≡ Ok jobs → AuditsJobs names inputs jobs
audit_jobs_are names inputs jobs h =
    let read = after_ok (jobs_behind [] names inputs) (λ js. unless (bad_crl names js) js) jobs (sym h) in
    let u = unless_ok (bad_crl names read.0) read.0 jobs (sym read.2) in
    let b = behind_jobs [] names inputs read.0 read.1 in
    let is : b.rest ≡ jobs = sym b.grown ∙ u.1 in
    let many : length jobs ≡ length names = ap (λ (l : List JobFields). length l) (sym is) ∙ b.many in
    record {
      are = subst (AreJobs names inputs) is b.are;
      many = many;
      within = subst AreWithinLimits u.1 (b.within no_jobs);
      accepted = jobs_ok names jobs many (ap (bad_crl names) (sym u.1) ∙ u.0);
    }

pub audit_jobs_back : (names : List (List ℕ)) (inputs : Inputs) (jobs : List JobFields) → AreJobs names inputs jobs → AreWithinLimits jobs → AreAccepted jobs
    → audit_jobs names inputs ≡ Ok jobs
audit_jobs_back names inputs jobs are w accepted =
    ap (λ (r : Result (List JobFields) NamedFault). r >>= (λ js. unless (bad_crl names js) js)) (jobs_back [] names inputs jobs are w)
    ∙ ap (λ (o : Option NamedFault). unless o jobs) (accepted_none names jobs accepted)

-- ---- what a success is

-- what an audit that was done found
pub record IsDone (a : Audit) (r : Result (List SealedFields) NamedFault) (inputs : Inputs) (d : Done) : Type 0 where
  pub parts : List SealedFields
  pub jobs : List JobFields
  pub store : r ≡ Ok parts
  pub are : AreJobs a.jobs inputs jobs
  pub audited : IsAudited parts jobs
  pub said : d ≡ audit_done jobs (record { entries = length (seen (left_by_jobs jobs)) })

found_done : (a : Audit) (parts : List SealedFields) (jobs : List JobFields) (result : Result Audited AuditFault) (d : Done)
    → IsFound (map (λ (s : SealedFields). s.part) parts) jobs result → Ok d ≡ audited_as a jobs result
    → AreAdmitted jobs (length jobs) × AllAgree (map (λ (s : SealedFields). s.part) parts) jobs × (d ≡ audit_done jobs (record { entries = length (seen (left_by_jobs jobs)) }))
found_done a parts jobs (Ok found) d is h =
    (is.0, is.1, ok_same {E = NamedFault} d (audit_done jobs found) h ∙ ap (λ (n : ℕ). audit_done jobs (record { entries = n })) is.2)
found_done a parts jobs (Err fault) d is h = absurd (not_err d (of_audit a fault) h)

done_by : (a : Audit) (r : Result (List SealedFields) NamedFault) (inputs : Inputs) (j : Result (List JobFields) NamedFault) (d : Done)
    → audit_jobs a.jobs inputs ≡ j → MakesAudit a r j (Ok d) → IsDone a r inputs d
done_by a (Ok parts) inputs (Ok jobs) d is m =
    let f = audit_jobs_are a.jobs inputs jobs is in
    let done = found_done a parts jobs m.result d m.found m.is in
    record {
      parts = parts;
      jobs = jobs;
      store = refl;
      are = f.are;
      audited = record { crls = f.accepted; admitted = done.0; agree = done.1 };
      said = done.2;
    }
done_by a (Ok parts) inputs (Err e) d is m = absurd (not_err d e m)
done_by a (Err e) inputs j d is m = absurd (not_err d e m)

pub audit_done_is : (a : Audit) (r : Result (List SealedFields) NamedFault) (inputs : Inputs) (d : Done)
    → MakesAudit a r (audit_jobs a.jobs inputs) (Ok d) → IsDone a r inputs d
audit_done_is a r inputs d m = done_by a r inputs (audit_jobs a.jobs inputs) d refl m

-- and back
pub audit_makes : (a : Audit) (parts : List SealedFields) (jobs : List JobFields) → IsAudited parts jobs
    → MakesAudit a (Ok parts) (Ok jobs) (Ok (audit_done jobs (record { entries = length (seen (left_by_jobs jobs)) })))
audit_makes a parts jobs i = record {
  result = Ok (record { entries = length (seen (left_by_jobs jobs)) });
  found = (i.admitted, i.agree, refl);
  settled = λ h. not_err (record { entries = length (seen (left_by_jobs jobs)) }) audits.NoMemory h;
  is = refl;
}
