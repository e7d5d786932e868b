-- What comes of a command over what the files hold, from what was read of them.
use Rattle.std.proofs.Common.{◌≡◌, ℕ, zero, suc, ◌⊎◌, inl, inr, List, [], ◌∷◌, ◌++◌, Option, Some, None, Result, Ok, Err, refl, sym, ap, ◌∙◌, subst}
use Rattle.std.specs.Prelude.{◌+◌, length}
use Rattle.std.specs.FinMap.{get}
use Rattle.outside_core.specs.Files.{Files}
use Rattle.input_core.specs.Queries.{Query}
use Rattle.job_core.specs.JobFields.{JobFields}
use Rattle.job_core.specs.JobLayout.{EntryText}
use Rattle.ledger_core.specs.LedgerFields.{LedgerFields}
use Rattle.part_text.specs.SealedFields.{SealedFields}
use Rattle.publication_core.specs.Histories.{Published, History, of_jobs}
use Rattle.word_core.specs.declared.command.{QueryCert.QueryCert, Delta.Delta, Install.Install, Rehearse.Rehearse}
use Rattle.word_core.specs.declared.command.{Audit.Audit}
use Rattle.input_core.specs.declared.fault.FileFault.{FileFault}
use Rattle.input_core.specs.declared.fault.FileFault.TheVariants as faults
use Rattle.command_core.specs.ReplyFields.{Done, NamedFault}
use Rattle.input_core.specs.Readings.{job_in, ledger_in, store_in}
use Rattle.input_core.specs.Certificates.{certificate_in, issuer_in}
use Rattle.input_core.specs.Inputs.{Inputs, rest_of, IsRead, AreRead}
use Rattle.command_core.specs.Commands.{◌>>=◌, input, query_cert_makes, install_makes}
use Rattle.command_core.specs.Commands.{MakesDelta, IsFileRefused, MakesRehearsal}
use Rattle.command_core.specs.declared.lengthening.Source.{Source}
use Rattle.command_core.specs.Longer.{head_in, entries_by, room_for, entries_of, longer_done, longer_makes}
use Rattle.command_core.specs.Audits.{unless, job_behind, jobs_behind, bad_crl, audit_jobs, MakesAudit}
use Rattle.command_core.specs.Steps.{RehearsesOn}
use Rattle.command_core.specs.Replies.{held_under}
use Rattle.command_core.proofs.Following.{install_after, longer_after, entries_last, entries_then, cert_last, cert_then, cert_after}
use Rattle.command_core.proofs.Results.{err_same, not_err}
use Rattle.command_core.proofs.Prefixes.{first_of, from_first}

pub some_is : (f g : Files) → ◌≡◌ {A = Option Files} (Some f) (Some g) → f ≡ g
some_is f g e = cc

-- ---- where no fault was counted, what was read is what the files hold

held_one : (files : Files) (failed : Option (List ℕ) → Type 0) (name : List ℕ) (given : Option (List ℕ)) → ((name : List ℕ) → failed (Some name) → ⊥)
    → IsRead (Some files) failed name given → given ≡ get files name
held_one files failed name None quiet (inl why) = absurd (quiet name why)
held_one files failed name None quiet (inr (told, same, none)) = sym (subst (λ (f : Files). get f name ≡ None) (some_is told files (sym same)) none)
held_one files failed name (Some bytes) quiet read = sym read

held_at : (files : Files) (failed : Option (List ℕ) → Type 0) (names : List (List ℕ)) (inputs : Inputs)
    → ((name : List ℕ) → failed (Some name) → ⊥) → AreRead (Some files) failed names inputs → (n : ℕ) → inputs n ≡ held_under files names n
held_at files failed [] inputs quiet read n = read n
held_at files failed (name ∷ names) inputs quiet read zero = held_one files failed name (inputs 0) quiet read.0
held_at files failed (name ∷ names) inputs quiet read (suc n) = held_at files failed names (rest_of inputs) quiet read.1 n

pub held_all : (files : Files) (failed : Option (List ℕ) → Type 0) (names : List (List ℕ)) (inputs : Inputs)
    → ((name : List ℕ) → failed (Some name) → ⊥) → AreRead (Some files) failed names inputs → inputs ≡ held_under files names
held_all files failed names inputs quiet read = λ i n. held_at files failed names inputs quiet read n i

-- ---- where the answer isn't that an input can't be read

-- an outcome that isn't that an input can't be read
abbrev pub IsSeen : {B : Type 0} → Result B NamedFault → Type 0
IsSeen o = (e : NamedFault) → o ≡ Err e → e.fault ≡ faults.Unread → ⊥

abbrev pub unread : List ℕ → NamedFault
unread name = record { name = name; fault = faults.Unread }

-- of one input
pub one_over : (files : Files) (failed : Option (List ℕ) → Type 0) (name : List ℕ) (P : Option (List ℕ) → Type 0) (given : Option (List ℕ)) → (P None → ⊥)
    → IsRead (Some files) failed name given → P given → P (get files name)
one_over files failed name P None refute read m = absurd (refute m)
one_over files failed name P (Some bytes) refute read m = subst P (sym read) m

delta_other : (t : Delta) (r : Result JobFields NamedFault) (l : Result LedgerFields NamedFault) (o : Result Done NamedFault) → IsSeen o
    → MakesDelta t r (Err (unread t.ledger)) o → MakesDelta t r l o
delta_other t (Ok j) l o seen m = absurd (seen (unread t.ledger) m refl)
delta_other t (Err e) l o seen m = m

install_other : (i : Install) (r : Result (List SealedFields) NamedFault) (p : Option (List ℕ)) (o : Result Done NamedFault) → IsSeen o
    → o ≡ (r >>= install_after i None) → o ≡ (r >>= install_after i p)
install_other i (Ok parts) p o seen m = absurd (seen (unread i.part) m refl)
install_other i (Err e) p o seen m = m

pub delta_over : (files : Files) (failed : Option (List ℕ) → Type 0) (t : Delta) (j l : Option (List ℕ)) (o : Result Done NamedFault) → IsSeen o
    → IsRead (Some files) failed t.job j → IsRead (Some files) failed t.ledger l
    → MakesDelta t (input t.job job_in j) (input t.ledger ledger_in l) o → MakesDelta t (input t.job job_in (get files t.job)) (input t.ledger ledger_in (get files t.ledger)) o
delta_over files failed t None l o seen first second m = absurd (seen (unread t.job) m refl)
delta_over files failed t (Some b) None o seen first second m =
    rw first (delta_other t (input t.job job_in (Some b)) (input t.ledger ledger_in (get files t.ledger)) o seen m)
delta_over files failed t (Some b) (Some c) o seen first second m = rw (first, second) m

pub install_over : (files : Files) (failed : Option (List ℕ) → Type 0) (i : Install) (s p : Option (List ℕ)) (o : Result Done NamedFault) → IsSeen o
    → IsRead (Some files) failed i.store s → IsRead (Some files) failed i.part p
    → o ≡ install_makes i s p → o ≡ install_makes i (get files i.store) (get files i.part)
install_over files failed i None p o seen first second m = absurd (seen (unread i.store) m refl)
install_over files failed i (Some b) None o seen first second m = rw first (install_other i (input i.store store_in (Some b)) (get files i.part) o seen m)
install_over files failed i (Some b) (Some c) o seen first second m = rw (first, second) m

-- an input, and what follows it
after_same : {A B : Type 0} (r : Result A NamedFault) (next other : A → Result B NamedFault) (o : Result B NamedFault) → ((x : A) → o ≡ next x → o ≡ other x)
    → o ≡ (r >>= next) → o ≡ (r >>= other)
after_same (Ok x) next other o then m = then x m
after_same (Err e) next other o then m = m

pub after_over : {A B : Type 0} (files : Files) (failed : Option (List ℕ) → Type 0) (name : List ℕ) (read : List ℕ → Result A FileFault) (given : Option (List ℕ))
    (next other : A → Result B NamedFault) (o : Result B NamedFault) → IsSeen o → IsRead (Some files) failed name given
    → ((x : A) → o ≡ next x → o ≡ other x) → o ≡ (input name read given >>= next) → o ≡ (input name read (get files name) >>= other)
after_over files failed name read None next other o seen is_read then m = absurd (seen (unread name) m refl)
after_over files failed name read (Some b) next other o seen is_read then m = rw is_read (after_same (input name read (Some b)) next other o then m)

pub query_cert_over : (files : Files) (failed : Option (List ℕ) → Type 0) (q : QueryCert) (s k i : Option (List ℕ)) (o : Result Done NamedFault) → IsSeen o
    → IsRead (Some files) failed q.store s → IsRead (Some files) failed q.cert k → IsRead (Some files) failed q.issuer_cert i
    → o ≡ query_cert_makes q s k i → o ≡ query_cert_makes q (get files q.store) (get files q.cert) (get files q.issuer_cert)
query_cert_over files failed q s k i o seen first second third m =
    let held_cert = get files q.cert in
    let held_issuer = get files q.issuer_cert in
    after_over files failed q.store store_in s (cert_after q k i) (cert_after q held_cert held_issuer) o seen first
    (λ parts. after_over files failed q.cert certificate_in k (cert_then q i parts) (cert_then q held_issuer parts) o seen second
    (λ cert. after_over files failed q.issuer_cert issuer_in i (cert_last parts cert) (cert_last parts cert) o seen third (λ x h. h))) m

-- a job that was read is read of what the file holds
job_over : (files : Files) (failed : Option (List ℕ) → Type 0) (name : List ℕ) (given : Option (List ℕ)) (r : Result JobFields NamedFault)
    → IsSeen r → IsRead (Some files) failed name given → input name job_in given ≡ r → input name job_in (get files name) ≡ r
job_over files failed name given r seen read is =
    sym (one_over files failed name (λ g. r ≡ input name job_in g) given (λ h. seen (unread name) h refl) read (sym is))

refused_over : (files : Files) (failed : Option (List ℕ) → Type 0) (h : History) (name : List ℕ) (given : Option (List ℕ)) (e : NamedFault)
    → (e.fault ≡ faults.Unread → ⊥) → IsRead (Some files) failed name given → IsFileRefused h name given e → IsFileRefused h name (get files name) e
refused_over files failed h name given e seen read (inl is) =
    inl (job_over files failed name given (Err e) (λ f k u. seen (ap (λ (n : NamedFault). n.fault) (err_same {A = JobFields} e f k) ∙ u)) read is)
refused_over files failed h name given e seen read (inr (job, fault, is, not, same)) =
    inr (job, fault, job_over files failed name given (Ok job) (λ f k u. not_err job f k) read is, not, same)

rehearses_over : (files : Files) (failed : Option (List ℕ) → Type 0) (queries : List Query) (ps : List Published) (names : List (List ℕ))
    (inputs : Inputs) (o : Result Done NamedFault) → IsSeen o
    → AreRead (Some files) failed names inputs → RehearsesOn queries ps names inputs o → RehearsesOn queries ps names (held_under files names) o
rehearses_over files failed queries ps [] inputs o seen read m = m
rehearses_over files failed queries ps (name ∷ names) inputs o seen read (inl (e, refused, is)) =
    inl (e, refused_over files failed (of_jobs ps) name (inputs 0) e (seen e is) read.0 refused, is)
rehearses_over files failed queries ps (name ∷ names) inputs o seen read (inr (p, is_job, fits, is_more, rest)) =
    inr (
      p,
      (job_over files failed name (inputs 0) (Ok p.job.job) (λ f k u. not_err p.job.job f k) read.0 is_job.0, is_job.1),
      fits,
      is_more,
      rehearses_over files failed queries (ps ++ p ∷ []) names (rest_of inputs) o seen read.1 rest,
    )

pub rehearsal_over : (files : Files) (failed : Option (List ℕ) → Type 0) (r : Rehearse) (queries : Result (List Query) NamedFault)
    (inputs : Inputs) (o : Result Done NamedFault) → IsSeen o
    → AreRead (Some files) failed r.jobs inputs → MakesRehearsal r queries inputs o → MakesRehearsal r queries (held_under files r.jobs) o
rehearsal_over files failed r (Ok queries) inputs o seen read m =
    first_of queries r.jobs (held_under files r.jobs) o (rehearses_over files failed queries [] r.jobs inputs o seen read (from_first queries r.jobs inputs o m))
rehearsal_over files failed r (Err e) inputs o seen read m = m

-- a step between two others
through : {A C B : Type 0} (r : Result A NamedFault) (one : A → Result C NamedFault) (next : C → Result B NamedFault) (o : Result B NamedFault)
    → o ≡ ((r >>= one) >>= next) → o ≡ (r >>= (λ x. one x >>= next))
through (Ok x) one next o m = m
through (Err e) one next o m = m

back_through : {A C B : Type 0} (r : Result A NamedFault) (one : A → Result C NamedFault) (next : C → Result B NamedFault) (o : Result B NamedFault)
    → o ≡ (r >>= (λ x. one x >>= next)) → o ≡ ((r >>= one) >>= next)
back_through (Ok x) one next o m = m
back_through (Err e) one next o m = m

-- files whose entries are put behind a job, behind which a step follows
pub entries_over : {B : Type 0} (files : Files) (failed : Option (List ℕ) → Type 0) (o : Result B NamedFault) → IsSeen o
    → (source : Source) (epoch : ℕ) (job : List ℕ) (before : ℕ) (names : List (List ℕ)) (inputs : Inputs) → AreRead (Some files) failed names inputs
    → (next : List EntryText → Result B NamedFault) → o ≡ (entries_of source epoch job before names inputs >>= next)
    → o ≡ (entries_of source epoch job before names (held_under files names) >>= next)
entries_over files failed o seen source epoch job before [] inputs read next m = m
entries_over files failed o seen source epoch job before (name ∷ names) inputs read next m =
    let others = rest_of inputs in
    let held = held_under files names in
    let then_ = entries_then source epoch job before names in
    let last_ = entries_last source epoch job before names in
    back_through (input name (entries_by source epoch) (get files name)) (then_ held) next o
    (after_over files failed name (entries_by source epoch) (inputs 0) (λ x. then_ others x >>= next) (λ x. then_ held x >>= next) o seen read.0
    (λ x h. back_through (room_for job before x) (last_ held) next o
    (after_same (room_for job before x) (λ few. last_ others few >>= next) (λ few. last_ held few >>= next) o
    (λ few k. back_through (entries_of source epoch job (before + length few) names held) (λ more. Ok (few ++ more)) next o
    (entries_over files failed o seen source epoch job (before + length few) names others read.1 (λ more. next (few ++ more))
    (through (entries_of source epoch job (before + length few) names others) (λ more. Ok (few ++ more)) next o k)))
    (through (room_for job before x) (last_ others) next o h)))
    (through (input name (entries_by source epoch) (inputs 0)) (then_ others) next o m))

-- a longer job
pub longer_over : (files : Files) (failed : Option (List ℕ) → Type 0) (source : Source) (head job : List ℕ) (names : List (List ℕ)) (given : Option (List ℕ)) (inputs : Inputs)
    (o : Result Done NamedFault) → IsSeen o → IsRead (Some files) failed head given → AreRead (Some files) failed names inputs
    → o ≡ longer_makes source head job names given inputs → o ≡ longer_makes source head job names (get files head) (held_under files names)
longer_over files failed source head job names given inputs o seen first others m =
    after_over files failed head head_in given (longer_after source job names inputs) (longer_after source job names (held_under files names)) o seen first
    (λ j. entries_over files failed o seen source j.epoch job (length j.entries) names inputs others (λ entries. Ok (longer_done source job names j entries))) m

-- jobs of an audit: they are those that the files hold, or one can't be read
abbrev SameJobs : Files → List JobFields → List (List ℕ) → Inputs → Type 0
SameJobs files before names inputs =
    (jobs_behind before names inputs ≡ jobs_behind before names (held_under files names))
    ⊎ ((name : List ℕ) × (jobs_behind before names inputs ≡ Err (unread name)))

same_next : (files : Files) (names : List (List ℕ)) (inputs : Inputs) (before : List JobFields) (r : Result JobFields NamedFault)
    → ((js : List JobFields) → SameJobs files js names inputs)
    → ((r >>= (λ j. jobs_behind (before ++ j ∷ []) names inputs)) ≡ (r >>= (λ j. jobs_behind (before ++ j ∷ []) names (held_under files names))))
    ⊎ ((name : List ℕ) × ((r >>= (λ j. jobs_behind (before ++ j ∷ []) names inputs)) ≡ Err (unread name)))
same_next files names inputs before (Ok j) rest = rest (before ++ j ∷ [])
same_next files names inputs before (Err e) rest = inl refl

same_first : (files : Files) (failed : Option (List ℕ) → Type 0) (before : List JobFields) (name : List ℕ) (names : List (List ℕ)) (g : Option (List ℕ)) (inputs : Inputs)
    → IsRead (Some files) failed name g → ((js : List JobFields) → SameJobs files js names inputs)
    → ((input name (job_behind before) g >>= (λ j. jobs_behind (before ++ j ∷ []) names inputs))
    ≡ (input name (job_behind before) (get files name) >>= (λ j. jobs_behind (before ++ j ∷ []) names (held_under files names))))
    ⊎ ((n : List ℕ) × ((input name (job_behind before) g >>= (λ j. jobs_behind (before ++ j ∷ []) names inputs)) ≡ Err (unread n)))
same_first files failed before name names None inputs read rest = inr (name, refl)
same_first files failed before name names (Some b) inputs read rest = rw read (same_next files names inputs before (input name (job_behind before) (Some b)) rest)

pub jobs_over : (files : Files) (failed : Option (List ℕ) → Type 0) (before : List JobFields) (names : List (List ℕ)) (inputs : Inputs)
    → AreRead (Some files) failed names inputs → SameJobs files before names inputs
jobs_over files failed before [] inputs read = inl refl
jobs_over files failed before (name ∷ names) inputs read =
    same_first files failed before name names (inputs 0) (rest_of inputs) read.0 (λ js. jobs_over files failed js names (rest_of inputs) read.1)

pub audit_over : (a : Audit) (files : Files) (inputs : Inputs) (store : Result (List SealedFields) NamedFault) (o : Result Done NamedFault) → IsSeen o
    → SameJobs files [] a.jobs inputs → MakesAudit a store (audit_jobs a.jobs inputs) o → MakesAudit a store (audit_jobs a.jobs (held_under files a.jobs)) o
audit_over a files inputs (Err e) o seen same m = m
audit_over a files inputs (Ok parts) o seen (inl same) m =
    subst (λ (r : Result (List JobFields) NamedFault). MakesAudit a (Ok parts) (r >>= (λ js. unless (bad_crl a.jobs js) js)) o) same m
audit_over a files inputs (Ok parts) o seen (inr (name, is)) m =
    absurd (seen (unread name) (subst (λ (r : Result (List JobFields) NamedFault). MakesAudit a (Ok parts) (r >>= (λ js. unless (bad_crl a.jobs js) js)) o) is m) refl)
