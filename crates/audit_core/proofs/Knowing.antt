-- What is known of the jobs and the ledger, as the code has them.
use Rattle.std.specs.List.{slice_get}
use Rattle.std.specs.Option.{option_map}
use Rattle.std.specs.Prelude.{OnOk, IfOk, IfErr, Result, Ok, Err, All, count_by}
use Rattle.std.proofs.Common.{◌≡◌, ℕ, ◌+◌, ◌<◌, ◌≤◌, List, map, length, take, get_or, Option, Some, refl, sym, ap, ◌∙◌, subst, arith}
use Rattle.std.proofs.lemmas.Option.{slice_get-map, slice_get_read}
use Rattle.std.proofs.lemmas.List.{take_all, length-map}
use Rattle.std.proofs.Math.ListN.{get_or-map}
use Rattle.card_core.specs.PartFields.{PartFields}
use Rattle.log_core.specs.declared.Entry.{Entry}
use Rattle.ledger_core.specs.declared.fields.LedgerPart.{LedgerPart}
use Rattle.ledger_core.specs.LedgerFields.{LedgerFields, LedgerPartFields, part_fields}
use Rattle.job_core.specs.declared.meaning.Job.{Job}
use Rattle.job_core.specs.JobFields.{JobFields, fields_of_job}
use Rattle.universe_core.specs.History.{seen}
use Rattle.universe_core.specs.Ledgers.{ledger_of, part_from}
use Rattle.history_core.specs.Facts.{IsSound}
use Rattle.audit_core.specs.declared.fault.AuditFault.{AuditFault}
use Rattle.audit_core.specs.Auditing.{left_by_jobs, entries_of, IsAuditable, AreAdmitted, IsAccepted, Agrees}
use Rattle.audit_core.specs.Checking.{listing, AreFine, is_told, IsFirstOf, IsFirstIn}
use Rattle.audit_core.proofs.Jobs.{history_sound, history-length}
use Rattle.audit_core.proofs.Judging.{parts_are, agrees_all, counted, few_at, first_is}

pub on_ok : {T E : Type 0} (r : Result T E) (P Q : Type 0) → OnOk r P → (P → Q) → OnOk r Q
on_ok (Ok x) P Q h f = f h
on_ok (Err e) P Q h f = h

pub if_ok : {T E : Type 0} (r : Result T E) (P Q : T → Type 0) → IfOk r P → ((x : T) → P x → Q x) → IfOk r Q
if_ok (Ok x) P Q h f = f x h
if_ok (Err e) P Q h f = h

pub if_err : {T E : Type 0} (r : Result T E) (P Q : E → Type 0) → IfErr r P → ((x : E) → P x → Q x) → IfErr r Q
if_err (Ok x) P Q h f = h
if_err (Err e) P Q h f = f e h

-- an element that was read, seen through a map
pub mapped_at : {A B : Type 0} (f : A → B) (xs : List A) (j : ℕ) (x : A) → j < length xs → x ≡ get_or xs j x → slice_get (map f xs) j ≡ Some (f x)
mapped_at f xs j x lt is = slice_get-map f xs j ∙ ap (option_map f) (slice_get_read xs (length xs) j x refl lt is)

pub sound_all : (jobs : List JobFields) (n : ℕ) → n ≡ length jobs → AreAdmitted jobs n → IsSound (left_by_jobs jobs)
sound_all jobs n e a = subst (λ l. IsSound (left_by_jobs l)) (take_all n jobs (omega arith)) (history_sound jobs n (omega arith) a)

pub parts_length : (ledger : LedgerFields) (jobs : List JobFields) → ledger ≡ ledger_of (left_by_jobs jobs) → length ledger.parts ≡ length jobs
parts_length ledger jobs is = ap (λ (l : LedgerFields). length l.parts) is ∙ ap length (parts_are (left_by_jobs jobs)) ∙ length-map (left_by_jobs jobs) part_from ∙ history-length jobs

pub known_length : (parts : List LedgerPart) (jobs : List Job) (ledger : LedgerFields) → map part_fields parts ≡ ledger.parts → ledger ≡ ledger_of (left_by_jobs (map fields_of_job jobs))
    → length parts ≡ length jobs
known_length parts jobs ledger p is = sym (length-map parts part_fields) ∙ ap length p ∙ parts_length ledger (map fields_of_job jobs) is ∙ length-map jobs fields_of_job

-- a job and its part
pub record Known (jobs : List JobFields) (j : ℕ) (ledger : LedgerFields) (job : JobFields) (part : LedgerPartFields) (entries : List (Option Entry)) : Type 0 where
  pub at : slice_get jobs j ≡ Some job
  pub sound : IsSound (left_by_jobs jobs)
  pub is : ledger ≡ ledger_of (left_by_jobs jobs)
  pub here : slice_get ledger.parts j ≡ Some part
  pub same : entries ≡ job.entries

pub known : (jobs : List Job) (j : ℕ) (ledger : LedgerFields) (parts : List LedgerPart) (job : Job) (part : LedgerPart) (entries : List (Option Entry)) → j < length jobs
    → AreAdmitted (map fields_of_job jobs) (length jobs) → ledger ≡ ledger_of (left_by_jobs (map fields_of_job jobs)) → map part_fields parts ≡ ledger.parts
    → job ≡ get_or jobs j job → part ≡ get_or parts j part → entries ≡ (get_or jobs j job).entries.items
    → Known (map fields_of_job jobs) j ledger (fields_of_job job) (part_fields part) entries
known jobs j ledger parts job part entries lt admitted is p at_job at_part from =
    let many = known_length parts jobs ledger p is in
    record {
      at = mapped_at fields_of_job jobs j job lt at_job;
      sound = sound_all (map fields_of_job jobs) (length jobs) (sym (length-map jobs fields_of_job)) admitted;
      is = is;
      here = ap (λ ps. slice_get ps j) (sym p) ∙ mapped_at part_fields parts j part (omega (arith, lt, many)) at_part;
      same = from ∙ ap (λ (k : Job). k.entries.items) (sym at_job);
    }

pub known_agree : (jobs : List JobFields) (j : ℕ) (ledger : LedgerFields) (job : JobFields) (part : LedgerPartFields) (entries : List (Option Entry)) → Known jobs j ledger job part entries
    → (store : List PartFields) → AreFine store (listing ledger part) entries (length entries) → (n : ℕ) (e : Entry) → IsAccepted jobs j n e → Agrees store jobs e
known_agree jobs j ledger job part entries k store f =
    agrees_all jobs j job k.at k.sound ledger k.is part k.here store (subst (λ es. AreFine store (listing ledger part) es (length es)) k.same f)

pub known_count : (jobs : List JobFields) (j : ℕ) (ledger : LedgerFields) (job : JobFields) (part : LedgerPartFields) (entries : List (Option Entry)) → Known jobs j ledger job part entries
    → (n : ℕ) → n ≡ count_by (is_told (listing ledger part)) entries → length (seen (left_by_jobs (take (j + 1) jobs))) ≡ length (seen (left_by_jobs (take j jobs))) + n
known_count jobs j ledger job part entries k n h =
    counted jobs j job k.at k.sound ledger k.is part k.here n (h ∙ ap (count_by (is_told (listing ledger part))) k.same)

pub known_few : (jobs : List JobFields) (j : ℕ) (ledger : LedgerFields) (job : JobFields) (part : LedgerPartFields) (entries : List (Option Entry)) → Known jobs j ledger job part entries
    → (n : ℕ) → n ≡ count_by (is_told (listing ledger part)) entries → entries_of (take j jobs) + n ≤ entries_of (take (j + 1) jobs)
known_few jobs j ledger job part entries k n h =
    few_at jobs j job k.at k.sound ledger k.is part k.here n (h ∙ ap (count_by (is_told (listing ledger part))) k.same)

pub known_first : (jobs : List JobFields) (j : ℕ) (ledger : LedgerFields) (job : JobFields) (part : LedgerPartFields) (entries : List (Option Entry)) → Known jobs j ledger job part entries
    → (store : List PartFields) (fault : AuditFault) → IsFirstOf store (listing ledger part) j entries fault → IsFirstIn store jobs j fault
known_first jobs j ledger job part entries k store fault f =
    first_is jobs j job k.at k.sound ledger k.is part k.here store fault (subst (λ es. IsFirstOf store (listing ledger part) j es fault) k.same f)

-- what is asked of each job holds of one that was read
pub auditable_at : (jobs : List Job) (i : ℕ) (job : Job) → i < length jobs → job ≡ get_or jobs i job → All IsAuditable (map fields_of_job jobs) → IsAuditable (fields_of_job job)
auditable_at jobs i job lt is all =
    let n = length-map jobs fields_of_job in
    subst IsAuditable (get_or-map fields_of_job jobs i job ∙ ap fields_of_job (sym is)) (all i (fields_of_job job) (omega (arith, lt, n)))
