-- How many entries are late, and how many are accepted.
use Rattle.std.specs.List.{count_by, filter_map, cons_option}
use Rattle.std.proofs.Common.{◌≡◌, ℕ, suc, ◌+◌, ◌-◌, ◌≤◌, List, [], ◌∷◌, filter, length, Bool, true, false, cond, not, ◌&&◌, Option, Some, None, refl, sym, ap, ◌∙◌, arith}
use Rattle.std.proofs.lemmas.Bool.{true≢false}
use Rattle.std.proofs.lemmas.List.Sums.{length-filter, count_by-le-length}
use Rattle.ident_core.specs.Coverage.{covers}
use Rattle.ledger_core.specs.LedgerFields.{LedgerFields}
use Rattle.ident_core.specs.Sets.{has_key}
use Rattle.job_core.specs.declared.meaning.Job.{Job}
use Rattle.universe_core.specs.Jobs.{Entry, JobFacts, facts_of_job, enrolled}
use Rattle.universe_core.specs.History.{Past, class_by, class_of}
use Rattle.universe_core.specs.Ledgers.{no_ledger, past_in}
use Rattle.universe_core.specs.Counting.{is_class, count}
use Rattle.universe_core.specs.Reading.{if_read, comes_late_in}
use Rattle.universe_core.specs.declared.class.Class.{Class}
use Rattle.universe_core.specs.declared.class.Class.TheVariants.{Uncovered, Unenrolled, Late, Accepted}
use Rattle.universe_core.proofs.Classes.{none_late}

late_step : (c n l : Bool) (e : Entry) (o : Option Entry) (rest : List Entry) (others : List (Option Entry)) (t : Entry → Bool) → t e ≡ l → length (filter t rest) ≡ length others
    → length (filter t (cons_option (cond (c && n) (Some e) None) rest)) ≡ length (cond (is_class Late (cond (not c) Uncovered (cond (not n) Unenrolled (cond l Late Accepted)))) (o ∷ others) others)
late_step true true true e o rest others t h r = rw h (ap suc r)
late_step true true false e o rest others t h r = rw h r
late_step true false l e o rest others t h r = r
late_step false n l e o rest others t h r = r

-- the late entries are those of the read ones that come late
late_read : (past : Past) (job : JobFacts) (es : List (Option Entry))
    → length (filter (λ (e : Entry). past.comes_late e.id e.sighting) (filter_map (if_read job.ranges (enrolled job)) es))
    ≡ length (filter (λ o. is_class Late (class_of past job o)) es)
unfolding class_by
late_read past job [] = refl
late_read past job (None ∷ es) = late_read past job es
late_read past job (Some e ∷ es) =
    late_step (covers job.ranges e.sighting) (has_key (enrolled job) e.id.issuer) (past.comes_late e.id e.sighting) e (Some e) (filter_map (if_read job.ranges (enrolled job)) es)
    (filter (λ o. is_class Late (class_of past job o)) es) (λ (d : Entry). past.comes_late d.id d.sighting) refl (late_read past job es)

pub late_is : (ledger : LedgerFields) (job : JobFacts) (left : List Entry) (n : ℕ)
    → left ≡ filter_map (if_read job.ranges (enrolled job)) job.entries → n ≡ count_by (comes_late_in ledger) left → n ≡ count Late (past_in ledger) job
late_is ledger job left n l h =
    h ∙ ap (count_by (λ (e : Entry). (past_in ledger).comes_late e.id e.sighting)) l
    ∙ sym (length-filter (λ (e : Entry). (past_in ledger).comes_late e.id e.sighting) (filter_map (if_read job.ranges (enrolled job)) job.entries)) ∙ late_read (past_in ledger) job job.entries
    ∙ length-filter (λ o. is_class Late (class_of (past_in ledger) job o)) job.entries

pub count_few : (k : Class) (past : Past) (job : JobFacts) → count k past job ≤ length job.entries
count_few k past job = count_by-le-length (λ o. is_class k (class_of past job o)) job.entries

-- ---- what is read is late or accepted

both_step : (c n l m : Bool) (o : Option Entry) (xs ls ts : List (Option Entry)) → m ≡ false → length xs ≡ length ls + length ts
    → length (cond (is_class Accepted (cond (not c) Uncovered (cond (not n) Unenrolled (cond m Late Accepted)))) (o ∷ xs) xs)
    ≡ length (cond (is_class Late (cond (not c) Uncovered (cond (not n) Unenrolled (cond l Late Accepted)))) (o ∷ ls) ls) + length
    (cond (is_class Accepted (cond (not c) Uncovered (cond (not n) Unenrolled (cond l Late Accepted)))) (o ∷ ts) ts)
both_step true true true true o xs ls ts e h = absurd (true≢false e)
both_step true true false true o xs ls ts e h = absurd (true≢false e)
both_step true true true false o xs ls ts e h = omega arith
both_step true true false false o xs ls ts e h = omega arith
both_step true false l m o xs ls ts e h = h
both_step false n l m o xs ls ts e h = h

both : (past : Past) (job : JobFacts) (es : List (Option Entry))
    → length (filter (λ o. is_class Accepted (class_of (past_in no_ledger) job o)) es)
    ≡ length (filter (λ o. is_class Late (class_of past job o)) es) + length (filter (λ o. is_class Accepted (class_of past job o)) es)
unfolding class_by
both past job [] = refl
both past job (None ∷ es) = both past job es
both past job (Some e ∷ es) =
    both_step (covers job.ranges e.sighting) (has_key (enrolled job) e.id.issuer) (past.comes_late e.id e.sighting) ((past_in no_ledger).comes_late e.id e.sighting)
    (Some e) (filter (λ o. is_class Accepted (class_of (past_in no_ledger) job o)) es)
    (filter (λ o. is_class Late (class_of past job o)) es) (filter (λ o. is_class Accepted (class_of past job o)) es) (none_late e.id e.sighting) (both past job es)

pub read_is_both : (past : Past) (job : JobFacts) → count Accepted (past_in no_ledger) job ≡ count Late past job + count Accepted past job
read_is_both past job =
    let a = length-filter (λ o. is_class Accepted (class_of (past_in no_ledger) job o)) job.entries in
    let b = length-filter (λ o. is_class Late (class_of past job o)) job.entries in
    let c = length-filter (λ o. is_class Accepted (class_of past job o)) job.entries in
    let d = both past job job.entries in
    omega arith

-- ---- the classes that a job alone tells

class_step : (k : Class) → is_class k Late ≡ is_class k Accepted → (c n l m : Bool)
    → is_class k (cond (not c) Uncovered (cond (not n) Unenrolled (cond l Late Accepted))) ≡ is_class k (cond (not c) Uncovered (cond (not n) Unenrolled (cond m Late Accepted)))
class_step k h true true true true = refl
class_step k h true true true false = h
class_step k h true true false true = sym h
class_step k h true true false false = refl
class_step k h true false l m = refl
class_step k h false n l m = refl

class_agree : (k : Class) → is_class k Late ≡ is_class k Accepted → (p q : Past) (job : JobFacts) (o : Option Entry) → is_class k (class_of p job o) ≡ is_class k (class_of q job o)
unfolding class_by
class_agree k h p q job None = refl
class_agree k h p q job (Some e) = class_step k h (covers job.ranges e.sighting) (has_key (enrolled job) e.id.issuer) (p.comes_late e.id e.sighting) (q.comes_late e.id e.sighting)

pub count_alone : (k : Class) → is_class k Late ≡ is_class k Accepted → (p q : Past) (job : JobFacts) → count k p job ≡ count k q job
count_alone k h p q job = ap (λ f. count_by f job.entries) (λ i. λ o. class_agree k h p q job o i)

-- ---- of a job, as the code counts it

pub late_fits : (ledger : LedgerFields) (job : Job) (n : ℕ) → n ≡ count Late (past_in ledger) (facts_of_job job) → length job.entries.items ≤ 4294967295 → n ≤ 4294967295
late_fits ledger job n h few =
    let a = count_few Late (past_in ledger) (facts_of_job job) in
    omega arith

pub late_within : (past : Past) (job : JobFacts) (read late : ℕ) → read ≡ count Accepted (past_in no_ledger) job → late ≡ count Late past job → late ≤ read
late_within past job read late r l = let b = read_is_both past job in omega arith

pub accepted_rest : (past : Past) (job : JobFacts) (read late : ℕ) → read ≡ count Accepted (past_in no_ledger) job → late ≡ count Late past job → read - late ≡ count Accepted past job
accepted_rest past job read late r l = let b = read_is_both past job in omega arith
