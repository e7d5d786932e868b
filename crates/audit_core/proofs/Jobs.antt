-- The history of jobs, one job after the other.
use Rattle.std.specs.List.{slice_get}
use Rattle.std.proofs.Common.{◌≡◌, ℕ, zero, suc, ◌+◌, ◌≤◌, List, [], ◌∷◌, ◌++◌, map, length, take, drop, Some, refl, sym, ap, ◌∙◌, subst, append_assoc, length-append, arith}
use Rattle.std.proofs.lemmas.List.{map-append, append-nil, length-map}
use Rattle.ident_core.specs.HeadFields.{zero_key}
use Rattle.job_core.specs.declared.bounds.TheConstants.Limits.{PUBLISHED}
use Rattle.job_core.specs.JobFields.{JobFields}
use Rattle.log_core.specs.declared.Entry.{Entry}
use Rattle.ident_core.proofs.Elements.{some_item}
use Rattle.universe_core.specs.Jobs.{JobFacts, facts_of}
use Rattle.universe_core.specs.declared.class.Class.TheVariants.{Accepted}
use Rattle.universe_core.specs.History.{Release, class_of, past_of, released, releases}
use Rattle.history_core.specs.Facts.{IsSound}
use Rattle.history_core.proofs.Sound.{nothing_sound, keeps_sound}
use Rattle.history_core.proofs.Following.{admitted_follows}
use Rattle.audit_core.specs.Auditing.{left_by_jobs, AreAdmitted, IsAccepted}
use Rattle.audit_core.proofs.Lists.{at_place, cut_at, take_at}

abbrev zeros : List Release → JobFacts → List ℕ
zeros rs job = zero_key

-- ---- releases

releases-append : (trailer : List Release → JobFacts → List ℕ) (rs : List Release) (xs ys : List JobFacts) → releases trailer rs (xs ++ ys) ≡ releases trailer (releases trailer rs xs) ys
unfolding releases
releases-append t rs [] ys = refl
releases-append t rs (x ∷ xs) ys = releases-append t (rs ++ released (past_of rs) x (t rs x) ∷ []) xs ys

-- they begin with those that were there
releases-rest : (trailer : List Release → JobFacts → List ℕ) (rs : List Release) (jobs : List JobFacts) → (rest : List Release) × (releases trailer rs jobs ≡ rs ++ rest)
unfolding releases
releases-rest t rs [] = ([], sym (append-nil rs))
releases-rest t rs (job ∷ jobs) =
    let r = released (past_of rs) job (t rs job) in
    let n = releases-rest t (rs ++ r ∷ []) jobs in
    (r ∷ n.0, n.1 ∙ append_assoc rs (r ∷ []) n.0)

releases-length : (trailer : List Release → JobFacts → List ℕ) (rs : List Release) (jobs : List JobFacts) → length (releases trailer rs jobs) ≡ length rs + length jobs
unfolding releases
releases-length t rs [] = omega arith
releases-length t rs (job ∷ jobs) =
    let r = released (past_of rs) job (t rs job) in
    let n = releases-length t (rs ++ r ∷ []) jobs in
    let m = length-append rs (r ∷ []) in
    omega arith

-- ---- the history

-- what a job leaves behind others
abbrev pub release_behind : List JobFields → JobFields → Release
release_behind jobs job = released (past_of (left_by_jobs jobs)) (facts_of job) zero_key

history-append : (xs ys : List JobFields) → left_by_jobs (xs ++ ys) ≡ releases zeros (left_by_jobs xs) (map facts_of ys)
unfolding left_by_jobs
history-append xs ys = ap (releases zeros []) (map-append facts_of xs ys) ∙ releases-append zeros [] (map facts_of xs) (map facts_of ys)

pub history-push : (jobs : List JobFields) (job : JobFields) → left_by_jobs (jobs ++ job ∷ []) ≡ left_by_jobs jobs ++ release_behind jobs job ∷ []
unfolding releases
history-push jobs job = history-append jobs (job ∷ [])

-- the history up to a job, with it
pub history_at : (jobs : List JobFields) (j : ℕ) (job : JobFields) → slice_get jobs j ≡ Some job
    → left_by_jobs (take (j + 1) jobs) ≡ left_by_jobs (take j jobs) ++ release_behind (take j jobs) job ∷ []
history_at jobs j job h = ap left_by_jobs (take_at jobs j job h) ∙ history-push (take j jobs) job

-- the whole history, cut at a job
pub history_cut : (jobs : List JobFields) (j : ℕ) (job : JobFields) → slice_get jobs j ≡ Some job
    → (after : List Release) × (left_by_jobs jobs ≡ left_by_jobs (take j jobs) ++ release_behind (take j jobs) job ∷ after)
unfolding releases
history_cut jobs j job h =
    let rest = releases-rest zeros (left_by_jobs (take j jobs) ++ release_behind (take j jobs) job ∷ []) (map facts_of (drop (suc j) jobs)) in (
      rest.0,
      ap left_by_jobs (cut_at jobs j job h) ∙ history-append (take j jobs) (job ∷ drop (suc j) jobs) ∙ rest.1
          ∙ append_assoc (left_by_jobs (take j jobs)) (release_behind (take j jobs) job ∷ []) rest.0,
    )

pub history-length : (jobs : List JobFields) → length (left_by_jobs jobs) ≡ length jobs
unfolding left_by_jobs
history-length jobs = let a = releases-length zeros [] (map facts_of jobs) in let b = length-map jobs facts_of in omega arith

pub history-none : left_by_jobs [] ≡ []
unfolding left_by_jobs releases
history-none = refl

-- the facts hold after admitted jobs
pub history_sound : (jobs : List JobFields) (n : ℕ) → n ≤ length jobs → AreAdmitted jobs n → IsSound (left_by_jobs (take n jobs))
history_sound jobs zero le a = subst IsSound (sym history-none) nothing_sound
history_sound jobs (suc n) le a =
    let at = at_place jobs n (omega arith) in
    let before = history_sound jobs n (omega arith) (λ j job lt h. a j job (omega arith) h) in
    let follows = admitted_follows PUBLISHED (left_by_jobs (take n jobs)) at.0 (a n at.0 (omega arith) at.1) in
    let longer : suc n ≡ n + 1 = omega arith in
    subst IsSound (sym (ap (λ k. left_by_jobs (take k jobs)) longer ∙ history_at jobs n at.0 at.1))
    (keeps_sound (left_by_jobs (take n jobs)) (facts_of at.0) zero_key before follows)

-- ---- entries

-- an accepted entry stands in the job of its place, which accepts it
pub accepted_in : (jobs : List JobFields) (j : ℕ) (job : JobFields) → slice_get jobs j ≡ Some job → (n : ℕ) (e : Entry) → IsAccepted jobs j n e
    → (slice_get job.entries n ≡ Some (Some e)) × (class_of (past_of (left_by_jobs (take j jobs))) (facts_of job) (Some e) ≡ Accepted)
accepted_in jobs j job at n e a =
    let same = some_item a.job job (sym a.at ∙ at) in (
      subst (λ (k : JobFields). slice_get k.entries n ≡ Some (Some e)) same a.entry,
      subst (λ (k : JobFields). class_of (past_of (left_by_jobs (take j jobs))) (facts_of k) (Some e) ≡ Accepted) same a.accepted,
    )
