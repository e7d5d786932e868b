-- Histories with one job more, and the facts that hold after each job.
use Rattle.std.proofs.Common.{◌≡◌, ℕ, suc, ◌+◌, List, [], ◌∷◌, ◌++◌, map, length, Bool, true, false, cond, not, Option, Some, refl, ap, arith}
use Rattle.std.specs.Prelude.{IsNone, IfSome}
use Rattle.std.specs.List.{find}
use Rattle.std.specs.Option.{option_map}
use Rattle.std.proofs.lemmas.Bool.{and_from}
use Rattle.std.proofs.lemmas.List.{map-append}
use Rattle.ident_core.specs.declared.range.Range.{Range}
use Rattle.ident_core.specs.Coverage.{lies_in_some, first_outside}
use Rattle.ident_core.proofs.Within.{within-iff}
use Rattle.part_text.specs.SealedFields.{SealedFields}
use Rattle.universe_core.specs.Formats.{JobIn, facts_in}
use Rattle.universe_core.specs.History.{Release, lie_within}
use Rattle.history_core.specs.Bases.{releases_cut, base_at, is_lasting_by}
use Rattle.history_core.specs.Facts.{KeepsCoverage, IsSound}
use Rattle.history_core.proofs.Bases.{base_sound}
use Rattle.history_core.proofs.Sound.{nothing_sound, keeps_sound}
use Rattle.history_core.proofs.Cuts.{cut_sound}
use Rattle.publication_core.specs.Histories.{Published, newest_of, GoesOn, IsAdmissible, IsPartOf, release_of, releases_after, AreAdmissible, History, of_jobs, rebased, parts_of, members, with_jobs, IsHistory, releases_of}

-- ---- one job more

history_push : (rs : List Release) (ps : List Published) (p : Published) → releases_after rs (ps ++ p ∷ []) ≡ releases_after rs ps ++ release_of (releases_after rs ps) p ∷ []
history_push rs [] p = refl
history_push rs (q ∷ ps) p = history_push (rs ++ release_of rs q ∷ []) ps p

admissible_push : (rs : List Release) (ps : List Published) (p : Published) → AreAdmissible rs ps → IsAdmissible (releases_after rs ps) p.job
    → IsPartOf (releases_after rs ps) p.job p.sealed → AreAdmissible rs (ps ++ p ∷ [])
admissible_push rs [] p h a is = (a, is, tt)
admissible_push rs (q ∷ ps) p h a is = (h.0, h.1, admissible_push (rs ++ release_of rs q ∷ []) ps p h.2 a is)

length_more : {A : Type 0} (xs : List A) (x : A) → length (xs ++ x ∷ []) ≡ suc (length xs)
length_more [] x = refl
length_more (y ∷ xs) x = ap suc (length_more xs x)

history_length : (rs : List Release) (ps : List Published) → length (releases_after rs ps) ≡ length rs + length (map (λ p. p.sealed) ps)
history_length rs [] = omega arith
history_length rs (p ∷ ps) =
    let more = length_more rs (release_of rs p) in
    omega (arith, more, history_length (rs ++ release_of rs p ∷ []) ps)

-- ---- each job goes on from those before it

none_outside : (b : Bool) (r : Range) (rest : Option Range) → IsNone (option_map (λ (x : Range). x.log) (cond (not b) (Some r) rest)) → (b ≡ true) × IsNone (option_map (λ (x : Range). x.log) rest)
none_outside true r rest h = (refl, h)
none_outside false r rest h = absurd cc

all_lie : (new old : List Range) → IsNone (first_outside old new) → lie_within old new ≡ true
all_lie new [] h = refl
all_lie new (r ∷ old) h =
    let n = none_outside (lies_in_some new r) r (find (λ (x : Range). not (lies_in_some new x)) old) h in
    and_from (lies_in_some new r) (lie_within old new) n.0 (all_lie new old n.1)

follows : (rs : List Release) (job : JobIn) → IfSome (newest_of rs) (GoesOn job.job) → KeepsCoverage rs (facts_in job)
follows [] job h = tt
follows (r ∷ []) job h = all_lie job.job.ranges r.ranges ((within-iff r.ranges job.job.ranges (first_outside r.ranges job.job.ranges) refl).1 h.coverage)
follows (r ∷ q ∷ rs) job h = follows (q ∷ rs) job h

-- The facts hold after each job that may follow.
pub job_sound : (rs : List Release) (p : Published) → IsSound rs → IsAdmissible rs p.job → IsSound (rs ++ release_of rs p ∷ [])
job_sound rs p sound a = keeps_sound rs (facts_in p.job) p.sealed.trailer sound (follows rs p.job a.goes_on)

after_sound : (rs : List Release) (ps : List Published) → IsSound rs → AreAdmissible rs ps → IsSound (releases_after rs ps)
after_sound rs [] sound h = sound
after_sound rs (p ∷ ps) sound h = after_sound (rs ++ release_of rs p ∷ []) ps (job_sound rs p sound h.0) h.2

-- The facts hold of a base alone.
pub base_at_sound : (moment : ℕ) (rs : List Release) (s : SealedFields) → IsSound rs → IsSound (base_at moment rs s.trailer ∷ [])
base_at_sound moment rs s sound = base_sound (is_lasting_by moment rs) rs s.trailer sound

-- The facts hold after each history.
pub history_sound : (h : History) → IsHistory h → IsSound (releases_of h)
history_sound (of_jobs ps) is = after_sound [] ps nothing_sound is
history_sound (rebased h moment cut s ps) is =
    after_sound (base_at moment (releases_cut cut (releases_of h)) s.trailer ∷ []) ps
    (base_at_sound moment (releases_cut cut (releases_of h)) s (cut_sound cut (releases_of h) (history_sound h is.0))) is.3

-- ---- a history with a job more

pub with_job_leaves : (h : History) (p : Published) → releases_of (with_jobs h (p ∷ [])) ≡ releases_of h ++ release_of (releases_of h) p ∷ []
with_job_leaves (of_jobs ps) p = history_push [] ps p
with_job_leaves (rebased h moment cut s ps) p = history_push (base_at moment (releases_cut cut (releases_of h)) s.trailer ∷ []) ps p

pub with_job_is : (h : History) (p : Published) → IsHistory h → IsAdmissible (releases_of h) p.job → IsPartOf (releases_of h) p.job p.sealed → IsHistory (with_jobs h (p ∷ []))
with_job_is (of_jobs ps) p is a part = admissible_push [] ps p is a part
with_job_is (rebased h moment cut s ps) p is a part =
    (is.0, is.1, is.2, admissible_push (base_at moment (releases_cut cut (releases_of h)) s.trailer ∷ []) ps p is.3 a part)

pub with_job_parts : (h : History) (p : Published) → parts_of (with_jobs h (p ∷ [])) ≡ parts_of h ++ p.sealed ∷ []
with_job_parts (of_jobs ps) p = map-append (λ q. q.sealed) ps (p ∷ [])
with_job_parts (rebased h moment cut s ps) p = ap (λ (ss : List SealedFields). s ∷ ss) (map-append (λ q. q.sealed) ps (p ∷ []))

-- a member leaves one release
pub members_many : (h : History) → length (releases_of h) ≡ members h
members_many (of_jobs ps) = omega (arith, history_length [] ps)
members_many (rebased h moment cut s ps) = omega (arith, history_length (base_at moment (releases_cut cut (releases_of h)) s.trailer ∷ []) ps)
