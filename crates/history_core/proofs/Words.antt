-- The definitions in other words.
use Rattle.std.specs.List.{list_any, filter, AllZip, count_by, slice_get}
use Rattle.std.specs.Prelude.{is_some}
use Rattle.std.proofs.Common.{◌≡◌, ℕ, zero, suc, ◌+◌, inl, List, [], ◌∷◌, ◌++◌, drop, length, Bool, true, false, cond, not, ◌&&◌, ◌||◌, Option, Some}
use Rattle.std.proofs.Common.{None, refl, sym, ap, ◌∙◌, subst, arith, append_assoc}
use Rattle.std.proofs.lemmas.Map.Views.{any-filter_same}
use Rattle.std.proofs.lemmas.List.Sums.{sum_by-cons}
use Rattle.std.proofs.lemmas.List.{append-nil}
use Rattle.ident_core.specs.declared.identity.Identity.{Identity}
use Rattle.ident_core.specs.declared.range.Sighting.{Sighting}
use Rattle.ident_core.specs.Order.{is_same}
use Rattle.ident_core.specs.Coverage.{covers}
use Rattle.ident_core.specs.Among.{Among}
use Rattle.ident_core.specs.Sets.{has, has_key}
use Rattle.ident_core.proofs.Elements.{any_at, bool_same, found}
use Rattle.ident_core.proofs.Sets.{same_is}
use Rattle.std.proofs.lemmas.Bool.{and_from, and_parts}
use Rattle.universe_core.specs.Jobs.{Entry, JobFacts, enrolled, lists}
use Rattle.universe_core.specs.Counting.{is_class, count}
use Rattle.universe_core.specs.History.{class_of, Release, Past, past_of, released, releases, shown, revoked, is_revoked, universe}
use Rattle.universe_core.specs.History.{sightings, seen, birth, enrolls_and_lists, is_listed, already_revoked_by}
use Rattle.universe_core.specs.declared.class.Class.{Class}
use Rattle.universe_core.specs.declared.class.Class.TheVariants.{Unread, Uncovered, Unenrolled, Late, Accepted}
use Rattle.universe_core.specs.Ledgers.{last}
use Rattle.history_core.specs.Facts.{IsSound, Widens, Leaves}
use Rattle.history_core.proofs.Accepting.{universe_is}
use Rattle.history_core.proofs.Releases.{seen-push, sightings-append, settled_parts, listed-cons, listed_none, is_listed_at, is_listed_by, is_listed-push, or-false}
use Rattle.history_core.proofs.Places.{CoversAll, last_is}
use Rattle.history_core.proofs.Ledger.{listed_case}

-- ---- the last part covers the sightings, and last is a number exactly for the listed

some_same : {A : Type 0} (a b : A) → ◌≡◌ {A = Option A} (Some a) (Some b) → a ≡ b
some_same a b h = cc

last_case : (rs : List Release) (x : Identity) (k : ℕ) (o : Option ℕ) → IsSound rs → CoversAll x rs o → o ≡ Some k
    → (r : Release) × (slice_get rs k ≡ Some r) × ((s : Sighting) → Among (sightings x (seen rs)) s → covers r.ranges s ≡ true)
last_case rs x k None sound l e = absurd cc
last_case rs x k (Some j) sound l e =
    let st = settled_parts rs x (sightings x (seen rs)) (sound.settled x (sound.revoked x l.0 l.1 l.3)) in
    (l.0, ap (slice_get rs) (sym (some_same j k e)) ∙ l.2, λ s a. l.4 st.by st.among st.revoked s (st.covered s a))

pub last_covers_sightings : (rs : List Release) (x : Identity) (k : ℕ) → IsSound rs → last x rs ≡ Some k
    → (r : Release) × (slice_get rs k ≡ Some r) × ((s : Sighting) → Among (sightings x (seen rs)) s → covers r.ranges s ≡ true)
last_covers_sightings rs x k sound e = last_case rs x k (last x rs) sound (last_is x rs sound.widens) e

pub last_for_listed : (rs : List Release) (x : Identity) → IsSound rs → is_some (last x rs) ≡ is_listed rs x
last_for_listed rs x sound = listed_case rs sound x (last x rs) (last_is x rs sound.widens)

-- ---- a filter's elements

pub has-filter : (p : Identity → Bool) (xs : List Identity) (x : Identity) → has (filter p xs) x ≡ (p x && has xs x)
has-filter p xs x = any-filter_same (is_same x) p (p x) (λ y e. ap p (sym (same_is x y e))) xs

-- ---- the revoked set, over the whole history

pub sightings-push : (rs : List Release) (r : Release) (x : Identity) → sightings x (seen (rs ++ r ∷ [])) ≡ sightings x (seen rs) ++ sightings x r.shown
sightings-push rs r x = ap (sightings x) (seen-push rs r) ∙ sightings-append x (seen rs) r.shown

under : (a b u : Bool) → (u ≡ true → a ≡ b) → (a && u) ≡ (b && u)
under a b true h = ap (λ c. c && true) (h refl)
under true true false h = refl
under true false false h = refl
under false true false h = refl
under false false false h = refl

and-one : (b : Bool) → (b && true) ≡ b
and-one true = refl
and-one false = refl

-- of the universe: listed before, or by the job
listed_member : (rs : List Release) (job : JobFacts) (trailer : List ℕ) (x : Identity) → has (universe (past_of rs) job) x ≡ true
    → is_listed (rs ++ released (past_of rs) job trailer ∷ []) x ≡ (is_listed rs x || lists job x)
listed_member rs job trailer x u =
    let i = universe_is (past_of rs) job x u in
    is_listed-push rs (released (past_of rs) job trailer) x i.0
    ∙ ap (λ b. is_listed rs x || (lists job x && b)) i.1 ∙ ap (λ b. is_listed rs x || b) (and-one (lists job x))

-- of the universe, listed up to now, without those that an earlier release revokes while it covers all their sightings
pub revoked_in_words : (rs : List Release) (job : JobFacts) (trailer : List ℕ) (x : Identity) → has (revoked (past_of rs) job) x
    ≡ ((is_listed (rs ++ released (past_of rs) job trailer ∷ []) x && not
    (already_revoked_by rs x (sightings x (seen (rs ++ released (past_of rs) job trailer ∷ []))))) && has (universe (past_of rs) job) x)
unfolding revoked is_revoked past_of
revoked_in_words rs job trailer x =
    let past : Past = past_of rs in
    let after : List Release = rs ++ released past job trailer ∷ [] in
    let settled : List Sighting → Bool = already_revoked_by rs x in
    has-filter (is_revoked past job) (universe past job) x
    ∙ under ((is_listed rs x || lists job x) && not (settled (sightings x (seen rs) ++ sightings x (shown past job))))
    (is_listed after x && not (settled (sightings x (seen after)))) (has (universe past job) x)
    (λ u. ap (λ b. b && not (settled (sightings x (seen rs) ++ sightings x (shown past job)))) (sym (listed_member rs job trailer x u))
    ∙ ap (λ ss. is_listed after x && not (settled ss)) (sym (sightings-push rs (released past job trailer) x)))

-- ---- listed

-- some release that had accepted it enrolls its issuer and lists it
pub listed_once : (rs : List Release) (x : Identity) → Widens rs → is_listed rs x ≡ list_any (λ r. has r.accepted x && enrolls_and_lists x r) rs
listed_once rs x w =
    let once : Release → Bool = λ r. has r.accepted x && enrolls_and_lists x r in
    bool_same (is_listed rs x) (list_any once rs)
    (λ h. let l = is_listed_by rs x h in
    any_at once rs l.by l.among (and_from (has l.by.accepted x) (enrolls_and_lists x l.by) (l.accepted w) l.lists))
    (λ h. let f = found once rs h in
    let p = and_parts (has f.0.accepted x) (enrolls_and_lists x f.0) f.2 in
    is_listed_at rs f.0 x f.1 p.0 p.1)

abbrev says : Identity → JobFacts → Bool
says x job = lists job x && has_key (enrolled job) x.issuer

zip_any : (x : Identity) (jobs : List JobFacts) (rs : List Release) → AllZip Leaves jobs rs → list_any (enrolls_and_lists x) rs ≡ list_any (says x) jobs
zip_any x [] [] z = refl
zip_any x [] (r ∷ rs) z = absurd z
zip_any x (job ∷ jobs) [] z = absurd z
zip_any x (job ∷ jobs) (r ∷ rs) z =
    λ i. (z.0.lists x i && has_key (z.0.issuers i) x.issuer) || zip_any x jobs rs z.1 i

zip_drop : (n : ℕ) (jobs : List JobFacts) (rs : List Release) → AllZip Leaves jobs rs → AllZip Leaves (drop n jobs) (drop n rs)
zip_drop zero jobs rs z = z
zip_drop (suc n) [] [] z = z
zip_drop (suc n) [] (r ∷ rs) z = absurd z
zip_drop (suc n) (job ∷ jobs) [] z = absurd z
zip_drop (suc n) (job ∷ jobs) (r ∷ rs) z = zip_drop n jobs rs z.1

pub listed_in_words : (x : Identity) (jobs : List JobFacts) (rs : List Release) → AllZip Leaves jobs rs
    → is_listed rs x ≡ list_any (λ job. lists job x && has_key (enrolled job) x.issuer) (drop (birth x rs) jobs)
unfolding is_listed
listed_in_words x jobs rs z = zip_any x (drop (birth x rs) jobs) (drop (birth x rs) rs) (zip_drop (birth x rs) jobs rs z)

-- what the first has accepted, one of all lists or none
listed_of_known : (rs : List Release) (x : Identity) → ((r : Release) → Among rs r → has r.accepted x ≡ true)
    → is_listed rs x ≡ list_any (enrolls_and_lists x) rs
listed_of_known [] x h = listed_none x
listed_of_known (r ∷ rs) x h = listed-cons r rs x true (h r (inl refl))

-- behind a base: the base lists it, or such a job does
behind_base : (base : Release) (rs : List Release) (x : Identity) (b : Bool) → has base.accepted x ≡ b → Widens (base ∷ rs)
    → is_listed (base ∷ rs) x ≡ (is_listed (base ∷ []) x || is_listed rs x)
behind_base base rs x true e w =
    listed-cons base rs x true e
    ∙ ap (λ b. enrolls_and_lists x base || b) (sym (listed_of_known rs x (λ r a. (w.0 r a).accepted x e)))
    ∙ ap (λ b. b || is_listed rs x) (sym (listed-cons base [] x true e ∙ or-false (enrolls_and_lists x base)))
behind_base base rs x false e w =
    listed-cons base rs x false e ∙ ap (λ b. b || is_listed rs x) (sym (listed-cons base [] x false e ∙ listed_none x))

pub listed_behind : (x : Identity) (jobs : List JobFacts) (base : Release) (rs : List Release) → AllZip Leaves jobs rs → Widens (base ∷ rs)
    → is_listed (base ∷ rs) x
    ≡ (is_listed (base ∷ []) x || list_any (λ job. lists job x && has_key (enrolled job) x.issuer) (drop (birth x rs) jobs))
listed_behind x jobs base rs z w =
    behind_base base rs x (has base.accepted x) refl w ∙ ap (λ b. is_listed (base ∷ []) x || b) (listed_in_words x jobs rs z)

-- each release leaves what its job says
pub leaves : (past : Past) (job : JobFacts) (trailer : List ℕ) → Leaves job (released past job trailer)
leaves past job trailer = record { issuers = refl; lists = λ x. refl }

pub zip_push : {A B : Type 0} (R : A → B → Type 0) (xs : List A) (ys : List B) (x : A) (y : B) → AllZip R xs ys → R x y → AllZip R (xs ++ x ∷ []) (ys ++ y ∷ [])
zip_push R [] [] x y z r = (r, tt)
zip_push R [] (w ∷ ys) x y z r = absurd z
zip_push R (v ∷ xs) [] x y z r = absurd z
zip_push R (v ∷ xs) (w ∷ ys) x y z r = (z.0, zip_push R xs ys x y z.1 r)

-- a job more, and what it leaves
pub leaves_more : (jobs : List JobFacts) (job : JobFacts) (rs : List Release) (trailer : List ℕ) → AllZip Leaves jobs rs
    → AllZip Leaves (jobs ++ job ∷ []) (rs ++ released (past_of rs) job trailer ∷ [])
leaves_more jobs job rs trailer z = zip_push Leaves jobs rs job (released (past_of rs) job trailer) z (leaves (past_of rs) job trailer)

pub releases_leave : (trailer : List Release → JobFacts → List ℕ) (jobs : List JobFacts) (before : List JobFacts) (rs : List Release) → AllZip Leaves before rs
    → AllZip Leaves (before ++ jobs) (releases trailer rs jobs)
unfolding releases
releases_leave trailer [] before rs z = rw append-nil z
releases_leave trailer (job ∷ jobs) before rs z =
    subst (λ (js : List JobFacts). AllZip Leaves js (releases trailer (rs ++ released (past_of rs) job (trailer rs job) ∷ []) jobs)) (append_assoc before (job ∷ []) jobs)
    (releases_leave trailer jobs (before ++ job ∷ []) (rs ++ released (past_of rs) job (trailer rs job) ∷ [])
    (leaves_more before job rs (trailer rs job) z))

-- listed by the jobs of a history
pub listed_of_jobs : (trailer : List Release → JobFacts → List ℕ) (jobs : List JobFacts) (x : Identity)
    → is_listed (releases trailer [] jobs) x ≡ list_any (λ job. lists job x && has_key (enrolled job) x.issuer) (drop (birth x (releases trailer [] jobs)) jobs)
listed_of_jobs trailer jobs x = listed_in_words x jobs (releases trailer [] jobs) (releases_leave trailer jobs [] [] tt)

-- ---- the classes add up

add_up : (c : Class) (a b d e f n : ℕ) → a + b + d + e + f ≡ n
    → (cond (is_class Unread c) 1 0 + a) + (cond (is_class Uncovered c) 1 0 + b) + (cond (is_class Unenrolled c) 1 0 + d) + (cond (is_class Late c) 1 0 + e) +
    (cond (is_class Accepted c) 1 0 + f) ≡ suc n
add_up Unread a b d e f n h = omega arith
add_up Uncovered a b d e f n h = omega arith
add_up Unenrolled a b d e f n h = omega arith
add_up Late a b d e f n h = omega arith
add_up Accepted a b d e f n h = omega arith

counted_cons : (c : Class) (past : Past) (job : JobFacts) (e : Option Entry) (es : List (Option Entry))
    → count_by (λ e. is_class c (class_of past job e)) (e ∷ es) ≡ cond (is_class c (class_of past job e)) 1 0 + count_by (λ e. is_class c (class_of past job e)) es
counted_cons c past job e es = sum_by-cons (λ d. cond (is_class c (class_of past job d)) 1 0) e es

counted : (past : Past) (job : JobFacts) (es : List (Option Entry)) →
    count_by (λ e. is_class Unread (class_of past job e)) es + count_by (λ e. is_class Uncovered (class_of past job e)) es + count_by (λ e. is_class Unenrolled (class_of past job e)) es
    + count_by (λ e. is_class Late (class_of past job e)) es + count_by (λ e. is_class Accepted (class_of past job e)) es ≡ length es
counted past job [] = omega arith
counted past job (e ∷ es) = rw (
  counted_cons Unread past job e es,
  counted_cons Uncovered past job e es,
  counted_cons Unenrolled past job e es,
  counted_cons Late past job e es,
  counted_cons Accepted past job e es,
) (
    add_up (class_of past job e) (count_by (λ e. is_class Unread (class_of past job e)) es) (count_by (λ e. is_class Uncovered (class_of past job e)) es)
    (count_by (λ e. is_class Unenrolled (class_of past job e)) es) (count_by (λ e. is_class Late (class_of past job e)) es) (count_by (λ e. is_class Accepted (class_of past job e)) es) (length es)
    (counted past job es))

pub classes_add_up : (past : Past) (job : JobFacts) → count Unread past job + count Uncovered past job + count Unenrolled past job + count Late past job + count Accepted past job ≡ length job.entries
classes_add_up past job = counted past job job.entries
