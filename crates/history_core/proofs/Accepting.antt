-- What a job accepts, lists and revokes.
use Rattle.std.specs.List.Sorted.{IsStrictlySortedBy}
use Rattle.std.proofs.Common.{◌≡◌, ◌⊎◌, inl, inr, ⊎_elim, ◌++◌, map, Bool, true, false, cond, not, ◌&&◌, ◌||◌, Option, Some, refl, sym, ap, ◌∙◌, subst}
use Rattle.std.proofs.lemmas.Bool.{and_parts, true≢false, false≢true}
use Rattle.ident_core.specs.declared.identity.Identity.{Identity}
use Rattle.ident_core.specs.Order.{identity_cmp}
use Rattle.ident_core.specs.Coverage.{covers}
use Rattle.ident_core.specs.Among.{Among}
use Rattle.ident_core.specs.Sets.{has, has_key}
use Rattle.ident_core.proofs.Elements.{Among-filter, Among-in_filter, Among-map, Among-in_map, Among-filter_map, Among-in_filter_map}
use Rattle.ident_core.proofs.Sets.{Among-from_has, has-from_Among, Among-union, Among-in_union, identities_are}
use Rattle.universe_core.specs.Jobs.{Entry, JobFacts, enrolled, lists}
use Rattle.universe_core.specs.History.{Past, class_by, class_of, if_accepted, shown, sightings, accepted_with, universe, is_revoked, revoked}
use Rattle.universe_core.specs.declared.class.Class.{Class}
use Rattle.universe_core.specs.declared.class.Class.TheVariants.{Accepted, Unread, Uncovered, Unenrolled, Late}

pub record IsShown (past : Past) (job : JobFacts) (e : Entry) : Type 0 where
  pub covered : covers job.ranges e.sighting ≡ true
  pub enrolled : has_key (enrolled job) e.id.issuer ≡ true
  pub timely : past.comes_late e.id e.sighting ≡ false

if_accepted_some : (c : Class) (o : Option Entry) (e : Entry) → if_accepted c o ≡ Some e → (c ≡ Accepted) × (o ≡ Some e)
if_accepted_some Unread o e h = absurd cc
if_accepted_some Uncovered o e h = absurd cc
if_accepted_some Unenrolled o e h = absurd cc
if_accepted_some Late o e h = absurd cc
if_accepted_some Accepted o e h = (refl, h)

tests : (a b c : Bool) → cond (not a) Uncovered (cond (not b) Unenrolled (cond c Late Accepted)) ≡ Accepted → (a ≡ true) × (b ≡ true) × (c ≡ false)
tests false b c h = absurd cc
tests true false c h = absurd cc
tests true true true h = absurd cc
tests true true false h = (refl, refl, refl)

pub shown_is : (past : Past) (job : JobFacts) (e : Entry) → Among (shown past job) e → IsShown past job e
unfolding shown class_by
shown_is past job e h =
    let f = Among-filter_map (λ o. if_accepted (class_of past job o) o) job.entries e h in
    let c = if_accepted_some (class_of past job f.0) f.0 e f.2 in
    let is : class_of past job (Some e) ≡ Accepted = ap (class_of past job) (sym c.1) ∙ c.0 in
    let t = tests (covers job.ranges e.sighting) (has_key (enrolled job) e.id.issuer) (past.comes_late e.id e.sighting) is in
    record { covered = t.0; enrolled = t.1; timely = t.2 }

-- and what is so is shown
pub shown_has : (past : Past) (job : JobFacts) (e : Entry) → Among job.entries (Some e) → IsShown past job e → Among (shown past job) e
unfolding shown class_by
shown_has past job e a h =
    let is : class_of past job (Some e) ≡ Accepted = rw (h.covered, h.enrolled, h.timely) refl in
    Among-in_filter_map (λ o. if_accepted (class_of past job o) o) job.entries (Some e) e a (ap (λ c. if_accepted c (Some e)) is)

-- a shown entry is one of the job's
pub shown_entry : (past : Past) (job : JobFacts) (e : Entry) → Among (shown past job) e → Among job.entries (Some e)
unfolding shown
shown_entry past job e h =
    let f = Among-filter_map (λ o. if_accepted (class_of past job o) o) job.entries e h in
    subst (λ (o : Option Entry). Among job.entries o) (if_accepted_some (class_of past job f.0) f.0 e f.2).1 f.1

pub accepted_old : (past : Past) (job : JobFacts) (x : Identity) → has past.accepted x ≡ true → has (accepted_with past job) x ≡ true
unfolding accepted_with
accepted_old past job x h =
    has-from_Among (accepted_with past job) x (Among-in_union (map (λ e. e.id) (shown past job)) past.accepted x (inr (Among-from_has past.accepted x h)))

pub accepted_new : (past : Past) (job : JobFacts) (e : Entry) → Among (shown past job) e → has (accepted_with past job) e.id ≡ true
unfolding accepted_with
accepted_new past job e h =
    has-from_Among (accepted_with past job) e.id (Among-in_union (map (λ d. d.id) (shown past job)) past.accepted e.id (inl (Among-in_map (λ (d : Entry). d.id) (shown past job) e h)))

-- an accepted identity was accepted before, or has an entry that is shown
pub accepted_cases : (past : Past) (job : JobFacts) (x : Identity) → has (accepted_with past job) x ≡ true → (has past.accepted x ≡ true) ⊎ ((e : Entry) × Among (shown past job) e × (e.id ≡ x))
unfolding accepted_with
accepted_cases past job x h =
    ⊎_elim (λ a. inr (Among-map (λ e. e.id) (shown past job) x a)) (λ a. inl (has-from_Among past.accepted x a))
    (Among-union (map (λ e. e.id) (shown past job)) past.accepted x (Among-from_has (accepted_with past job) x h))

pub universe_is : (past : Past) (job : JobFacts) (x : Identity) → has (universe past job) x ≡ true → (has (accepted_with past job) x ≡ true) × (has_key (enrolled job) x.issuer ≡ true)
unfolding universe
universe_is past job x h =
    let f = Among-filter (λ y. has_key (enrolled job) y.issuer) (accepted_with past job) x (Among-from_has (universe past job) x h) in
    (has-from_Among (accepted_with past job) x f.0, f.1)

pub universe_has : (past : Past) (job : JobFacts) (x : Identity) → has (accepted_with past job) x ≡ true → has_key (enrolled job) x.issuer ≡ true → has (universe past job) x ≡ true
unfolding universe
universe_has past job x a e = has-from_Among (universe past job) x (Among-in_filter (λ y. has_key (enrolled job) y.issuer) (accepted_with past job) x (Among-from_has (accepted_with past job) x a) e)

pub revoked_is : (past : Past) (job : JobFacts) (x : Identity) → has (revoked past job) x ≡ true → (has (universe past job) x ≡ true) × (is_revoked past job x ≡ true)
unfolding revoked
revoked_is past job x h =
    let f = Among-filter (is_revoked past job) (universe past job) x (Among-from_has (revoked past job) x h) in
    (has-from_Among (universe past job) x f.0, f.1)

pub revoked_has : (past : Past) (job : JobFacts) (x : Identity) → has (universe past job) x ≡ true → is_revoked past job x ≡ true → has (revoked past job) x ≡ true
unfolding revoked
revoked_has past job x u r = has-from_Among (revoked past job) x (Among-in_filter (is_revoked past job) (universe past job) x (Among-from_has (universe past job) x u) r)

-- what is revoked is listed
pub revoked_listed : (past : Past) (job : JobFacts) (x : Identity) → has (revoked past job) x ≡ true → (past.listed_before x || lists job x) ≡ true
unfolding is_revoked
revoked_listed past job x h = (and_parts (past.listed_before x || lists job x) (not (past.already_revoked x (sightings x (shown past job)))) (revoked_is past job x h).1).0

settled_bool : (l s r : Bool) → (l && not s ≡ true → r ≡ true) → l ≡ true → r ≡ false → s ≡ true
settled_bool true true r f h n = refl
settled_bool true false r f h n = absurd (true≢false (sym (f refl) ∙ n))
settled_bool false s r f h n = absurd (false≢true h)

-- what is listed and not revoked is settled
pub not_revoked : (past : Past) (job : JobFacts) (x : Identity) → has (universe past job) x ≡ true → (past.listed_before x || lists job x) ≡ true → has (revoked past job) x ≡ false
    → past.already_revoked x (sightings x (shown past job)) ≡ true
unfolding is_revoked
not_revoked past job x u l n =
    settled_bool (past.listed_before x || lists job x) (past.already_revoked x (sightings x (shown past job))) (has (revoked past job) x) (revoked_has past job x u) l n

pub accepted_ascend : (past : Past) (job : JobFacts) → IsStrictlySortedBy identity_cmp (accepted_with past job)
unfolding accepted_with
accepted_ascend past job = (identities_are (map (λ e. e.id) (shown past job) ++ past.accepted)).ascends
