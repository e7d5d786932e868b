-- Histories of one job.
use Rattle.std.proofs.Common.{◌≡◌, ℕ, ⊎_elim, List, [], ◌∷◌, Bool, true, false, ◌&&◌, ◌||◌, not, Option, Some, None, refl, sym, ap, ◌∙◌}
use Rattle.std.proofs.lemmas.Bool.{and_parts, and_from, false≢true}
use Rattle.ident_core.specs.declared.identity.Identity.{Identity}
use Rattle.ident_core.specs.declared.range.Sighting.{Sighting}
use Rattle.ident_core.specs.Order.{is_same}
use Rattle.ident_core.specs.Coverage.{covers}
use Rattle.ident_core.specs.Among.{Among}
use Rattle.ident_core.specs.Sets.{has, has_key}
use Rattle.ident_core.proofs.Elements.{found, any_at, bool_same}
use Rattle.ident_core.proofs.Sets.{same_is, same_refl}
use Rattle.universe_core.specs.Jobs.{Entry, JobFacts, enrolled, lists}
use Rattle.universe_core.specs.History.{Release, past_of, accepted_by, shown, accepted_with, universe, is_revoked, revoked, birth, is_listed, already_revoked_by, comes_late_behind, released, releases}
use Rattle.universe_core.specs.Groups.{groups}
use Rattle.universe_core.specs.Ledgers.{no_ledger, past_in, next_ledger, ledger_of}
use Rattle.universe_core.specs.Step.{groups_after}
use Rattle.history_core.specs.Facts.{IsSound}
use Rattle.history_core.specs.Beginnings.{is_entry_of, sees}
use Rattle.history_core.proofs.Accepting.{IsShown, shown_is, shown_has, shown_entry, accepted_new, accepted_cases}
use Rattle.history_core.proofs.Sound.{nothing_sound}
use Rattle.history_core.proofs.Histories.{releases_sound}
use Rattle.history_core.proofs.Ledger.{past_in_ledger, next_is, groups_are}
use Rattle.history_core.proofs.Releases.{listed_one}
use Rattle.history_core.proofs.Words.{has-filter}

-- the ledger of no release is the empty one
pub ledger_of_none : ledger_of [] ≡ no_ledger
unfolding ledger_of accepted_by
ledger_of_none = refl

-- the empty ledger tells what no release tells
pub past_in_none : past_in no_ledger ≡ past_of []
past_in_none = ap past_in (sym ledger_of_none) ∙ past_in_ledger [] nothing_sound

-- the facts hold after a first job
pub first_sound : (trailer : List Release → JobFacts → List ℕ) (job : JobFacts) → IsSound (releases trailer [] (job ∷ []))
first_sound trailer job = releases_sound trailer [] (job ∷ []) nothing_sound (tt, tt)

-- the groups of a first job are those of its release, whatever the trailer of its part
pub first_groups : (job : JobFacts) (trailer : List ℕ) → groups_after no_ledger job ≡ groups (released (past_of []) job trailer)
first_groups job trailer = ap (λ ledger. groups_after ledger job) (sym ledger_of_none) ∙ groups_are [] nothing_sound job trailer

-- and the ledger after it is that of its release
pub first_ledger : (job : JobFacts) (trailer : List ℕ) → next_ledger no_ledger job trailer ≡ ledger_of (released (past_of []) job trailer ∷ [])
first_ledger job trailer = ap (λ ledger. next_ledger ledger job trailer) (sym ledger_of_none) ∙ next_is [] nothing_sound job trailer

-- ---- what a first job accepts

none_lacked : (x : Identity) (s : Sighting) → (past_of []).comes_late x s ≡ false
unfolding past_of comes_late_behind
none_lacked x s = refl

none_accepted : (x : Identity) → has (past_of []).accepted x ≡ false
unfolding past_of accepted_by
none_accepted x = refl

entry_seen : (job : JobFacts) (x : Identity) (e : Entry) → Among (shown (past_of []) job) e → e.id ≡ x → sees job x ≡ true
entry_seen job x e a i =
    any_at (is_entry_of job x) job.entries (Some e) (shown_entry (past_of []) job e a)
    (and_from (covers job.ranges e.sighting) (is_same x e.id) (shown_is (past_of []) job e a).covered (ap (is_same x) i ∙ same_refl x))

accepted_if : (job : JobFacts) (x : Identity) (o : Option Entry) → Among job.entries o → is_entry_of job x o ≡ true → has_key (enrolled job) x.issuer ≡ true → has (accepted_with (past_of []) job) x ≡ true
accepted_if job x None a h k = absurd (false≢true h)
accepted_if job x (Some e) a h k =
    let p = and_parts (covers job.ranges e.sighting) (is_same x e.id) h in
    let i : x ≡ e.id = same_is x e.id p.1 in
    let is : IsShown (past_of []) job e = record {
      covered = p.0;
      enrolled = ap (λ (y : Identity). has_key (enrolled job) y.issuer) (sym i) ∙ k;
      timely = none_lacked e.id e.sighting;
    } in
    ap (has (accepted_with (past_of []) job)) i ∙ accepted_new (past_of []) job e (shown_has (past_of []) job e a is)

-- of an enrolled issuer: what the job sees
accepted_first : (job : JobFacts) (x : Identity) → has_key (enrolled job) x.issuer ≡ true → has (accepted_with (past_of []) job) x ≡ sees job x
accepted_first job x k =
    bool_same (has (accepted_with (past_of []) job) x) (sees job x)
    (λ h. ⊎_elim (λ old. absurd (false≢true (sym (none_accepted x) ∙ old))) (λ n. entry_seen job x n.0 n.1 n.2) (accepted_cases (past_of []) job x h))
    (λ h. let f = found (is_entry_of job x) job.entries h in accepted_if job x f.0 f.1 f.2 k)

and_under : (b c d : Bool) → (b ≡ true → c ≡ d) → (b && c) ≡ (b && d)
and_under true c d h = h refl
and_under false c d h = refl

-- ---- what it lists, and revokes

pub first_listed : (trailer : List Release → JobFacts → List ℕ) (job : JobFacts) (x : Identity) → is_listed (releases trailer [] (job ∷ [])) x ≡ (lists job x && (has_key (enrolled job) x.issuer && sees job x))
unfolding releases
first_listed trailer job x =
    listed_one (released (past_of []) job (trailer [] job)) x
    ∙ ap (λ b. lists job x && b) (and_under (has_key (enrolled job) x.issuer) (has (accepted_with (past_of []) job) x) (sees job x) (accepted_first job x))

and-twice : (a u : Bool) → (((false || a) && not false) && u) ≡ (a && u)
and-twice true u = refl
and-twice false u = refl

revoked_only : (job : JobFacts) (x : Identity)
    → has (revoked (past_of []) job) x ≡ (lists job x && (has_key (enrolled job) x.issuer && has (accepted_with (past_of []) job) x))
unfolding revoked universe is_revoked past_of birth is_listed already_revoked_by
revoked_only job x =
    has-filter (is_revoked (past_of []) job) (universe (past_of []) job) x
    ∙ and-twice (lists job x) (has (universe (past_of []) job) x)
    ∙ ap (λ b. lists job x && b) (has-filter (λ y. has_key (enrolled job) y.issuer) (accepted_with (past_of []) job) x)

-- it revokes what it lists
pub first_revoked : (trailer : List Release → JobFacts → List ℕ) (job : JobFacts) (x : Identity) → has (revoked (past_of []) job) x ≡ is_listed (releases trailer [] (job ∷ [])) x
unfolding releases
first_revoked trailer job x = revoked_only job x ∙ sym (listed_one (released (past_of []) job (trailer [] job)) x)
