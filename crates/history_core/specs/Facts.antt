-- What holds of the releases of a history, after each job.
use Rattle.std.specs.Prelude.{◌≡◌, ℕ, suc, List, [], ◌∷◌, ◌++◌, drop, true, false, Option, Some, None}
use Rattle.std.specs.List.{slice_get}
use Rattle.std.specs.List.Sorted.{IsStrictlySortedBy}
use Rattle.ident_core.specs.declared.identity.Identity.{Identity}
use Rattle.ident_core.specs.declared.range.Sighting.{Sighting}
use Rattle.ident_core.specs.Order.{octets_cmp, identity_cmp}
use Rattle.ident_core.specs.Coverage.{covers}
use Rattle.ident_core.specs.Among.{Among}
use Rattle.ident_core.specs.Sets.{has, has_key}
use Rattle.universe_core.specs.Jobs.{Entry, JobFacts, enrolled, lists}
use Rattle.universe_core.specs.History.{Release, accepted_by, seen, is_listed, already_revoked_by, sightings, past_of, released, lie_within}

-- q covers and has accepted all that r did
pub record IsWider (r q : Release) : Type 0 where
  pub covered : (s : Sighting) → covers r.ranges s ≡ true → covers q.ranges s ≡ true
  pub accepted : (x : Identity) → has r.accepted x ≡ true → has q.accepted x ≡ true

-- each release is wider than those before it
abbrev pub Widens : List Release → Type 0
Widens [] = Unit {0}
Widens (r ∷ rs) = ((q : Release) → Among rs q → IsWider r q) × Widens rs

-- what holds of one release by itself
pub record IsFormed (r : Release) : Type 0 where
  pub issuers_ascend : IsStrictlySortedBy octets_cmp r.issuers
  pub accepted_ascend : IsStrictlySortedBy identity_cmp r.accepted
  pub enrolled : (x : Identity) → has r.revoked x ≡ true → has_key r.issuers x.issuer ≡ true
  pub accepted : (x : Identity) → has r.revoked x ≡ true → has r.accepted x ≡ true
  pub shown : (e : Entry) → Among r.shown e → has r.accepted e.id ≡ true

-- The facts from which the ledger's step and the answers follow.
pub record IsSound (rs : List Release) : Type 0 where
  pub widens : Widens rs
  pub formed : (r : Release) → Among rs r → IsFormed r
  -- each accepted sighting is covered by some release that enrolls the issuer
  pub covered : (e : Entry) → Among (seen rs) e
      → (r : Release) × Among rs r × (covers r.ranges e.sighting ≡ true) × (has_key r.issuers e.id.issuer ≡ true)
  -- and each such release has accepted the identity
  pub timely : (e : Entry) → Among (seen rs) e → (r : Release) → Among rs r → covers r.ranges e.sighting ≡ true
      → has_key r.issuers e.id.issuer ≡ true → has r.accepted e.id ≡ true
  -- each accepted identity has an accepted entry
  pub entered : (x : Identity) → has (accepted_by [] rs) x ≡ true → (e : Entry) × Among (seen rs) e × (e.id ≡ x)
  -- what is revoked is listed
  pub revoked : (x : Identity) (r : Release) → Among rs r → has r.revoked x ≡ true → is_listed rs x ≡ true
  -- what is listed is revoked by some release that covers all its sightings
  pub settled : (x : Identity) → is_listed rs x ≡ true → already_revoked_by rs x (sightings x (seen rs)) ≡ true

-- each of the newest release's ranges lies in one of the job's
abbrev pub KeepsCoverage : List Release → JobFacts → Type 0
KeepsCoverage [] job = Unit {0}
KeepsCoverage (r ∷ []) job = lie_within r.ranges job.ranges ≡ true
KeepsCoverage (r ∷ q ∷ rs) job = KeepsCoverage (q ∷ rs) job

-- each job keeps the coverage of those before it
abbrev pub AllKeepCoverage : (List Release → JobFacts → List ℕ) → List Release → List JobFacts → Type 0
AllKeepCoverage trailer rs [] = Unit {0}
AllKeepCoverage trailer rs (job ∷ jobs) =
    KeepsCoverage rs job × AllKeepCoverage trailer (rs ++ released (past_of rs) job (trailer rs job) ∷ []) jobs

-- What the last part that revokes an identity is, apart from how it is found: none where no release revokes it, else
-- the place of one that does, behind which none does.
abbrev pub IsLastRevoking : Identity → List Release → Option ℕ → Type 0
IsLastRevoking x rs None = (r : Release) → Among rs r → has r.revoked x ≡ false
IsLastRevoking x rs (Some k) =
    ((r : Release) × (slice_get rs k ≡ Some r) × (has r.revoked x ≡ true))
    × ((r : Release) → Among (drop (suc k) rs) r → has r.revoked x ≡ false)

-- what a release has of its job
pub record Leaves (job : JobFacts) (r : Release) : Type 0 where
  pub issuers : r.issuers ≡ enrolled job
  pub lists : (x : Identity) → r.lists x ≡ lists job x
