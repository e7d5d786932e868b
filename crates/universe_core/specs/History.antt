-- What jobs, one after the other, accept, list and revoke. A history is the list of what its jobs leave, the oldest
-- first.
use Rattle.std.specs.Prelude.{ℕ, List, [], ◌∷◌, ◌++◌, map, filter, filter_map, drop, Bool, not, ◌&&◌, ◌||◌, if◌then◌else◌}
use Rattle.std.specs.Prelude.{Option, Some, None}
use Rattle.std.specs.List.{list_any, list_all, position_or_len}
use Rattle.ident_core.specs.declared.identity.Identity.{Identity}
use Rattle.ident_core.specs.declared.range.Sighting.{Sighting}
use Rattle.ident_core.specs.declared.range.Range.{Range}
use Rattle.ident_core.specs.Order.{is_same}
use Rattle.ident_core.specs.Coverage.{covers, lies_in_some}
use Rattle.ident_core.specs.Sets.{has, has_key, identity_set}
use Rattle.universe_core.specs.Jobs.{Entry, JobFacts, enrolled, lists}
use Rattle.universe_core.specs.declared.class.Class.{Class}
use Rattle.universe_core.specs.declared.class.Class.TheVariants.{Unread, Uncovered, Unenrolled, Late, Accepted}

-- What a job leaves in a history.
pub record Release : Type 0 where
  pub epoch : ℕ
  pub trailer : List ℕ  -- of its part
  pub ranges : List Range  -- its coverage
  pub issuers : List (List ℕ)  -- its enrolled issuers
  pub lists : Identity → Bool  -- whether it lists an identity
  pub shown : List Entry  -- its accepted entries
  pub accepted : List Identity  -- the identities accepted so far
  pub revoked : List Identity  -- its revoked set

-- What a job is told of those before it.
pub record Past : Type 0 where
  -- the identities accepted so far
  pub accepted : List Identity
  -- An entry comes late where an earlier job covers its sighting and enrolls its issuer, and had not accepted its
  -- identity: that job's part answers for the sighting, and was built without the identity.
  pub comes_late : Identity → Sighting → Bool
  -- an earlier job, from the identity's first acceptance on, enrolls its issuer and lists it
  pub listed_before : Identity → Bool
  -- an earlier part tells that the identity is revoked, and covers its accepted sightings, these too
  pub already_revoked : Identity → List Sighting → Bool

-- ---- acceptance

-- what an entry is, under these ranges and enrolled issuers: the first of these that holds
unfoldable pub class_by : List Range → List (List ℕ) → Past → Option Entry → Class
class_by ranges issuers past None = Unread
class_by ranges issuers past (Some e) =
    if not (covers ranges e.sighting) then Uncovered
    else if not (has_key issuers e.id.issuer) then Unenrolled
    else if past.comes_late e.id e.sighting then Late
    else Accepted

abbrev pub class_of : Past → JobFacts → Option Entry → Class
class_of past job e = class_by job.ranges (enrolled job) past e

abbrev pub if_accepted : Class → Option Entry → Option Entry
if_accepted Unread e = None
if_accepted Uncovered e = None
if_accepted Unenrolled e = None
if_accepted Late e = None
if_accepted Accepted e = e

-- the accepted entries of the job
unfoldable pub shown : Past → JobFacts → List Entry
shown past job = filter_map (λ e. if_accepted (class_of past job e) e) job.entries

-- the sightings of an identity in some entries
unfoldable pub sightings : Identity → List Entry → List Sighting
sightings x entries = map (λ e. e.sighting) (filter (λ e. is_same x e.id) entries)

-- the identities accepted so far, the job's too
unfoldable pub accepted_with : Past → JobFacts → List Identity
accepted_with past job = identity_set (map (λ e. e.id) (shown past job) ++ past.accepted)

-- ---- the universe and the revoked set

-- the accepted identities of enrolled issuers
unfoldable pub universe : Past → JobFacts → List Identity
universe past job = filter (λ x. has_key (enrolled job) x.issuer) (accepted_with past job)

-- whether an identity of the universe is revoked: listed, now or before, and not told so already by an earlier part
-- that covers all its sightings
unfoldable pub is_revoked : Past → JobFacts → Identity → Bool
is_revoked past job x = (past.listed_before x || lists job x) && not (past.already_revoked x (sightings x (shown past job)))

unfoldable pub revoked : Past → JobFacts → List Identity
revoked past job = filter (is_revoked past job) (universe past job)

abbrev pub released : Past → JobFacts → List ℕ → Release
released past job trailer = record {
  epoch = job.epoch;
  trailer = trailer;
  ranges = job.ranges;
  issuers = enrolled job;
  lists = lists job;
  shown = shown past job;
  accepted = accepted_with past job;
  revoked = revoked past job;
}

-- ---- what releases say together, the oldest first

-- the identities accepted so far: those of the newest
unfoldable pub accepted_by : List Identity → List Release → List Identity
accepted_by before [] = before
accepted_by before (r ∷ rs) = accepted_by r.accepted rs

-- the accepted entries so far
unfoldable pub seen : List Release → List Entry
seen [] = []
seen (r ∷ rs) = r.shown ++ seen rs

-- the place of the first release that had accepted the identity; past the end if none has
unfoldable pub birth : Identity → List Release → ℕ
birth x rs = position_or_len (λ r. has r.accepted x) rs

-- whether a job lists the identity, and enrolls its issuer
abbrev pub enrolls_and_lists : Identity → Release → Bool
enrolls_and_lists x r = r.lists x && has_key r.issuers x.issuer

-- Listed: a job from the identity's first acceptance on enrolls its issuer and lists it. It is the truth of a history.
unfoldable pub is_listed : List Release → Identity → Bool
is_listed rs x = list_any (enrolls_and_lists x) (drop (birth x rs) rs)

abbrev pub covers_all : List Range → List Sighting → Bool
covers_all ranges ss = list_all (covers ranges) ss

-- whether the part of a release tells that the identity is revoked, and covers these sightings
unfoldable pub already_revoked_by : List Release → Identity → List Sighting → Bool
already_revoked_by rs x ss = list_any (λ r. has r.revoked x && covers_all r.ranges ss) rs

-- whether an entry comes late behind them: a release covers its sighting and enrolls its issuer, and had not accepted
-- its identity
unfoldable pub comes_late_behind : List Release → Identity → Sighting → Bool
comes_late_behind rs x s = list_any (λ r. covers r.ranges s && has_key r.issuers x.issuer && not (has r.accepted x)) rs

-- what releases tell the next job
unfoldable pub past_of : List Release → Past
past_of rs = record {
  accepted = accepted_by [] rs;
  comes_late = comes_late_behind rs;
  listed_before = is_listed rs;
  already_revoked = λ x now. already_revoked_by rs x (sightings x (seen rs) ++ now);
}

-- the releases rs, and then those of the jobs, each with the trailer of its part
unfoldable pub releases : (List Release → JobFacts → List ℕ) → List Release → List JobFacts → List Release
releases trailer rs [] = rs
releases trailer rs (job ∷ jobs) = releases trailer (rs ++ released (past_of rs) job (trailer rs job) ∷ []) jobs

-- whether each of the ranges lies in one of the others
abbrev pub lie_within : List Range → List Range → Bool
lie_within ranges others = list_all (lies_in_some others) ranges
