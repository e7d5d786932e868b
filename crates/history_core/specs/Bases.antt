-- The base of a history: the first release of a new chain, which stands for all the releases before it. Which identities
-- it keeps is told by a test. A base of what a cut keeps is that of the releases, cut.
use Rattle.std.specs.Prelude.{ℕ, List, [], ◌∷◌, map, filter, flat_map, Bool, not}
use Rattle.ident_core.specs.declared.identity.Identity.{Identity}
use Rattle.ident_core.specs.declared.range.Range.{Range}
use Rattle.ident_core.specs.declared.kind.Kind.TheVariants as kinds
use Rattle.ident_core.specs.HeadFields.{HeadFields, zero_key}
use Rattle.ident_core.specs.Sets.{key_set}
use Rattle.place_core.specs.Cuts.{Cut, is_kept}
use Rattle.universe_core.specs.Jobs.{is_stale}
use Rattle.universe_core.specs.History.{Release, accepted_by, seen, is_listed}
use Rattle.universe_core.specs.Dates.{until}

-- the ranges, and the epoch, of the newest release; these where there is none
unfoldable pub newest_ranges : List Range → List Release → List Range
newest_ranges before [] = before
newest_ranges before (r ∷ rs) = newest_ranges r.ranges rs

unfoldable pub newest_epoch : ℕ → List Release → ℕ
newest_epoch before [] = before
newest_epoch before (r ∷ rs) = newest_epoch r.epoch rs

-- the issuers of all releases, ascending
abbrev pub all_issuers : List Release → List (List ℕ)
all_issuers rs = key_set (flat_map (λ r. r.issuers) rs)

-- the accepted identities that are kept
abbrev pub kept_by : (Identity → Bool) → List Release → List Identity
kept_by keeps rs = filter keeps (accepted_by [] rs)

-- The kept identities with all that the history knows of them: their accepted entries, and whether they are listed. No
-- part of the new chain revokes them but that of the base.
unfoldable pub base_with : (Identity → Bool) → List Release → List ℕ → Release
base_with keeps rs trailer = record {
  epoch = newest_epoch 0 rs;
  trailer = trailer;
  ranges = newest_ranges [] rs;
  issuers = all_issuers rs;
  lists = is_listed rs;
  shown = filter (λ e. keeps e.id) (seen rs);
  accepted = kept_by keeps rs;
  revoked = filter (is_listed rs) (kept_by keeps rs);
}

-- the head of its part
abbrev pub base_head : List Release → HeadFields
base_head rs = record { kind = kinds.Snapshot; epoch = newest_epoch 0 rs; parent = zero_key; ranges = newest_ranges [] rs }

-- ---- what a cut keeps

-- what a release leaves of the issuers that are taken, and of the identities that are kept
abbrev pub release_cut : Cut → Release → Release
release_cut cut r = record {
  epoch = r.epoch;
  trailer = r.trailer;
  ranges = r.ranges;
  issuers = filter cut.takes r.issuers;
  lists = r.lists;
  shown = filter (λ e. is_kept cut e.id) r.shown;
  accepted = filter (is_kept cut) r.accepted;
  revoked = filter (is_kept cut) r.revoked;
}

unfoldable pub releases_cut : Cut → List Release → List Release
releases_cut cut rs = map (release_cut cut) rs

-- ---- at a moment, in milliseconds since 1970

-- whether an identity has not expired: it has no date, or one that isn't before the moment
abbrev pub is_lasting_by : ℕ → List Release → Identity → Bool
is_lasting_by moment rs x = not (is_stale moment (until x rs))

-- the base without what has expired
abbrev pub base_at : ℕ → List Release → List ℕ → Release
base_at moment rs trailer = base_with (is_lasting_by moment rs) rs trailer
