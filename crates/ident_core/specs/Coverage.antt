-- Which sightings ranges cover, and which ranges lie within others.
use Rattle.std.specs.Prelude.{◌≡◌, ℕ, ◌≤◌, List, length, Bool, true, not, ◌&&◌, nat_le, Any, All, find, Option, Some, None}
use Rattle.std.specs.Option.{option_map}
use Rattle.std.specs.List.{list_any}
use Rattle.std.specs.Str.{bytes_eq}
use Rattle.octets_core.specs.Linked.{Linked, is_after}
use Rattle.ident_core.specs.declared.bounds.TheConstants.{MAX_RANGES}
use Rattle.ident_core.specs.declared.range.Range.{Range}
use Rattle.ident_core.specs.declared.range.Sighting.{Sighting}

-- the range has the sighting's log, and its time lies from the first to the last, both of them in it
pub record IsWithin (s : Sighting) (r : Range) : Type 0 where
  pub log : r.log ≡ s.log
  pub from : r.from ≤ s.time
  pub to : s.time ≤ r.to

-- some range covers the sighting
abbrev pub Covers : List Range → Sighting → Type 0
Covers ranges s = Any (IsWithin s) ranges

-- the same as a test
abbrev pub is_within : Sighting → Range → Bool
is_within s r = bytes_eq r.log s.log && nat_le r.from s.time && nat_le s.time r.to

abbrev pub covers : List Range → Sighting → Bool
covers ranges s = list_any (is_within s) ranges

-- the first range lies in the second, which has its log
pub record LiesIn (r outer : Range) : Type 0 where
  pub log : outer.log ≡ r.log
  pub from : outer.from ≤ r.from
  pub to : r.to ≤ outer.to

-- coverage lies within another: each range in some range of its log
abbrev pub LiesWithin : List Range → List Range → Type 0
LiesWithin old new = All (λ r. Any (LiesIn r) new) old

-- the same as tests
abbrev pub lies_in : Range → Range → Bool
lies_in r outer = bytes_eq outer.log r.log && nat_le outer.from r.from && nat_le r.to outer.to

abbrev pub lies_in_some : List Range → Range → Bool
lies_in_some new r = list_any (lies_in r) new

-- the log of the first range that doesn't lie in one of the new ranges
abbrev pub first_outside : List Range → List Range → Option (List ℕ)
first_outside old new = option_map (λ r. r.log) (find (λ r. not (lies_in_some new r)) old)

-- the range ends no earlier than it begins, and its log is above the log before it
abbrev pub IsRangeAfter : Option (List ℕ) → Range → Type 0
IsRangeAfter previous r = (is_after previous r.log ≡ true) × (r.from ≤ r.to)

-- the logs ascend, and each range ends no earlier than it begins
abbrev pub AreRanges : List Range → Type 0
AreRanges ranges = Linked IsRangeAfter (λ previous r. Some r.log) None ranges

-- what the head of a part may hold
pub record RangesFit (ranges : List Range) : Type 0 where
  pub few : length ranges ≤ MAX_RANGES
  pub ascending : AreRanges ranges
