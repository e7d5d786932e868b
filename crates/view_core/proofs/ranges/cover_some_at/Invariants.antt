use Rattle.std.proofs.Common.{◌≡◌, List, drop, map}
use Rattle.std.specs.List.{list_any}
use Rattle.ident_core.specs.Coverage.{covers}
use Rattle.ident_core.specs.declared.range.Range.{Range}
use Rattle.view_core.specs.Standing.{AreRangesAt}
use Rattle.view_core.proofs.ranges.cover_some_at.Given as goal

abbrev pub invariant-loop-s : goal.invariant-loop-s
invariant-loop-s g l =
    (list : List Range) → AreRangesAt l.bytes l.ranges.at l.ranges.count list
    → list_any (covers list) (map g.S.Seen.sighting (drop l.s-index l.sightings)) ≡ list_any (covers list) (map g.S.Seen.sighting l.sightings)
