use Rattle.std.proofs.Common.{◌≡◌, List, drop}
use Rattle.ident_core.specs.Coverage.{first_outside}
use Rattle.ident_core.specs.declared.range.Range.{Range}
use Rattle.view_core.specs.Standing.{AreRangesAt}
use Rattle.view_core.proofs.ranges.first_outside_at.Given as goal

abbrev pub invariant-loop-i : goal.invariant-loop-i
invariant-loop-i l =
    (before after : List Range) → AreRangesAt l.held_bytes l.old.at l.old.count before → AreRangesAt l.given_bytes l.new.at l.new.count after
    → first_outside (drop l.i before) after ≡ first_outside before after
