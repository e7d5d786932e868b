use Rattle.std.proofs.Common.{◌<◌, ◌^◌, List, length}
use Rattle.part_text.specs.SealedFields.{SealedFields}
use Rattle.view_core.specs.Opening.{IsOpened}
use Rattle.view_core.proofs.Coverings.{AreKept}
use Rattle.view_core.proofs.view.last_covered.Given as goal

abbrev pub invariant-loop-part : goal.invariant-loop-part
invariant-loop-part l = record {
  kept : (parts : List SealedFields) → IsOpened l.store l.index parts → AreKept l.store l.rest parts l.newest;
  at : l.newest.at < 2 ^ 32;
  count : l.newest.count < 2 ^ 32;
}

abbrev pub decreases-loop-part : goal.decreases-loop-part
decreases-loop-part l = length l.rest
