use Rattle.std.proofs.Common.{◌≡◌, ◌≤◌, List, map, length}
use Rattle.part_text.specs.SealedFields.{SealedFields}
use Rattle.view_core.specs.Opening.{IsOpened}
use Rattle.view_core.proofs.Views.{AreAsked}
use Rattle.view_core.proofs.view.store_says.Given as goal

abbrev pub invariant-loop-part : goal.invariant-loop-part
invariant-loop-part g l = record {
  asked : (parts : List SealedFields) → IsOpened l.store l.index parts
      → AreAsked l.store l.shards l.rest l.id (map g.S.Seen.sighting l.sightings) parts l.verdict l.fn.probes l.probes l.fn.words l.words;
  draws : l.draws ≡ l.id;
  probes : l.fn.probes ≤ l.probes;
  words : l.fn.words ≤ l.words;
}

abbrev pub decreases-loop-part : goal.decreases-loop-part
decreases-loop-part g l = length l.rest
