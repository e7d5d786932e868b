-- The steps that a recording holds.
use Rattle.std.specs.Prelude.{List, map}
use Rattle.slot_core.specs.Steps.{Step, Write, Sync}
use Rattle.slot_core.specs.declared.recording.Change.{Change}
use Rattle.slot_core.specs.declared.recording.Change.TheVariants as change

abbrev pub step_of : Change → Step
step_of (change.Write at piece) = Write at piece.items
step_of change.Sync = Sync

abbrev pub steps_of : List Change → List Step
steps_of changes = map step_of changes
