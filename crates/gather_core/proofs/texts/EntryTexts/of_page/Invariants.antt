use Rattle.std.proofs.Common.{◌≡◌, take}
use Rattle.std.specs.Prelude.{flat_map}
use Rattle.job_core.specs.JobText.{entry_record}
use Rattle.gather_core.proofs.Taken.{texts}
use Rattle.gather_core.proofs.texts.EntryTexts.of_page.Given as goal

abbrev pub invariant-loop-entry : goal.invariant-loop-entry
invariant-loop-entry l = l.text.items ≡ flat_map entry_record (texts l.log (take l.entry-index l.entries))
