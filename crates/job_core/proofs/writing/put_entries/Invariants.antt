use Rattle.std.proofs.Common.{◌≡◌, ◌++◌, take}
use Rattle.std.specs.Prelude.{flat_map, All}
use Rattle.job_core.specs.JobText.{entry_record, entry_held, FitsEntry}
use Rattle.job_core.proofs.writing.put_entries.Given as goal

abbrev pub invariant-loop-entry : goal.invariant-loop-entry
invariant-loop-entry l = record {
  text : l.out.items ≡ l.fn.out.items ++ flat_map (λ x. entry_record (entry_held x)) (take l.entry-index l.entries);
  fits : All (λ x. FitsEntry (entry_held x)) (take l.entry-index l.entries);
}
