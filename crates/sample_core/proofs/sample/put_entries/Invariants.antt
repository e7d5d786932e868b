use Rattle.outside_core.specs.Effects.{OnlyWrites}
use Rattle.sample_core.specs.Parts.{entries_text}
use Rattle.sample_core.specs.Writing.{Moved}
use Rattle.sample_core.proofs.sample.put_entries.Given as goal

abbrev pub invariant-loop-i : goal.invariant-loop-i
invariant-loop-i g l = record {
  moved : Moved (g.D.Depot.files l.fn.depot) (g.D.Depot.files l.depot) l.name l.fn.buffer (entries_text l.keys l.i) l.buffer;
  only_writes : OnlyWrites g.D.Depot l.fn.depot l.depot;
}
