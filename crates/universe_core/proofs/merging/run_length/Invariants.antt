use Rattle.std.proofs.Common.{◌≡◌, ◌+◌, List, drop, length}
use Rattle.ident_core.specs.declared.range.Range.{Range}
use Rattle.universe_core.specs.Merging.{run_of}
use Rattle.universe_core.specs.Reading.{entries_of}
use Rattle.universe_core.proofs.merging.run_length.Given as goal

abbrev pub invariant-loop-i : goal.invariant-loop-i
invariant-loop-i l =
    (ranges : List Range) → l.i + length (run_of l.id (drop l.i (entries_of l.issuers ranges l.entries))) ≡ length (run_of l.id (entries_of l.issuers ranges l.entries))
