use Rattle.std.proofs.Common.{◌≡◌, ◌≤◌, take, []}
use Rattle.command_core.specs.Runs.{with_outputs}
use Rattle.command_core.proofs.output.write_outputs.Given as goal

abbrev pub invariant-loop-output : goal.invariant-loop-output
invariant-loop-output g l = record {
  written : g.D.Depot.files l.depot ≡ with_outputs (g.D.Depot.files l.fn.depot) (take l.output-index l.outputs);
  quiet : l.outputs ≡ [] → g.D.Depot.write_faults l.depot ≡ g.D.Depot.write_faults l.fn.depot;
  later : g.D.Depot.write_faults l.fn.depot ≤ g.D.Depot.write_faults l.depot;
  same_reads : g.D.Depot.read_faults l.depot ≡ g.D.Depot.read_faults l.fn.depot;
  same_failed : g.D.Depot.failed_reads l.depot ≡ g.D.Depot.failed_reads l.fn.depot;
}
