use Rattle.std.proofs.Common.{◌≡◌, ◌≤◌, None}
use Rattle.outside_core.specs.Reads.{WhichFailed}
use Rattle.command_core.proofs.AuditReplies.{Gone}
use Rattle.command_core.proofs.auditing.AuditJobs.add_files.Given as goal

abbrev pub invariant-loop-file : goal.invariant-loop-file
invariant-loop-file g l = record {
  gone : Gone (g.D.Depot.files l.fn.depot) l.names l.file-index l.self;
  none_failed : WhichFailed g.D.Depot l.fn.depot l.depot None;
  later : g.D.Depot.read_faults l.fn.depot ≤ g.D.Depot.read_faults l.depot;
  same_files : g.D.Depot.files l.depot ≡ g.D.Depot.files l.fn.depot;
  same_writes : g.D.Depot.write_faults l.depot ≡ g.D.Depot.write_faults l.fn.depot;
}
