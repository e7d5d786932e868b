use Rattle.std.proofs.Common.{◌≡◌, ◌≤◌, None}
use Rattle.job_core.specs.JobText.{JobContents}
use Rattle.gather_core.specs.Opened.{Opens}
use Rattle.outside_core.specs.Reads.{WhichFailed}
use Rattle.command_core.proofs.FilesPut.{Gone}
use Rattle.command_core.proofs.lengthening.put_files.Given as goal

abbrev pub invariant-loop-file : goal.invariant-loop-file
invariant-loop-file g l = record {
  gone : (j : JobContents) → Opens l.fn.job j → Gone l.source l.to l.files (g.D.Depot.files l.fn.depot) j l.file-index l.job;
  none_failed : WhichFailed g.D.Depot l.fn.depot l.depot None;
  later : g.D.Depot.read_faults l.fn.depot ≤ g.D.Depot.read_faults l.depot;
  same_files : g.D.Depot.files l.depot ≡ g.D.Depot.files l.fn.depot;
  same_writes : g.D.Depot.write_faults l.depot ≡ g.D.Depot.write_faults l.fn.depot;
}
