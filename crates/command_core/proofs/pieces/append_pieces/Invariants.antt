use Rattle.std.proofs.Common.{◌≡◌, ◌≤◌, take}
use Rattle.outside_core.specs.Files.{extending}
use Rattle.command_core.specs.Digested.{concatenated}
use Rattle.command_core.proofs.pieces.append_pieces.Given as goal

abbrev pub invariant-loop-piece : goal.invariant-loop-piece
invariant-loop-piece g l = record {
  written : g.D.Depot.files l.depot ≡ extending (g.D.Depot.files l.fn.depot) l.name (concatenated (take l.piece-index l.pieces));
  later : g.D.Depot.write_faults l.fn.depot ≤ g.D.Depot.write_faults l.depot;
  same_reads : g.D.Depot.read_faults l.depot ≡ g.D.Depot.read_faults l.fn.depot;
  same_failed : g.D.Depot.failed_reads l.depot ≡ g.D.Depot.failed_reads l.fn.depot;
}
