-- What a function that only reads a depot, or only writes one, leaves of it.
use Rattle.std.specs.Prelude.{◌≡◌, ◌≤◌}
use Rattle.outside_core.specs.declared.depot.Depot.{Ghosts}

-- the depot was read and nothing else: its files and its write faults are as they were, and its read faults didn't fall
pub record OnlyReads {D : Type 0} (g : Ghosts D) (old new : D) : Type 0 where
  pub later : g.read_faults old ≤ g.read_faults new
  pub same_files : g.files new ≡ g.files old
  pub same_writes : g.write_faults new ≡ g.write_faults old

-- the depot was written and nothing else: its read faults and the names of its failed reads are as they were, and its
-- write faults didn't fall
pub record OnlyWrites {D : Type 0} (g : Ghosts D) (old new : D) : Type 0 where
  pub later : g.write_faults old ≤ g.write_faults new
  pub same_reads : g.read_faults new ≡ g.read_faults old
  pub same_failed : g.failed_reads new ≡ g.failed_reads old
