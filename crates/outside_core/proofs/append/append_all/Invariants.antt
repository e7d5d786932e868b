use Rattle.std.proofs.Common.{length, ◌-◌, ◌≡◌, ◌≤◌, take}
use Rattle.outside_core.specs.Effects.{OnlyWrites}
use Rattle.outside_core.specs.Files.{extending}
use Rattle.outside_core.proofs.append.append_all.Given as goal

abbrev pub invariant-loop-done : goal.invariant-loop-done
invariant-loop-done g l = record {
  within : l.done ≤ length l.bytes;
  files : g.D.Depot.files l.depot ≡ extending (g.D.Depot.files l.fn.depot) l.name (take l.done l.bytes);
  only_writes : OnlyWrites g.D.Depot l.fn.depot l.depot;
}

abbrev pub decreases-loop-done : goal.decreases-loop-done
decreases-loop-done g l = length l.bytes - l.done
