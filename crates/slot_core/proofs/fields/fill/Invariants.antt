use Rattle.std.proofs.Common.{◌≡◌, ◌≤◌, ◌-◌, ℕ, List, take, drop, length, Some}
use Rattle.slot_core.specs.Disk.{Quiet}
use Rattle.slot_core.proofs.fields.fill.Given as goal

abbrev pub invariant-loop-done : goal.invariant-loop-done
invariant-loop-done g l = record {
  within : l.done ≤ length l.buf;
  bytes : (bytes : List ℕ) → (g.D.Disk.state l.fn.disk).told ≡ Some bytes → (take l.done l.buf ≡ take l.done (drop l.at bytes)) × (l.done ≤ length bytes - l.at);
  later : (g.D.Disk.state l.fn.disk).faults ≤ (g.D.Disk.state l.disk).faults;
  quiet : Quiet (g.D.Disk.state l.fn.disk) (g.D.Disk.state l.disk);
}

abbrev pub decreases-loop-done : goal.decreases-loop-done
decreases-loop-done g l = length l.buf - l.done
