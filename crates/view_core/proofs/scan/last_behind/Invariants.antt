use Rattle.std.proofs.Common.{◌≤◌, length}
use Rattle.part_text.specs.SealedFields.{SealedFields}
use Rattle.view_core.specs.Scanning.{IsReadAt, end_of}
use Rattle.view_core.proofs.Chains.{AreLeft}
use Rattle.view_core.proofs.scan.last_behind.Given as goal

abbrev pub invariant-loop-i : goal.invariant-loop-i
invariant-loop-i l = record {
  within : end_of l.held ≤ length l.bytes;
  left : (s : SealedFields) → IsReadAt l.bytes l.fn.first s → AreLeft l.bytes l.fn.count l.i s (end_of l.fn.first) l.held;
}
