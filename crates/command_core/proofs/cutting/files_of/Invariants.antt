use Rattle.std.proofs.Common.{◌≡◌, length}
use Rattle.std.specs.Vec.Iter.{into_iter_items, into_iter_len}
use Rattle.command_core.proofs.CutFiles.{IsFiled}
use Rattle.command_core.proofs.cutting.files_of.Given as goal

abbrev pub invariant-loop-name : goal.invariant-loop-name
invariant-loop-name l = record {
  whole : into_iter_len l.left ≡ length (into_iter_items l.left);
  filed : IsFiled l.name-index l.names l.fn.texts.items (into_iter_items l.left) l.files.items;
}
