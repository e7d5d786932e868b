use Rattle.std.proofs.Common.{◌≡◌, ◌≤◌, ◌*◌, length, take}
use Rattle.std.specs.Prelude.{flat_map}
use Rattle.part_text.specs.declared.encode.TheConstants.{MAX_LEAF}
use Rattle.part_text.specs.PartText.{shard_leaf_text}
use Rattle.part_text.proofs.encode.shards_len.Given as goal

abbrev pub invariant-loop-leaf : goal.invariant-loop-leaf
invariant-loop-leaf l = record {
  value : l.len ≡ length (flat_map shard_leaf_text (take l.leaf-index l.leaves));
  few : l.len ≤ l.leaf-index * MAX_LEAF;
}
