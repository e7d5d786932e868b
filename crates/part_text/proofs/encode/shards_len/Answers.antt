use Rattle.std.proofs.Common.{arith}
use Rattle.part_text.specs.PartText.{shard_leaf_text}
use Rattle.part_text.proofs.Lengths.{longer}
use Rattle.part_text.proofs.encode.shards_len.Goals as goal

pub loop-leaf-preserved : goal.loop-leaf-preserved
loop-leaf-preserved c = record {
  value = longer shard_leaf_text c.args.leaves.now c.loop-leaf.leaf-index c.leaf-item.result c.loop-leaf.len c.shard_len-len.result c.loop-leaf-test.true c.leaf-item.is
      c.loop-leaf.invariant.value c.shard_len-len.ensures.value;
  few = omega (arith, c.loop-leaf.invariant.few, c.shard_len-len.ensures.few);
}
