use Rattle.std.proofs.Common.{◌≡◌, ◌+◌, ◌≤◌, List, length, take}
use Rattle.std.specs.Prelude.{All, flat_map}
use Rattle.card_core.specs.declared.leaf.Leaf.{Leaf}
use Rattle.part_text.specs.PartText.{shard_leaf_text}
use Rattle.part_text.specs.Fitting.{LeafFits}
use Rattle.view_core.specs.Texts.{Stands}
use Rattle.view_core.proofs.ends.shards_end.Given as goal

abbrev pub invariant-loop : goal.invariant-loop
invariant-loop l = record {
  value : (leaves : List Leaf) → All LeafFits leaves → length leaves ≡ l.count → Stands l.bytes l.at (flat_map shard_leaf_text leaves)
      → l.end ≡ l.at + length (flat_map shard_leaf_text (take l.counter leaves));
  within : l.at ≤ length l.bytes → l.end ≤ length l.bytes;
}
