use Rattle.std.proofs.Common.{◌≡◌, List, length, take}
use Rattle.std.specs.Prelude.{All, flat_map}
use Rattle.card_core.specs.declared.leaf.Leaf.{Leaf}
use Rattle.part_text.specs.PartText.{shard_leaf_text}
use Rattle.part_text.specs.Fitting.{LeafFits}
use Rattle.view_core.specs.Texts.{Stands}
use Rattle.view_core.specs.Filling.{WentOn}
use Rattle.view_core.proofs.Filling.{Went, place}
use Rattle.view_core.proofs.fill.put_shards.Given as goal

abbrev pub invariant-loop : goal.invariant-loop
invariant-loop l = record {
  value : (leaves : List Leaf) → All LeafFits leaves → length leaves ≡ l.count → Stands l.store l.fn.from.at (flat_map shard_leaf_text leaves)
      → Went shard_leaf_text place l.initial.index l.index l.fn.from (take l.counter leaves) l.walk;
  went : WentOn (length l.store) l.counter l.fn.from l.walk;
}
