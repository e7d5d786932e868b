use Rattle.std.proofs.Common.{◌≡◌, ◌*◌, ◌^◌, List, length, take}
use Rattle.std.specs.Prelude.{All, flat_map}
use Rattle.part_text.specs.SealedFields.{SealedFields}
use Rattle.part_text.specs.PartText.{spelling}
use Rattle.part_text.specs.Fitting.{Fits}
use Rattle.view_core.specs.Texts.{Stands}
use Rattle.view_core.specs.Filling.{WentOn}
use Rattle.view_core.proofs.Filling.{Went, shard_words}
use Rattle.view_core.proofs.fill.put_shards_of_parts.Given as goal

abbrev pub invariant-loop : goal.invariant-loop
invariant-loop l = record {
  value : (parts : List SealedFields) → All Fits parts → length parts ≡ l.count → Stands l.store l.fn.from.at (flat_map spelling parts)
      → Went spelling shard_words l.initial.index l.index l.fn.from (take l.counter parts) l.walk;
  went : WentOn (length l.store) (2 ^ 48 * l.counter) l.fn.from l.walk;
}
