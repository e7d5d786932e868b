use Rattle.std.proofs.Common.{◌≡◌, ◌*◌, ◌^◌, List, length, take}
use Rattle.std.specs.Prelude.{All, flat_map}
use Rattle.std.specs.List.{list_any}
use Rattle.part_text.specs.SealedFields.{SealedFields}
use Rattle.part_text.specs.PartText.{spelling}
use Rattle.part_text.specs.Fitting.{Fits}
use Rattle.view_core.specs.Texts.{Stands}
use Rattle.view_core.specs.Index.{has_shards}
use Rattle.view_core.specs.Filling.{WentOn}
use Rattle.view_core.proofs.Filling.{Went, part_words}
use Rattle.view_core.proofs.fill.put_parts.Given as goal

abbrev pub invariant-loop : goal.invariant-loop
invariant-loop l = record {
  value : (parts : List SealedFields) → All Fits parts → length parts ≡ l.count → Stands l.store l.fn.from.at (flat_map spelling parts)
      → Went spelling part_words l.initial.index l.index l.fn.from (take l.counter parts) l.walk;
  sharded : (parts : List SealedFields) → All Fits parts → length parts ≡ l.count → Stands l.store l.fn.from.at (flat_map spelling parts)
      → l.sharded ≡ list_any has_shards (take l.counter parts);
  went : WentOn (length l.store) (2 ^ 34 * l.counter) l.fn.from l.walk;
}
