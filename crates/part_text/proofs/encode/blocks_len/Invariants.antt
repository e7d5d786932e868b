use Rattle.std.proofs.Common.{◌≡◌, ◌≤◌, ◌*◌, length, take}
use Rattle.std.specs.Prelude.{flat_map}
use Rattle.part_text.specs.declared.encode.TheConstants.{MAX_BLOCK}
use Rattle.part_text.specs.PartText.{block_text}
use Rattle.part_text.proofs.encode.blocks_len.Given as goal

abbrev pub invariant-loop-block : goal.invariant-loop-block
invariant-loop-block l = record {
  value : l.len ≡ length (flat_map block_text (take l.block-index l.blocks));
  few : l.len ≤ l.block-index * MAX_BLOCK;
}
