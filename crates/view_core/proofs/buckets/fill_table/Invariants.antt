use Rattle.std.proofs.Common.{◌≡◌, ◌≤◌, ◌+◌, ◌-◌, ℕ, List, length}
use Rattle.card_core.specs.declared.block.Block.{Block}
use Rattle.view_core.specs.Standing.{AreBlocksAt}
use Rattle.view_core.proofs.BucketFills.{IsFilled}
use Rattle.view_core.proofs.buckets.fill_table.Given as goal

abbrev pub invariant-loop-bucket : goal.invariant-loop-bucket
invariant-loop-bucket l = record {
  value : (at : ℕ) (blocks : List Block) → AreBlocksAt l.bytes at l.places blocks → length l.initial.table ≡ length l.places
      → IsFilled blocks l.table l.block l.bucket;
  block : l.block ≤ length l.places;
  len : length l.table ≡ length l.initial.table;
}

abbrev pub decreases-loop-bucket : goal.decreases-loop-bucket
decreases-loop-bucket l = (length l.places - l.block) + (length l.table - l.bucket)
