-- What a part that is read in pieces is collected into.
use Rattle.std.specs.Prelude.{ℕ, List, Option}
use Rattle.ident_core.specs.declared.range.Range.{Range}
use Rattle.card_core.specs.declared.block.Block.{Block}
use Rattle.card_core.specs.declared.leaf.Leaf.{Leaf}
use Rattle.card_core.specs.declared.stage.Stage.{Stage}

pub record PileFields : Type 0 where
  pub ranges : List Range
  pub blocks : List Block
  -- of the shards of the open block
  pub leaves : List Leaf
  pub approx : Option Stage
  -- the bytes of the open stage's planes, and how many of these are whole
  pub bytes : List ℕ
  pub done : ℕ
