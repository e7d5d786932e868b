-- What a part is built of.
use Rattle.std.specs.Prelude.{◌≡◌, List}
use Rattle.sha2.specs.Sha256.{sha256}
use Rattle.ident_core.specs.HeadFields.{HeadFields}
use Rattle.equation_core.specs.Rows.{sha256_row}
use Rattle.card_core.specs.declared.block.Block.{Block}
use Rattle.part_text.specs.PartText.{unsealed_text}
use Rattle.part_text.specs.SealedFields.{SealedFields}
use Rattle.universe_core.specs.Formats.{JobFormat}
use Rattle.universe_core.specs.Groups.{GroupFields}
use Rattle.builder_core.specs.Building.{AreGroupBlocks}
use Rattle.publication_core.specs.Formats.{blocks_in}

-- each of the groups has a block in the format, by rows of SHA-256
abbrev pub HaveBlocks : JobFormat → List GroupFields → Type 0
HaveBlocks format groups = (blocks : List Block) × AreGroupBlocks (blocks_in format) sha256_row groups blocks

-- A part with this head, these blocks, and its digest.
pub record IsSealedPart (format : JobFormat) (head : HeadFields) (groups : List GroupFields) (s : SealedFields) : Type 0 where
  pub head_is : s.part.head ≡ head
  pub blocks : AreGroupBlocks (blocks_in format) sha256_row groups s.part.blocks
  pub trailer : s.trailer ≡ sha256 (unsealed_text s.part)
