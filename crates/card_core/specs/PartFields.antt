-- What a part holds.
use Rattle.std.specs.Prelude.{◌≡◌, ◌≤◌, List, length, Some, None, true}
use Rattle.ident_core.specs.HeadFields.{HeadFields}
use Rattle.octets_core.specs.Linked.{Linked, is_after}
use Rattle.ident_core.specs.declared.bounds.TheConstants.{MAX_ISSUERS}
use Rattle.card_core.specs.declared.block.Block.{Block}

pub record PartFields : Type 0 where
  pub head : HeadFields
  pub blocks : List Block

-- the issuers ascend
abbrev pub AreBlocks : List Block → Type 0
AreBlocks blocks = Linked (λ previous b. is_after previous b.issuer ≡ true) (λ previous b. Some b.issuer) None blocks

-- the facts that each part keeps
pub record IsPart (p : PartFields) : Type 0 where
  pub few : length p.blocks ≤ MAX_ISSUERS
  pub ascending : AreBlocks p.blocks
