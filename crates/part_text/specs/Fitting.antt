-- The parts that have a text: numbers and keys fit their fields, the facts of a part hold, and the trailer is the
-- digest.
use Rattle.std.specs.Prelude.{◌≡◌, ℕ, ◌<◌, ◌≤◌, ◌^◌, List, length, Option, Some, None, true, All}
use Rattle.sha2.specs.Sha256.{sha256}
use Rattle.octets_core.specs.Linked.{Linked, is_after}
use Rattle.equation_core.specs.declared.hash.TheConstants.{MAX_PLANES}
use Rattle.equation_core.specs.declared.sizes.TheConstants.{MAX_STARTS}
use Rattle.equation_core.specs.Sizes.{columns_for}
use Rattle.ribbon_core.specs.PlaneWords.{PlaneColumns}
use Rattle.ident_core.specs.HeadFields.{HeadFields, IsHead}
use Rattle.ident_core.specs.RangeText.{FitsRange}
use Rattle.card_core.specs.declared.block.Block.{Block}
use Rattle.card_core.specs.declared.block.Body.{Body}
use Rattle.card_core.specs.declared.block.Body.TheVariants as bodies
use Rattle.card_core.specs.declared.leaf.Leaf.{Leaf}
use Rattle.card_core.specs.declared.leaf.Leaf.TheVariants as leaves
use Rattle.card_core.specs.declared.stage.Stage.{Stage}
use Rattle.card_core.specs.MixedFields.{MixedFields}
use Rattle.card_core.specs.ShardedFields.{ShardedFields, IsSharded}
use Rattle.card_core.specs.PartFields.{PartFields, IsPart}
use Rattle.part_text.specs.SealedFields.{SealedFields}
use Rattle.part_text.specs.PartText.{unsealed_text}

-- no column stands behind the last one
pub record PlanesFit (p : PlaneColumns) : Type 0 where
  pub some_starts : 1 ≤ p.starts
  pub few_starts : p.starts ≤ MAX_STARTS
  pub padding : All (λ Z. Z < 2 ^ columns_for p.starts) p.columns

pub record StageFits (s : Stage) : Type 0 where
  pub seed : s.seed < 256
  pub planes : PlanesFit s.planes

-- an approximate stage has 1 to 16 planes
pub record ApproxFits (s : Stage) : Type 0 where
  pub stage : StageFits s
  pub some : 1 ≤ length s.planes.columns
  pub few : length s.planes.columns ≤ MAX_PLANES

abbrev pub FirstFits : Option Stage → Type 0
FirstFits None = Unit {0}
FirstFits (Some s) = ApproxFits s

-- and an exact stage has one
pub record MixedFits (m : MixedFields) : Type 0 where
  pub approx : FirstFits m.approx
  pub exact : StageFits m.exact
  pub one : length m.exact.planes.columns ≡ 1

abbrev pub LeafFits : Leaf → Type 0
LeafFits leaves.Clean = Unit {0}
LeafFits leaves.Every = Unit {0}
LeafFits (leaves.Mixed m) = MixedFits m

pub record ShardsFit (s : ShardedFields) : Type 0 where
  pub facts : IsSharded s
  pub leaves : All LeafFits s.leaves

abbrev pub BodyFits : Body → Type 0
BodyFits bodies.Clean = Unit {0}
BodyFits bodies.Every = Unit {0}
BodyFits (bodies.Mixed m) = MixedFits m
BodyFits (bodies.Sharded s) = ShardsFit s

-- the issuer is a key
pub record BlockFits (b : Block) : Type 0 where
  pub issuer : length b.issuer ≡ 32
  pub body : BodyFits b.body

abbrev pub FitsBlock : Option (List ℕ) → Block → Type 0
FitsBlock previous b = (is_after previous b.issuer ≡ true) × BlockFits b

pub record FitsHead (h : HeadFields) : Type 0 where
  pub facts : IsHead h
  pub epoch : h.epoch < 2 ^ 64
  pub parent : length h.parent ≡ 32
  pub ranges : Linked FitsRange (λ previous r. Some r.log) None h.ranges

pub record FitsPart (p : PartFields) : Type 0 where
  pub facts : IsPart p
  pub head : FitsHead p.head
  pub blocks : Linked FitsBlock (λ previous b. Some b.issuer) None p.blocks

pub record Fits (s : SealedFields) : Type 0 where
  pub part : FitsPart s.part
  pub trailer : s.trailer ≡ sha256 (unsealed_text s.part)
