-- The blocks of groups, and the part that they make.
use Rattle.std.specs.Prelude.{◌≡◌, ℕ, List, [], ◌∷◌, ◌++◌, map, not, length, sum_by, Result, Ok, Err}
use Rattle.std.specs.declared.alloc.Global.{Global}
use Rattle.std.specs.declared.vec.Vec.{Vec}
use Rattle.ident_core.specs.HeadFields.{HeadFields}
use Rattle.equation_core.specs.Rows.{Rows}
use Rattle.card_core.specs.declared.block.Block.{Block}
use Rattle.card_core.specs.Leaf.{flagged}
use Rattle.card_core.specs.Filter.{shift_for, IsBlock, IsBlockRefused}
use Rattle.card_core.specs.PartFields.{PartFields}
use Rattle.stage_core.specs.declared.fault.BlockFault.{BlockFault}
use Rattle.stage_core.specs.declared.fault.BlockFault.TheVariants as block
use Rattle.universe_core.specs.Groups.{GroupFields}
use Rattle.builder_core.specs.declared.format.Format.{Format}
use Rattle.builder_core.specs.declared.format.Format.TheVariants.{Plain, Sharded}
use Rattle.builder_core.specs.declared.fault.BuildFault.{BuildFault}
use Rattle.builder_core.specs.declared.fault.BuildFault.TheVariants.{SeedsExhausted, NoMemory}

abbrev pub issuers_of : List GroupFields → List (List ℕ)
issuers_of groups = map (λ g. g.issuer) groups

-- how many identities the groups have together
abbrev pub identities_in : List GroupFields → ℕ
identities_in groups = sum_by (λ g. length g.universe) groups

-- by how many bits the block of a group is cut
abbrev pub shift_in : Format → GroupFields → ℕ
shift_in Plain g = 0
shift_in Sharded g = shift_for (length (flagged g.universe g.revoked)) (length (flagged g.universe (map not g.revoked)))

abbrev pub IsGroupBlock : Format → Rows → GroupFields → Block → Type 0
IsGroupBlock format rows g block = IsBlock rows (shift_in format g) g.issuer g.universe g.revoked block

-- a block for each group, in order
abbrev pub AreGroupBlocks : Format → Rows → List GroupFields → List Block → Type 0
AreGroupBlocks format rows [] [] = Unit {0}
AreGroupBlocks format rows [] (b ∷ blocks) = ⊥
AreGroupBlocks format rows (g ∷ groups) [] = ⊥
AreGroupBlocks format rows (g ∷ groups) (b ∷ blocks) = IsGroupBlock format rows g b × AreGroupBlocks format rows groups blocks

-- a group whose block is refused at a stage, behind groups that have blocks
pub record IsFirstRefused (format : Format) (rows : Rows) (groups : List GroupFields) (issuer : List ℕ) (stage : ℕ) : Type 0 where
  pub before : List GroupFields
  pub group : GroupFields
  pub after : List GroupFields
  pub whole : groups ≡ before ++ (group ∷ after)
  pub blocks : List Block
  pub built : AreGroupBlocks format rows before blocks
  pub named : group.issuer ≡ issuer
  pub refused : IsBlockRefused rows (shift_in format group) group.universe group.revoked stage

-- a block's fault with its issuer
abbrev pub fault_of : List ℕ → BlockFault → BuildFault
fault_of issuer (block.SeedsExhausted stage) = SeedsExhausted issuer stage
fault_of issuer block.NoMemory = NoMemory

abbrev pub IsBuildFault : Format → Rows → List GroupFields → BuildFault → Type 0
IsBuildFault format rows groups NoMemory = Unit {0}
IsBuildFault format rows groups (SeedsExhausted issuer stage) = IsFirstRefused format rows groups issuer stage

-- the blocks of the groups, or the first refusal, or want of memory
abbrev pub BuildsBlocks : Format → Rows → List GroupFields → Result (Vec Block Global) BuildFault → Type 0
BuildsBlocks format rows groups (Ok blocks) = AreGroupBlocks format rows groups blocks.items
BuildsBlocks format rows groups (Err fault) = IsBuildFault format rows groups fault

-- the same with the head
abbrev pub BuildsPart : Format → Rows → HeadFields → List GroupFields → Result PartFields BuildFault → Type 0
BuildsPart format rows head groups (Ok part) = (part.head ≡ head) × AreGroupBlocks format rows groups part.blocks
BuildsPart format rows head groups (Err fault) = IsBuildFault format rows groups fault
