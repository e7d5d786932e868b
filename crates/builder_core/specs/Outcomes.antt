-- What comes of each leaf, built by itself, and what is made of it.
use Rattle.std.specs.Prelude.{◌≡◌, ◌≢◌, ◌≤◌, ℕ, zero, suc, List, [], ◌∷◌, ◌++◌, map, not, Some, Result, Ok, Err}
use Rattle.std.specs.List.{slice_get}
use Rattle.std.specs.declared.alloc.Global.{Global}
use Rattle.std.specs.declared.vec.Vec.{Vec}
use Rattle.octets_core.specs.declared.memory.NoMemory.{NoMemory as Want}
use Rattle.equation_core.specs.Rows.{Rows}
use Rattle.card_core.specs.declared.block.Block.{Block}
use Rattle.card_core.specs.Leaf.{flagged, IsLeaf, IsStageRefused}
use Rattle.card_core.specs.Filter.{in_shard, IsBlock, IsBlockRefused}
use Rattle.stage_core.specs.declared.fault.BlockFault.{BlockFault}
use Rattle.stage_core.specs.declared.fault.BlockFault.TheVariants as block
use Rattle.universe_core.specs.Groups.{GroupFields}
use Rattle.builder_core.specs.declared.format.Format.{Format}
use Rattle.builder_core.specs.declared.fault.BuildFault.{BuildFault}
use Rattle.builder_core.specs.declared.fault.BuildFault.TheVariants.{SeedsExhausted, NoMemory}
use Rattle.builder_core.specs.declared.built.Built.{Built}
use Rattle.builder_core.specs.declared.built.Built.TheVariants as builts
use Rattle.builder_core.specs.Building.{BuildsBlocks}
use Rattle.builder_core.specs.Tasks.{TaskFields, tasks_in, revoked_of, others_of}

-- the block of a group that isn't cut, or the leaf of a shard
abbrev pub IsBuilt : Rows → TaskFields → Built → Type 0
IsBuilt rows t (builts.Block block) = (t.shift ≡ 0) × IsBlock rows 0 t.group.issuer t.group.universe t.group.revoked block
IsBuilt rows t (builts.Leaf s) =
    (1 ≤ t.shift) × (s.issuer ≡ t.group.issuer) × (s.shift ≡ t.shift) × IsLeaf rows (revoked_of t) (others_of t) s.leaf

-- the stage for which there is no leaf
abbrev pub IsTaskRefused : Rows → GroupFields → ℕ → ℕ → ℕ → Type 0
IsTaskRefused rows g zero shard stage = IsBlockRefused rows 0 g.universe g.revoked stage
IsTaskRefused rows g (suc s) shard stage =
    IsStageRefused rows (in_shard (suc s) shard (flagged g.universe g.revoked))
    (in_shard (suc s) shard (flagged g.universe (map not g.revoked))) stage

-- a leaf, or the refusal, or want of memory
abbrev pub BuildsTask : Rows → TaskFields → Result Built BlockFault → Type 0
BuildsTask rows t (Ok built) = IsBuilt rows t built
BuildsTask rows t (Err block.NoMemory) = Unit {0}
BuildsTask rows t (Err (block.SeedsExhausted stage)) = IsTaskRefused rows t.group t.shift t.shard stage

-- the same, where a refusal has its issuer
abbrev pub IsOutcome : Rows → TaskFields → Result Built BuildFault → Type 0
IsOutcome rows t (Ok built) = IsBuilt rows t built
IsOutcome rows t (Err NoMemory) = Unit {0}
IsOutcome rows t (Err (SeedsExhausted issuer stage)) = (t.group.issuer ≡ issuer) × IsTaskRefused rows t.group t.shift t.shard stage

-- the outcome, but want of memory apart from the others
abbrev pub IsSettled : Result Built BuildFault → Result (Result Built BuildFault) Want → Type 0
IsSettled (Err NoMemory) (Ok outcome) = ⊥
IsSettled (Err NoMemory) (Err want) = Unit {0}
IsSettled outcome settled = settled ≡ Ok outcome

-- the outcome of the leaf at a place, which isn't want of memory
abbrev pub IsOutcomeAt : Rows → List TaskFields → ℕ → Result Built BuildFault → Type 0
IsOutcomeAt rows tasks place outcome =
    (outcome ≢ Err NoMemory) × ((t : TaskFields) → slice_get tasks place ≡ Some t → IsOutcome rows t outcome)

-- an outcome for each leaf, in order
abbrev pub AreOutcomes : Rows → List TaskFields → List (Result Built BuildFault) → Type 0
AreOutcomes rows [] [] = Unit {0}
AreOutcomes rows [] (o ∷ outcomes) = ⊥
AreOutcomes rows (t ∷ tasks) [] = ⊥
AreOutcomes rows (t ∷ tasks) (o ∷ outcomes) = IsOutcome rows t o × AreOutcomes rows tasks outcomes

-- a fault behind leaves
pub record IsFirstFault (outcomes : List (Result Built BuildFault)) (fault : BuildFault) : Type 0 where
  pub before : List Built
  pub after : List (Result Built BuildFault)
  pub whole : outcomes ≡ map Ok before ++ (Err fault ∷ after)

-- the blocks of whatever groups these outcomes are of, or their first refusal, or want of memory
abbrev pub IsAssembled : List (Result Built BuildFault) → Result (Vec Block Global) BuildFault → Type 0
IsAssembled outcomes result = (format : Format) (rows : Rows) (groups : List GroupFields)
    → AreOutcomes rows (tasks_in format groups) outcomes → BuildsBlocks format rows groups result
