-- What holds of the blocks of all groups, and of a refusal.
use Rattle.std.specs.Prelude.{◌≡◌, ◌<◌, ◌≤◌, ◌+◌, ◌*◌, ◌^◌, ◌⊎◌, ℕ, false, List, length, map, slice_index_or, Result, Ok}
use Rattle.std.specs.Borrow.{Bor}
use Rattle.std.specs.declared.alloc.Global.{Global}
use Rattle.std.specs.declared.vec.Vec.{Vec}
use Rattle.ident_core.specs.declared.identity.Identity.{Identity}
use Rattle.equation_core.specs.Rows.{Rows}
use Rattle.card_core.specs.declared.block.Block.{Block}
use Rattle.equation_core.specs.declared.shards.TheConstants.{MAX_SHIFT}
use Rattle.card_core.specs.Filter.{is_positive, shift_for}
use Rattle.universe_core.specs.Groups.{GroupFields}
use Rattle.claim_core.specs.Work.{IsInPlace}
use Rattle.builder_core.specs.declared.format.Format.{Format}
use Rattle.builder_core.specs.declared.fault.BuildFault.{BuildFault}
use Rattle.builder_core.specs.declared.fault.BuildFault.TheVariants.{SeedsExhausted}
use Rattle.builder_core.specs.declared.built.Built.{Built}
use Rattle.builder_core.specs.Building.{IsGroupBlock, AreGroupBlocks, IsFirstRefused}
use Rattle.builder_core.specs.Drawing.{AreDrawnAt}
use Rattle.builder_core.specs.Tasks.{TaskFields, tasks_in}
use Rattle.builder_core.specs.Outcomes.{IsOutcomeAt, AreOutcomes, IsFirstFault}

-- How far a universe of so many revoked and others is cut, apart from how that is found: not at all where none or all
-- are revoked, and else by the greatest shift that leaves 16,384 identities a shard on average, if there is one.
pub record IsShift (revoked others shift : ℕ) : Type 0 where
  pub most : shift ≤ MAX_SHIFT
  pub none : (revoked ≡ 0) ⊎ (others ≡ 0) → shift ≡ 0
  pub room : 1 ≤ shift → 2 ^ shift * 16384 ≤ revoked + others
  pub greatest : 1 ≤ revoked → 1 ≤ others
      → (j : ℕ) → 1 ≤ j → j ≤ MAX_SHIFT → 2 ^ j * 16384 ≤ revoked + others → j ≤ shift

abbrev pub ShiftsAreGreatest : Type 0
ShiftsAreGreatest = (revoked others : ℕ) → IsShift revoked others (shift_for revoked others)

-- in each format the test of each identity of a group is its flag
abbrev pub GroupBlockIsExact : Type 0
GroupBlockIsExact =
    (format : Format) (rows : Rows) (g : GroupFields) (block : Block) → length g.revoked ≡ length g.universe
    → IsGroupBlock format rows g block
    → (i : ℕ) (x : Identity) → i < length g.universe
    → is_positive rows (slice_index_or g.universe i x) block.body ≡ slice_index_or g.revoked i false

abbrev pub GroupBlocksAreUnique : Type 0
GroupBlocksAreUnique = (format : Format) (rows : Rows) (groups : List GroupFields) (a b : List Block)
    → AreGroupBlocks format rows groups a → AreGroupBlocks format rows groups b → a ≡ b

-- groups have blocks, or one of them is the first that is refused
abbrev pub BlocksOrRefusal : Type 0
BlocksOrRefusal = (format : Format) (rows : Rows) (groups : List GroupFields)
    → ((blocks : List Block) × AreGroupBlocks format rows groups blocks)
    ⊎ ((issuer : List ℕ) × (stage : ℕ) × IsFirstRefused format rows groups issuer stage)

-- where a group is refused there are no blocks of all groups
abbrev pub RefusedHasNoBlocks : Type 0
RefusedHasNoBlocks =
    (format : Format) (rows : Rows) (groups : List GroupFields) (issuer : List ℕ) (stage : ℕ) (blocks : List Block)
    → IsFirstRefused format rows groups issuer stage → AreGroupBlocks format rows groups blocks → ⊥

-- runs of neighbours have one list of shards
abbrev pub ShardsAreUnique : Type 0
ShardsAreUnique =
    (shift : ℕ) (runs : List (Bor (List Identity))) (xs ys : List (Vec ℕ Global)) → length xs ≡ length runs → length ys ≡ length runs
    → IsInPlace (AreDrawnAt shift runs) xs → IsInPlace (AreDrawnAt shift runs) ys → map (λ v. v.items) xs ≡ map (λ v. v.items) ys

-- leaves have one list of outcomes where memory suffices
abbrev pub OutcomesAreUnique : Type 0
OutcomesAreUnique =
    (rows : Rows) (tasks : List TaskFields) (xs ys : List (Result Built BuildFault)) → length xs ≡ length tasks → length ys ≡ length tasks
    → IsInPlace (IsOutcomeAt rows tasks) xs → IsInPlace (IsOutcomeAt rows tasks) ys → xs ≡ ys

-- only one issuer is the first that is refused, at one stage
abbrev pub OneIsFirstRefused : Type 0
OneIsFirstRefused =
    (format : Format) (rows : Rows) (groups : List GroupFields) (issuer other_issuer : List ℕ) (stage other_stage : ℕ)
    → IsFirstRefused format rows groups issuer stage → IsFirstRefused format rows groups other_issuer other_stage
    → (issuer ≡ other_issuer) × (stage ≡ other_stage)

-- The outcomes of the leaves, in order: where all are built there are blocks of all groups, and the first that is
-- refused makes its group the first that is refused.
abbrev pub OutcomesGiveBlocks : Type 0
OutcomesGiveBlocks =
    (format : Format) (rows : Rows) (groups : List GroupFields) (outcomes : List (Result Built BuildFault))
    → AreOutcomes rows (tasks_in format groups) outcomes
    → ((built : List Built) → outcomes ≡ map Ok built → (blocks : List Block) × AreGroupBlocks format rows groups blocks)
    × ((issuer : List ℕ) (stage : ℕ) → IsFirstFault outcomes (SeedsExhausted issuer stage) → IsFirstRefused format rows groups issuer stage)
