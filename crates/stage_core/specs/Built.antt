-- What building a filter gives.
use Rattle.std.specs.Prelude.{◌≡◌, ◌<◌, ℕ, Bool, List, length, slice_index, Option, Some, None, Result, Ok, Err}
use Rattle.ident_core.specs.declared.identity.Identity.{Identity}
use Rattle.equation_core.specs.Rows.{Rows}
use Rattle.ribbon_core.specs.Equations.{Equation, Least, SolvesAll}
use Rattle.ribbon_core.specs.PlaneWords.{PlaneColumns}
use Rattle.card_core.specs.declared.stage.Stage.{Stage}
use Rattle.card_core.specs.declared.block.Block.{Block}
use Rattle.card_core.specs.declared.leaf.Leaf.{Leaf}
use Rattle.card_core.specs.Leaf.{IsLeaf, IsStageRefused, IsStage, IsExhausted, IsApproxIfAny, IsApproxExhausted}
use Rattle.card_core.specs.Leaf.{IsExactStage, exact_equations}
use Rattle.card_core.specs.Filter.{IsBlock, IsBlockRefused}
use Rattle.stage_core.specs.declared.fault.BlockFault.{BlockFault}
use Rattle.stage_core.specs.declared.fault.BlockFault.TheVariants.{SeedsExhausted, NoMemory}

-- the stage with the least seed, or none where no seed serves
abbrev pub IsFirstStage : (ℕ → List Equation) → ℕ → ℕ → Option Stage → Type 0
IsFirstStage equations starts planes None = IsExhausted equations planes
IsFirstStage equations starts planes (Some s) = IsStage equations starts planes s

-- the least solution of each plane, or none where some plane has none
abbrev pub IsSolved : List Equation → ℕ → ℕ → Option PlaneColumns → Type 0
IsSolved es starts planes None = (p : ℕ) × (p < planes) × ((Z : ℕ) → SolvesAll p es Z → ⊥)
IsSolved es starts planes (Some s) =
    (s.starts ≡ starts) × (length s.columns ≡ planes) × ((p : ℕ) → p < planes → Least p es (slice_index s.columns p))

abbrev pub BuildsApprox : Rows → List Identity → List Identity → Result (Option Stage) BlockFault → Type 0
BuildsApprox rows revoked others (Ok approx) = IsApproxIfAny rows revoked others approx
BuildsApprox rows revoked others (Err NoMemory) = Unit {0}
BuildsApprox rows revoked others (Err (SeedsExhausted stage)) = (stage ≡ 1) × IsApproxExhausted rows revoked others

abbrev pub BuildsExact : Rows → List Identity → List Identity → Result Stage BlockFault → Type 0
BuildsExact rows revoked passed (Ok s) = IsExactStage rows revoked passed s
BuildsExact rows revoked passed (Err NoMemory) = Unit {0}
BuildsExact rows revoked passed (Err (SeedsExhausted stage)) = (stage ≡ 2) × IsExhausted (exact_equations rows revoked passed) 1

-- the leaf, or the stage that is unsolvable at each seed, or want of memory
abbrev pub BuildsLeaf : Rows → List Identity → List Identity → Result Leaf BlockFault → Type 0
BuildsLeaf rows revoked others (Ok leaf) = IsLeaf rows revoked others leaf
BuildsLeaf rows revoked others (Err NoMemory) = Unit {0}
BuildsLeaf rows revoked others (Err (SeedsExhausted stage)) = IsStageRefused rows revoked others stage

-- the block that isn't cut, or the same
abbrev pub BuildsBlock : Rows → List ℕ → List Identity → List Bool → Result Block BlockFault → Type 0
BuildsBlock rows issuer universe flags (Ok block) = IsBlock rows 0 issuer universe flags block
BuildsBlock rows issuer universe flags (Err NoMemory) = Unit {0}
BuildsBlock rows issuer universe flags (Err (SeedsExhausted stage)) = IsBlockRefused rows 0 universe flags stage
