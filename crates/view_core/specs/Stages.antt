-- What stands of a stage before its planes.
use Rattle.std.specs.Prelude.{ℕ, ◌+◌, ◌≤◌}
use Rattle.equation_core.specs.declared.sizes.TheConstants.{MAX_STARTS}
use Rattle.card_core.specs.declared.stage.Stage.{Stage}
use Rattle.view_core.specs.declared.layout.TheConstants.{STAGE_HEAD}
use Rattle.view_core.specs.declared.leaf.StageHead.{StageHead}

-- of a stage that begins at this place
abbrev pub head_of : Stage → ℕ → StageHead
head_of s at = record { seed = s.seed; starts = s.planes.starts; planes = at + STAGE_HEAD }

-- in so many bytes
pub record IsStageHead (len : ℕ) (head : StageHead) : Type 0 where
  pub some_starts : 1 ≤ head.starts
  pub few_starts : head.starts ≤ MAX_STARTS
  pub within : head.planes ≤ len
