use Rattle.std.proofs.Common.{ℕ, ◌<◌}
use Rattle.card_core.specs.Leaf.{Solvable}
use Rattle.stage_core.specs.Keys.{shape_equations}
use Rattle.stage_core.proofs.seeds.first_stage.Given as goal

abbrev pub invariant-loop-number : goal.invariant-loop-number
invariant-loop-number g l = (s : ℕ) → s < l.number
    → Solvable l.shape.planes (shape_equations (g.W.Hashing.row_of l.hashing) l.shape l.universe l.revoked l.passed s) → ⊥
