use Rattle.std.proofs.Common.{◌≡◌, ℕ, ◌↔◌, take}
use Rattle.ribbon_core.specs.Equations.{SolvesAll}
use Rattle.stage_core.specs.Keys.{row_equations}
use Rattle.stage_core.proofs.keys.add_rows.Given as goal

abbrev pub invariant-loop-row : goal.invariant-loop-row
invariant-loop-row l = record {
  starts : l.system.starts ≡ l.fn.system.starts;
  planes : l.system.planes ≡ l.fn.system.planes;
  same : (plane Z : ℕ) → SolvesAll plane l.system.equations Z ↔ (SolvesAll plane l.fn.system.equations Z × SolvesAll plane (row_equations l.target l.planes (take l.row-index l.rows)) Z);
}
