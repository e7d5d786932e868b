use Rattle.std.proofs.Common.{◌≡◌, ℕ, ◌<◌, ◌≤◌, ◌+◌, ◌*◌, length, get_or}
use Rattle.std.specs.Int.{bit_at}
use Rattle.ribbon_core.specs.Equations.{sum_of}
use Rattle.ribbon_core.specs.Rows.{equation_of}
use Rattle.card_core.specs.declared.stage.Stage.{Stage}
use Rattle.part_text.specs.PartText.{stage_text}
use Rattle.view_core.specs.Texts.{Stands}
use Rattle.view_core.specs.Stages.{head_of}
use Rattle.view_core.proofs.leaf.accepts_at.Given as goal

abbrev pub invariant-loop-plane : goal.invariant-loop-plane
invariant-loop-plane g l = record {
  more : l.fn.words ≤ l.words;
  steps : l.words ≤ l.fn.words + 3 * l.plane;
  same : (at : ℕ) (s : Stage) (p : ℕ) → length s.planes.columns ≡ l.count → l.stage ≡ head_of s at → Stands l.bytes at (stage_text s) → p < l.plane
      → sum_of (equation_of l.row) (get_or s.planes.columns p 0) ≡ bit_at l.row.tag p;
}
