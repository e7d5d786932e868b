use Rattle.std.proofs.Common.{◌≡◌, ℕ, ◌+◌, ◌*◌, ◌==◌, get_or, ap, ◌∙◌, arith}
use Rattle.equation_core.specs.Rows.{sha256_row}
use Rattle.equation_core.specs.Sizes.{words_for}
use Rattle.equation_core.specs.declared.hash.Row.{Row}
use Rattle.ribbon_core.specs.Equations.{sum_of}
use Rattle.ribbon_core.specs.Rows.{equation_of}
use Rattle.view_core.specs.Stages.{head_of}
use Rattle.view_core.specs.declared.leaf.StageHead.{StageHead}
use Rattle.view_core.proofs.Leaves.{row_sum}
use Rattle.view_core.proofs.leaf.is_one_at.Goals as goal

pub returns-clause-value : goal.returns-clause-value
returns-clause-value g c s fits one h =
    let head : c.in-Some.stage ≡ head_of s c.args.at = let found = c.in-Some.ensures.value s fits h in cc in
    let row = c.row-row.ensures.value ∙ ap (λ (x : StageHead). sha256_row 2 x.seed c.args.draws.now x.starts) head in
    let place : c.in-Some.stage.planes ≡ c.in-Some.stage.planes + 8 * words_for c.in-Some.stage.starts * 0 = omega arith in
    let sum = row_sum c.args.bytes.now c.args.at s c.in-Some.stage _ 0 c.sum_at.result c.row-row.result head place
    c.row-row.ensures.formed.start (omega (arith, one)) h c.sum_at.ensures.value in
    ap (λ (n : ℕ). n == 1) (sum ∙ ap (λ (r : Row). sum_of (equation_of r) (get_or s.planes.columns 0 0)) row)
