use Rattle.std.proofs.Common.{◌≡◌, ℕ, Some, None, sym, ap, ◌∙◌}
use Rattle.equation_core.specs.Rows.{sha256_row}
use Rattle.equation_core.specs.declared.hash.Row.{Row}
use Rattle.ident_core.specs.declared.identity.Identity.{Identity}
use Rattle.card_core.specs.Leaf.{accepts}
use Rattle.view_core.specs.Stages.{head_of}
use Rattle.view_core.specs.declared.leaf.StageHead.{StageHead}
use Rattle.view_core.proofs.leaf.passes_at.Goals as goal

pub returns-clause-value : goal.returns-clause-value
returns-clause-value g c None fits count h = absurd (c.if-count-eq0.false (sym count))
returns-clause-value g c (Some s) fits count h =
    let head : c.in-Some.stage ≡ head_of s c.args.at = let found = c.in-Some.ensures.value s fits.stage h in cc in
    let row = c.row-row.ensures.value ∙ ap (λ (x : StageHead). sha256_row 1 x.seed c.args.draws.now x.starts) head in
    c.accepts_at.ensures.value c.args.at s c.args.draws.now fits.stage count head h
    ∙ ap (λ (r : Row). accepts (λ (_ _ : ℕ) (_ : Identity) (_ : ℕ). r) s c.args.draws.now) row
