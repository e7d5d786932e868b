use Rattle.std.proofs.Common.{◌≡◌, ℕ, ap, ◌∙◌}
use Rattle.ident_core.specs.declared.identity.Identity.{Identity}
use Rattle.equation_core.specs.declared.hash.Row.{Row}
use Rattle.card_core.specs.Leaf.{accepts}
use Rattle.card_core.proofs.stage.accepts.Goals as goal

pub returns-clause-value : goal.returns-clause-value
returns-clause-value g c =
    let row : c.row-row.result ≡ g.H.EquationHash.row_of c.args.hash.now 1 c.args.stage.now.seed c.args.id.now c.args.stage.now.planes.starts =
    c.row-row.ensures.value ∙ ap (λ (n : ℕ). g.H.EquationHash.row_of c.args.hash.now 1 c.args.stage.now.seed c.args.id.now n) c.starts.ensures.value in
    c.accepts_row.ensures.value c.args.id.now
    ∙ ap (λ (r : Row). accepts (λ (_ _ : ℕ) (_ : Identity) (_ : ℕ). r) c.args.stage.now c.args.id.now) row
