use Rattle.std.proofs.Common.{◌∙◌, map, ap, sym, Bor}
use Rattle.ident_core.specs.declared.identity.Identity.{Identity}
use Rattle.equation_core.specs.declared.hash.Row.{Row}
use Rattle.stage_core.proofs.InThreads.{map_twice}
use Rattle.stage_core.proofs.rows.rows_alone.Goals as goal

pub returns : goal.returns
returns g c =
    let row : Identity → Row = λ x. g.H.EquationHash.row_of c.args.hash.now c.args.shape.stage c.args.seed x c.args.shape.starts in
    c.in_ok-rows.ensures
    ∙ ap (map (λ (key : Bor Identity). row key.now)) c.deref.ensures.value
    ∙ sym (map_twice row (λ (key : Bor Identity). key.now) c.in_ok-keys.keys.items)
    ∙ ap (map row) c.in_ok-keys.ensures
