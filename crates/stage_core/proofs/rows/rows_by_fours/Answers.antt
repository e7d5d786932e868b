use Rattle.std.proofs.Common.{◌*◌, ◌++◌, ◌∷◌, [], ℕ, List, map, take, ap, ◌∙◌, arith, Bor}
use Rattle.std.proofs.lemmas.List.{take_all}
use Rattle.ident_core.specs.declared.identity.Identity.{Identity}
use Rattle.equation_core.specs.declared.hash.Row.{Row}
use Rattle.stage_core.proofs.Fours.{map_four, map_next}
use Rattle.stage_core.proofs.rows.rows_by_fours.Goals as goal

pub fours-preserved : goal.fours-preserved
fours-preserved g c =
    let keys = c.args.keys.now in
    let at : ℕ = 4 * c.fours.i in
    let row = λ (key : Bor Identity). g.H.EquationHash.row_of c.args.hash.now c.args.shape.stage c.args.seed key.now c.args.shape.starts in
    c.in_ok-extend_from_slice.ensures.items
    ∙ ap (λ (l : List Row). c.fours.rows.items ++ l) c.four_rows-four.ensures
    ∙ map_four row keys at c.index-keys-at.result c.index-keys-at-in-fours.result c.index-keys-at-in-fours-2.result c.index-keys-at-in-fours-3.result
    c.fours.rows.items (omega arith)
    c.index-keys-at.is c.index-keys-at-in-fours.is c.index-keys-at-in-fours-2.is c.index-keys-at-in-fours-3.is c.fours.invariant
    ∙ ap (λ (n : ℕ). map row (take n keys)) (omega arith)

pub rest-preserved : goal.rest-preserved
rest-preserved g c =
    let row = λ (key : Bor Identity). g.H.EquationHash.row_of c.args.hash.now c.args.shape.stage c.args.seed key.now c.args.shape.starts in
    c.in_ok-push.ensures.items
    ∙ ap (λ (r : Row). c.rest.rows.items ++ (r ∷ [])) c.row.ensures.value
    ∙ map_next row c.args.keys.now c.rest.i c.index-keys-i.result c.rest.rows.items (omega arith) c.index-keys-i.is c.rest.invariant

pub returns : goal.returns
returns g c =
    c.rest.invariant
    ∙ ap (map (λ (key : Bor Identity). g.H.EquationHash.row_of c.args.hash.now c.args.shape.stage c.args.seed key.now c.args.shape.starts)) (take_all c.rest.i c.args.keys.now (omega arith))
