use Rattle.std.proofs.Common.{◌&&◌, ◌*◌, ◌++◌, ◌∷◌, [], ℕ, Bool, List, not, map, take, zip, ap, ◌∙◌, arith}
use Rattle.std.proofs.lemmas.List.{take_all}
use Rattle.std.proofs.lemmas.Slice.Zip.{length-zip}
use Rattle.ident_core.specs.declared.identity.Identity.{Identity}
use Rattle.card_core.specs.Leaf.{passes}
use Rattle.stage_core.proofs.Fours.{flags_four, flags_next}
use Rattle.stage_core.proofs.passing.flags_alone.Goals as goal

pub fours-preserved : goal.fours-preserved
fours-preserved g c =
    let xs = c.args.universe.now in
    let ys = c.args.revoked.now in
    let at : ℕ = 4 * c.fours.i in
    let f = λ (p : Identity × Bool). not p.1 && passes (g.H.EquationHash.row_of c.args.hash.now) c.args.approx.now p.0 in
    c.in_ok-extend_from_slice.ensures.items
    ∙ ap (λ (l : List Bool). c.fours.flags.items ++ l) c.four_flags.ensures
    ∙ flags_four f xs ys at c.index-universe-at.result c.index-universe-at-in-fours.result c.index-universe-at-in-fours-2.result c.index-universe-at-in-fours-3.result
    c.fours.flags.items c.requires (omega arith)
    c.index-universe-at.is c.index-universe-at-in-fours.is c.index-universe-at-in-fours-2.is c.index-universe-at-in-fours-3.is c.fours.invariant
    ∙ ap (λ (n : ℕ). map f (take n (zip xs ys))) (omega arith)

pub rest-preserved : goal.rest-preserved
rest-preserved g c =
    let f = λ (p : Identity × Bool). not p.1 && passes (g.H.EquationHash.row_of c.args.hash.now) c.args.approx.now p.0 in
    c.in_ok-push.ensures.items
    ∙ ap (λ (b : Bool). c.rest.flags.items ++ (b ∷ [])) c.is_false_positive.ensures
    ∙ flags_next f c.args.universe.now c.args.revoked.now c.rest.i c.index-universe-i.result c.rest.flags.items c.requires (omega arith) c.index-universe-i.is c.rest.invariant

pub returns : goal.returns
returns g c =
    let xs = c.args.universe.now in
    let ys = c.args.revoked.now in
    let f = λ (p : Identity × Bool). not p.1 && passes (g.H.EquationHash.row_of c.args.hash.now) c.args.approx.now p.0 in
    c.rest.invariant ∙ ap (map f) (take_all c.rest.i (zip xs ys) (omega (arith, length-zip xs ys)))
