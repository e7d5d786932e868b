use Rattle.std.proofs.Common.{◌*◌, ◌++◌, ◌∷◌, [], ℕ, List, map, take, ap, ◌∙◌, arith}
use Rattle.std.proofs.lemmas.List.{take_all}
use Rattle.ident_core.specs.declared.identity.Identity.{Identity}
use Rattle.equation_core.specs.Shards.{shard}
use Rattle.stage_core.proofs.Fours.{map_four, map_next}
use Rattle.builder_core.proofs.drawing.shards_alone.Goals as goal

pub fours-preserved : goal.fours-preserved
fours-preserved c =
    let xs = c.args.universe.now in
    let at : ℕ = 4 * c.fours.i in
    let f = λ (x : Identity). shard x c.args.shift in
    c.in_ok-extend_from_slice.ensures.items
    ∙ ap (λ (l : List ℕ). c.fours.shards.items ++ l) c.four_shards-four.ensures
    ∙ map_four f xs at c.index-universe-at.result c.index-universe-at-in-fours.result c.index-universe-at-in-fours-2.result c.index-universe-at-in-fours-3.result
    c.fours.shards.items (omega arith)
    c.index-universe-at.is c.index-universe-at-in-fours.is c.index-universe-at-in-fours-2.is c.index-universe-at-in-fours-3.is c.fours.invariant
    ∙ ap (λ (n : ℕ). map f (take n xs)) (omega arith)

pub rest-preserved : goal.rest-preserved
rest-preserved c =
    let f = λ (x : Identity). shard x c.args.shift in
    c.in_ok-push.ensures.items
    ∙ ap (λ (b : ℕ). c.rest.shards.items ++ (b ∷ [])) c.shard_of.ensures.value
    ∙ map_next f c.args.universe.now c.rest.i c.index-universe-i.result c.rest.shards.items (omega arith) c.index-universe-i.is c.rest.invariant

pub returns : goal.returns
returns c =
    let xs = c.args.universe.now in
    c.rest.invariant ∙ ap (map (λ (x : Identity). shard x c.args.shift)) (take_all c.rest.i xs (omega arith))
