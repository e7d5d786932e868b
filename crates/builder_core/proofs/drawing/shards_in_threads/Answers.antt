use Rattle.std.proofs.Common.{ℕ, List, Vec, Global, Bor, map, ap, ◌∙◌}
use Rattle.std.specs.List.{flat_map}
use Rattle.ident_core.specs.declared.identity.Identity.{Identity}
use Rattle.equation_core.specs.Shards.{shard}
use Rattle.builder_core.proofs.RunsDrawn.{drawn_whole}
use Rattle.builder_core.proofs.drawing.shards_in_threads.Goals as goal

pub returns : goal.returns
returns g c =
    let universe_of : List (Bor (List Identity)) → List Identity = λ l. flat_map (λ (r : Bor (List Identity)). r.now) l in
    c.in_ok-shards.ensures
    ∙ ap (λ (l : List (Vec ℕ Global)). flat_map (λ (v : Vec ℕ Global). v.items) l) c.deref-2.ensures.value
    ∙ drawn_whole c.args.shift c.deref.result.now c.in_ok-drawn.drawn.items c.in_ok-drawn.ensures.count c.in_ok-drawn.ensures.in_place
    ∙ ap (λ (l : List (Bor (List Identity))). map (λ x. shard x c.args.shift) (universe_of l)) c.deref.ensures.value
    ∙ ap (λ (l : List Identity). map (λ x. shard x c.args.shift) l) c.in_ok-runs.ensures.whole
