use Rattle.std.proofs.Common.{◌<◌, ◌^◌, Some, sym, ap, ◌∙◌, is_some, arith}
use Rattle.view_core.proofs.Shards.{narrowed, is_narrowed, first_small, searched_place, shard_within, shard_is, is_searched}
use Rattle.view_core.proofs.block.shard_place.Goals as goal

pub returns-in_err-first-clause-value : goal.returns-in_err-first-clause-value
returns-in_err-first-clause-value c before own behind up are begins few =
    let small = first_small c.args.places.now before own behind c.args.first c.args.shard up are begins few (2 ^ 32) (λ i. omega (arith, c.type_inv.places i)) in
    absurd (is_narrowed c.try_from.result (c.args.first < 2 ^ 32) c.args.first small (ap is_some (sym c.in_err-first.ensures.value)) c.try_from.ensures)

pub returns-in_err-place-clause-value : goal.returns-in_err-place-clause-value
returns-in_err-place-clause-value c before own behind up are begins few =
    let first = narrowed c.try_from.result (c.args.first < 2 ^ 32) c.args.first c.in_ok-first.first c.in_ok-first.ensures.value c.try_from.ensures in
    absurd (is_searched c.args.places.now before own behind c.in_ok-first.first c.args.shard up are (begins ∙ first) few
    c.binary_search.result c.binary_search.ensures.position (ap is_some (sym c.in_err-place.ensures.value)))

pub returns-in_err-found-clause-value : goal.returns-in_err-found-clause-value
returns-in_err-found-clause-value c before own behind up are begins few =
    let first = narrowed c.try_from.result (c.args.first < 2 ^ 32) c.args.first c.in_ok-first.first c.in_ok-first.ensures.value c.try_from.ensures in
    let place = searched_place c.args.places.now before own behind c.in_ok-first.first c.args.shard up are (begins ∙ first) few
    c.in_ok-place.place c.binary_search.result c.in_ok-place.ensures.value c.binary_search.ensures.bound c.binary_search.ensures.ok in
    let within = shard_within c.args.places.now before own behind c.in_ok-first.first c.args.shard up are (begins ∙ first) few c.in_ok-place.place place in
    absurd (omega (arith, within, c.in_err-found.ensures.lookup.3))

pub returns-clause-value : goal.returns-clause-value
returns-clause-value c before own behind up are begins few =
    let first = narrowed c.try_from.result (c.args.first < 2 ^ 32) c.args.first c.in_ok-first.first c.in_ok-first.ensures.value c.try_from.ensures in
    let place = searched_place c.args.places.now before own behind c.in_ok-first.first c.args.shard up are (begins ∙ first) few
    c.in_ok-place.place c.binary_search.result c.in_ok-place.ensures.value c.binary_search.ensures.bound c.binary_search.ensures.ok in
    ap Some (c.in_ok-found.ensures.lookup.3.1 0
    ∙ shard_is c.args.places.now before own behind c.in_ok-first.first c.args.shard up are (begins ∙ first) few c.in_ok-place.place place)
