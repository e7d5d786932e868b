use Rattle.std.proofs.Common.{◌+◌, ◌≤◌, List, ℕ, length, refl, sym, subst, arith}
use Rattle.std.proofs.lemmas.List.{length-take}
use Rattle.view_core.specs.Index.{buckets_of}
use Rattle.view_core.specs.Standing.{AreBlocksAt}
use Rattle.view_core.proofs.BucketFills.{places_put, table_put}
use Rattle.view_core.proofs.BucketLaws.{length-buckets}
use Rattle.view_core.proofs.PlaceSearch.{as_many}
use Rattle.view_core.proofs.buckets.put_buckets.Goals as goal

pub returns-then-index-to : goal.returns-then-index-to
returns-then-index-to c = λ at blocks many are. record {
  same = refl;
  are = λ room. absurd (omega (arith, length-buckets blocks, many, c.if-index-to.true, room));
}

pub returns : goal.returns
returns c = λ at blocks many are.
    let to : ℕ = c.args.to in
    let count : ℕ = c.args.count in
    let front : List ℕ = c.split_at_mut-front.result.0.now in
    let rest : List ℕ = c.split_at_mut-front.result.1.now in
    let split = c.split_at_mut-front.ensures in
    let enough : to + count ≤ length c.args.index.now = omega (arith, c.if-index-to.false) in
    let room : count ≤ length rest = omega (arith, c.if-index-to.false, split.back_len) in
    let same = places_put c.args.index.now front to count split.front in
    let placed = subst (λ (l : List ℕ). AreBlocksAt c.args.bytes.now at l blocks) (sym same) (are enough) in
    let wide = length-take count rest in
    let filled = c.fill_table.ensures.value at blocks placed
    (omega (arith, wide, room, many, as_many c.args.bytes.now at _ blocks placed)) in
    table_put c.args.index.now front rest c.fill_table.new.table (buckets_of blocks) (to + count) count split.front split.front_len split.back_len
    room (omega (arith, c.fill_table.ensures.len, wide, room)) filled
