use Rattle.std.proofs.Common.{◌≡◌, ◌+◌, ◌++◌, List, [], rules, subst, take, drop, true, false, All}
use Rattle.std.specs.Prelude.{IsPermutation}
use Rattle.std.proofs.lemmas.List.Sorted.{All-permutation}
use Rattle.universe_core.specs.Merges.{IsMergedBehind}
use Rattle.universe_core.specs.Merging.{IsRising}
use Rattle.universe_core.specs.Reading.{IsPlaced, entries_of, id_in}
use Rattle.universe_core.specs.Sorting.{IsSortOf}
use Rattle.universe_core.specs.declared.member.Members.{Members}
use Rattle.universe_core.specs.declared.read_entry.ReadEntry.{ReadEntry}
use Rattle.universe_core.proofs.Apart.{comes_before}
use Rattle.universe_core.proofs.Halves.{all_high, all_low, halves_ascend, mergeable, merged_in_halves, same_in_halves, split_halves}
use Rattle.universe_core.proofs.halving.merge_in_threads.Goals as goal

pub join_mut-merged-requires-after_bounds : goal.join_mut-merged-requires-after_bounds
join_mut-merged-requires-after_bounds g c κs within =
    let given = c.requires.mergeable in
    let halves = split_halves c.split_at_mut-low.ensures.front c.split_at_mut-low.ensures.back c.put_in_halves-place.ensures.halves in
    let here = IsPlaced c.args.context.now.issuers.now c.args.context.now.ranges.now in
    let placed = all_low halves here given.placed in (
      (search rules, search rules),
      (
        mergeable given (halves_ascend _ c.split_at.result.0.now c.split_at.result.1.now c.split_at.ensures.by_index.0 given.items_ascend).0 (All-permutation here _ _ c.sort_halves.ensures.same placed),
        c.sort_halves.ensures.rising _ _ given.issuers_ascend placed,
      ),
    )

pub merge-requires-clause-mergeable : goal.merge-requires-clause-mergeable
merge-requires-clause-mergeable g c =
    let here = IsPlaced c.args.context.now.issuers.now c.args.context.now.ranges.now in
    let high = c.split_at_mut-low.result.1.now in
    let given = c.requires.mergeable in
    let halves = split_halves c.split_at_mut-low.ensures.front c.split_at_mut-low.ensures.back c.put_in_halves-place.ensures.halves in
    let placed : (back : List ReadEntry) → IsSortOf high back → All here back = λ back sorted. All-permutation here high back sorted.same (all_high halves here given.placed) in
    mergeable given (halves_ascend _ c.split_at.result.0.now c.split_at.result.1.now c.split_at.ensures.by_index.0 given.items_ascend).1 (search (placed, rules))

pub merge-requires-clause-rise : goal.merge-requires-clause-rise
merge-requires-clause-rise g c =
    let issuers = c.args.context.now.issuers.now in
    let ranges = c.args.context.now.ranges.now in
    let given = c.requires.mergeable in
    let halves = split_halves c.split_at_mut-low.ensures.front c.split_at_mut-low.ensures.back c.put_in_halves-place.ensures.halves in
    let rise : (back : List ReadEntry) → IsSortOf c.split_at_mut-low.result.1.now back → IsRising (entries_of issuers ranges back) =
    λ back sorted. sorted.rising issuers ranges given.issuers_ascend (all_high halves (IsPlaced issuers ranges) given.placed) in
    search (rise, rules)

pub returns-clause-same : goal.returns-clause-same
returns-clause-same g c =
    let front = c.sort_halves.new.entries in
    let halves = split_halves c.split_at_mut-low.ensures.front c.split_at_mut-low.ensures.back c.put_in_halves-place.ensures.halves in
    let same : (back : List ReadEntry) → IsSortOf c.split_at_mut-low.result.1.now back → IsPermutation c.args.entries.now (front ++ back) =
    λ back sorted. same_in_halves halves front back c.sort_halves.ensures.same sorted.same in
    search (same, rules)

pub returns-clause-merged : goal.returns-clause-merged
returns-clause-merged g c =
    let items = c.args.items.now in
    let front = c.sort_halves.new.entries in
    let none = c.in_ok-members.members in
    let all = c.merge.new.members in
    let halves = split_halves c.split_at_mut-low.ensures.front c.split_at_mut-low.ensures.back c.put_in_halves-place.ensures.halves in
    let before : All (λ i. comes_before (id_in c.args.context.now.issuers.now c.put_in_halves-place.result.1) i.id ≡ true) c.split_at.result.0.now =
    rw c.split_at.ensures.front (subst (λ x. All (λ i. comes_before x i.id ≡ true) (take c.items_before.result items)) c.id.ensures c.items_before.ensures.front) in
    let behind : All (λ i. comes_before (id_in c.args.context.now.issuers.now c.put_in_halves-place.result.1) i.id ≡ false) c.split_at.result.1.now =
    rw c.split_at.ensures.back (subst (λ x. All (λ i. comes_before x i.id ≡ false) (drop c.items_before.result items)) c.id.ensures c.items_before.ensures.back) in
    let merged : (first : Members) (back : List ReadEntry) → IsSortOf c.split_at_mut-low.result.1.now back
    → IsMergedBehind c.args.context.now c.split_at.result.0.now front none.items.items none.settled.items first c.in_ok-first.first
    → IsMergedBehind c.args.context.now c.split_at.result.1.now back first.items.items first.settled.items all c.in_ok-rest.rest
    → IsMergedBehind c.args.context.now items (front ++ back) [] [] all (c.in_ok-first.first + c.in_ok-rest.rest) =
    λ first back sorted m r.
    merged_in_halves c.requires.mergeable halves _ _ c.split_at.ensures.by_index.0 before behind front back first all _ _ c.sort_halves.ensures.same sorted.same
    (rw c.in_ok-members.ensures.items at (rw c.in_ok-members.ensures.settled at m)) r in
    search (merged, rules)
