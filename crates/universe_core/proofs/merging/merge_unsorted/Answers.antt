use Rattle.std.proofs.lemmas.List.Sorted.{All-permutation}
use Rattle.universe_core.specs.Reading.{IsPlaced}
use Rattle.universe_core.proofs.Halves.{mergeable}
use Rattle.universe_core.proofs.merging.merge_unsorted.Goals as goal

pub merge-requires-clause-mergeable : goal.merge-requires-clause-mergeable
merge-requires-clause-mergeable c =
    let given = c.requires.mergeable in
    mergeable given given.items_ascend
    (All-permutation (IsPlaced c.args.context.now.issuers.now c.args.context.now.ranges.now) _ _ c.sort_entries.ensures.same given.placed)

pub returns-clause-merged : goal.returns-clause-merged
returns-clause-merged c = rw c.in_ok-members.ensures.items at (rw c.in_ok-members.ensures.settled at c.in_ok-late.ensures)
