use Rattle.std.proofs.Common.{◌++◌, List, rules}
use Rattle.universe_core.specs.Sorting.{IsSortOf}
use Rattle.universe_core.specs.declared.read_entry.ReadEntry.{ReadEntry}
use Rattle.universe_core.proofs.Halves.{sorted_in_halves, split_halves}
use Rattle.universe_core.proofs.halving.+sort_halves.Goals as goal

pub returns : goal.returns
returns g t c =
    let halves = split_halves c.split_at_mut-low.ensures.front c.split_at_mut-low.ensures.back c.put_in_halves-place.ensures.halves in
    let sorted : (front back : List ReadEntry) → IsSortOf c.split_at_mut-low.result.0.now front → IsSortOf c.split_at_mut-low.result.1.now back
    → IsSortOf c.args.entries.now (front ++ back) = sorted_in_halves halves in
    search (sorted, rules)
