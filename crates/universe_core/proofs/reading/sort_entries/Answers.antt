use Rattle.std.specs.Ordering.{is_lt}
use Rattle.std.proofs.Common.{◌≡◌, ap, rules, of_calls}
use Rattle.std.proofs.lemmas.List.Sorted.{answers_always}
use Rattle.universe_core.specs.declared.read_entry.ReadEntry.{ReadEntry}
use Rattle.universe_core.specs.Placing.{placed_cmp}
use Rattle.universe_core.proofs.Placing.{placed_ranks}
use Rattle.universe_core.proofs.Sorting.{rising_sorted}
use Rattle.universe_core.proofs.reading.sort_entries.Goals as goal

pub returns : goal.returns
returns c = record {
  same = c.sort_unstable_by.ensures.permutation;
  rising = λ issuers ranges ascend placed.
      rising_sorted issuers ranges c.args.entries.now c.sort_unstable_by.new.self ascend placed c.sort_unstable_by.ensures.permutation
      (c.sort_unstable_by.ensures.sorted (λ (a b : ReadEntry). is_lt (placed_cmp a b)) placed_ranks
      (answers_always _ (λ a r. is_lt r ≡ is_lt (placed_cmp a.0.now a.1.0.now)) _ (λ f a r q k. let p : r ≡ placed_cmp a.0.now a.1.0.now = search (rules, of_calls) in ap is_lt p)));
}
