use Rattle.history_core.proofs.Computed.{second_counts, second_items}
use Rattle.history_core.proofs.laws.two_jobs_computed.Goals as goal

pub returns : goal.returns
returns c = record {
  counts = second_counts;
  items = second_items;
}
