use Rattle.history_core.proofs.Ledger.{past_in_ledger, next_is, groups_are, counts_are}
use Rattle.history_core.proofs.laws.ledger_step_is_the_historys.Goals as goal

pub returns : goal.returns
returns c = record {
  told = λ rs s. past_in_ledger rs s;
  next = λ rs s job trailer. next_is rs s job trailer;
  groups = λ rs s job trailer. groups_are rs s job trailer;
  counts = λ rs s job. counts_are rs s job;
}
