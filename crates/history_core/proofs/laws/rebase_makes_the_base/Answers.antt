use Rattle.universe_core.specs.Rebases.{is_lasting}
use Rattle.history_core.proofs.BaseLedgers.{head_same, groups_same, ledger_same}
use Rattle.history_core.proofs.laws.rebase_makes_the_base.Goals as goal

pub returns : goal.returns
returns c = record {
  head = λ rs. head_same rs;
  groups = λ keeps rs trailer s. groups_same keeps rs trailer s;
  ledger = λ keeps rs trailer s. ledger_same keeps rs trailer s;
  at_a_moment = λ moment rs trailer s. (groups_same (is_lasting moment) rs trailer s, ledger_same (is_lasting moment) rs trailer s);
}
