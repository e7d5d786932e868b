use Rattle.publication_core.proofs.Ledgers.{history_ledger_fits, history_ledger_read, history_ledger_value, history_undated, history_old_read, history_old_value}
use Rattle.publication_core.proofs.ledger_laws.ledgers_are_read_back.Goals as goal

pub returns : goal.returns
returns c = record {
  fits = λ h is some. history_ledger_fits h is some;
  read = λ h is some. history_ledger_read h is some;
  value = λ h is some. history_ledger_value h is some;
  undated = λ h is some none. history_undated h is some none;
  old_read = λ h is some none. history_old_read h is some none;
  old_value = λ h is some none. history_old_value h is some none;
}
