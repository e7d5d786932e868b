use Rattle.history_core.proofs.Beginnings.{ledger_of_none}
use Rattle.publication_core.proofs.Publications.{published_admissible, published_history, published_ledger, published_counts, published_place, admissible_published}
use Rattle.std.proofs.Common.{◌∷◌}
use Rattle.publication_core.proofs.Fronts.{history_front}
use Rattle.publication_core.proofs.laws.histories_are_published.Goals as goal

pub returns : goal.returns
returns c = record {
  none = ledger_of_none;
  admissible = λ h job p is fits limits x. published_admissible h job is p fits limits x;
  history = λ h job p is fits limits x. published_history h job is p fits limits x;
  ledger = λ h job p is x. published_ledger h job is p x;
  numbers = λ h job p is x. published_counts h job is p x;
  place = λ h job p is x. published_place h job is p x;
  front = λ h p others is. (history_front h (p ∷ others) is).1.0;
  complete = λ h job is a. admissible_published h job is a;
}
