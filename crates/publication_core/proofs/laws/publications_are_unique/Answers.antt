use Rattle.publication_core.proofs.Unique.{part_unique, history_unique, outcome_unique}
use Rattle.publication_core.proofs.laws.publications_are_unique.Goals as goal

pub returns : goal.returns
returns c = record {
  part = λ rs j a b x y. part_unique rs j a b x y;
  history = λ g h x y same. history_unique g h x y same;
  outcome = λ ledger job a b x y. outcome_unique ledger job a b x y;
}
