use Rattle.publication_core.proofs.Bases.{base_made}
use Rattle.publication_core.proofs.BaseOutcomes.{base_outcome_unique, some_outcome}
use Rattle.publication_core.proofs.base_laws.one_thing_comes_of_a_rebase.Goals as goal

pub returns : goal.returns
returns c = record {
  outcome = λ ledger moment cut a b x y. base_outcome_unique ledger moment cut a b x y;
  some = λ ledger moment cut. some_outcome ledger moment cut;
  complete = λ ledger moment cut few have. base_made ledger moment cut few have;
}
