use Rattle.publication_core.proofs.Bases.{base_rebasable, base_history, base_ledger, base_numbers, rebasable_published}
use Rattle.publication_core.proofs.base_laws.bases_are_published.Goals as goal

pub returns : goal.returns
returns c = record {
  rebasable = λ h moment cut p is some x. base_rebasable h moment cut is p some x;
  history = λ h moment cut p is some x. base_history h moment cut is p some x;
  ledger = λ h moment cut p is x. base_ledger h moment cut is p x;
  numbers = λ h moment cut p is x. base_numbers h moment cut is p x;
  complete = λ h moment cut is can. rebasable_published h moment cut is can;
}
