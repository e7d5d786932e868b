use Rattle.store_core.proofs.Causes.{not_delta-exact, wrong_parent-exact, old_epoch-exact, coverage-exact, full-exact, none-exact}
use Rattle.store_core.proofs.laws.refusals_are_exact.Goals as goal

pub returns : goal.returns
returns c = record {
  not_delta = not_delta-exact;
  wrong_parent = wrong_parent-exact;
  old_epoch = old_epoch-exact;
  coverage_shrinks = coverage-exact;
  full = full-exact;
  none = none-exact;
}
