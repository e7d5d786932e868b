use Rattle.publication_core.proofs.LeavingOut.{left_out_verdict, comes_back}
use Rattle.publication_core.proofs.base_laws.issuers_that_are_left_out_come_back.Goals as goal

pub returns : goal.returns
returns c = record {
  unenrolled = λ h x ss is left. left_out_verdict h x ss is left;
  come_back = λ h j s e is left a v k. comes_back h j s e left a v k;
}
