use Rattle.universe_core.proofs.Enrolled.{enrolled_test}
use Rattle.universe_core.proofs.laws.enrolment_is_a_test.Goals as goal

pub returns : goal.returns
returns c = λ job issuer. enrolled_test job issuer
