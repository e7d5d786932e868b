use Rattle.cut_core.proofs.Releases.{known_beside, birth_beside, sightings_beside, until_beside, last_beside, listed_beside, truth_beside}
use Rattle.cut_core.proofs.Releases.{accepted_at, revoked_at, class_beside, other_beside, enrolled_kept, enrolled_other}
use Rattle.cut_core.proofs.laws.cuts_know_what_is_kept.Goals as goal

pub returns : goal.returns
returns c = record {
  accepted = λ cut rs qs x z k. known_beside cut x k rs qs z;
  birth = λ cut rs qs x z k. birth_beside cut x k rs qs z;
  sightings = λ cut rs qs x z k. sightings_beside cut x k rs qs z;
  date = λ cut rs qs x z k. until_beside cut x k rs qs z;
  last = λ cut rs qs x z k. last_beside cut x k rs qs z;
  listed = λ cut rs qs x z k. listed_beside cut x k rs qs z;
  truth = λ cut rs qs x z k. truth_beside cut x k rs qs z;
  each = λ cut r q x i k. (accepted_at cut x k r q i, i.lists x k, revoked_at cut x k r q i);
  class = λ cut rs qs job e z k. class_beside cut rs qs job e z k;
  enrolled = λ cut r q issuer i t. enrolled_kept cut r q issuer i t;
  unenrolled = λ cut r q issuer i t. enrolled_other cut r q issuer i t;
  other = λ cut rs qs x z k. other_beside cut rs qs x z k;
}
