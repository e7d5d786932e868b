use Rattle.history_core.proofs.Words.{last_covers_sightings, last_for_listed}
use Rattle.history_core.proofs.laws.last_part_covers.Goals as goal

pub returns : goal.returns
returns c = record {
  covers = λ rs x k s e. last_covers_sightings rs x k s e;
  listed = λ rs x s. last_for_listed rs x s;
}
