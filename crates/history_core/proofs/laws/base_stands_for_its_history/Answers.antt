use Rattle.history_core.proofs.Bases.{base_sound}
use Rattle.history_core.proofs.BaseAnswers.{said_same}
use Rattle.history_core.proofs.Kept.{sightings_kept, until_kept, listed_kept}
use Rattle.history_core.proofs.laws.base_stands_for_its_history.Goals as goal

pub returns : goal.returns
returns c = record {
  sound = λ keeps rs trailer s. base_sound keeps rs trailer s;
  kept_sightings = λ keeps rs trailer x k. sightings_kept keeps rs trailer x k;
  kept_date = λ keeps rs trailer x k. until_kept keeps rs trailer x k;
  kept_listing = λ keeps rs trailer x k. listed_kept keeps rs trailer x k;
  verdicts = λ keeps parts part rs trailer x s ss sound shows base k asked. said_same keeps parts part rs trailer x s ss sound shows base k asked;
}
