use Rattle.universe_core.specs.Jobs.{facts_of}
use Rattle.history_core.proofs.Following.{admitted_follows}
use Rattle.history_core.proofs.Sound.{nothing_sound, keeps_sound}
use Rattle.history_core.proofs.Histories.{releases_sound}
use Rattle.history_core.proofs.laws.facts_hold.Goals as goal

pub returns : goal.returns
returns c = record {
  nothing = nothing_sound;
  next = λ limits rs job trailer s h. keeps_sound rs (facts_of job) trailer s (admitted_follows limits rs job h);
  kept = λ rs job trailer s f. keeps_sound rs job trailer s f;
  history = λ trailer rs jobs s f. releases_sound trailer rs jobs s f;
  admitted = λ limits rs job h. admitted_follows limits rs job h;
}
