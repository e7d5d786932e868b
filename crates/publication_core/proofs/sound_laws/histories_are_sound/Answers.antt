use Rattle.history_core.proofs.Sound.{nothing_sound}
use Rattle.history_core.proofs.Words.{last_for_listed}
use Rattle.publication_core.specs.Histories.{releases_of}
use Rattle.publication_core.proofs.Histories.{job_sound, base_at_sound, history_sound}
use Rattle.publication_core.proofs.Facts.{last_part, listed_in_jobs, listed_behind_base}
use Rattle.publication_core.proofs.sound_laws.histories_are_sound.Goals as goal

pub returns : goal.returns
returns c = record {
  begun = nothing_sound;
  based = λ moment rs s sound. base_at_sound moment rs s sound;
  kept = λ rs p sound a. job_sound rs p sound a;
  sound = λ h is. history_sound h is;
  last_covers = λ h x k is e. last_part h x k is e;
  last_listed = λ h x is. last_for_listed (releases_of h) x (history_sound h is);
  covered = λ h e is a. (history_sound h is).covered e a;
  timely = λ h e r is a i c k. (history_sound h is).timely e a r i c k;
  entered = λ h x is a. (history_sound h is).entered x a;
  listed = λ ps x is. listed_in_jobs ps x;
  listed_behind = λ h moment cut s ps x is. listed_behind_base h moment cut s ps x is;
}
