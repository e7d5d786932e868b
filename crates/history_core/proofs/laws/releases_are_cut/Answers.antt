use Rattle.history_core.proofs.Cuts.{cut_sound, ledger_cut-of, head_cut, accepted_cut, sightings_cut, until_cut, listed_cut, kept_cut, cut_by_everything}
use Rattle.history_core.proofs.laws.releases_are_cut.Goals as goal

pub returns : goal.returns
returns c = record {
  sound = λ cut rs s. cut_sound cut rs s;
  ledger = λ cut rs. ledger_cut-of cut rs;
  head = λ cut rs. head_cut cut rs;
  accepted = λ cut rs. accepted_cut cut rs;
  sightings = λ cut rs x k. sightings_cut cut rs x k;
  date = λ cut rs x k. until_cut cut rs x k;
  listing = λ cut rs x k. listed_cut cut rs x k;
  kept = λ moment cut rs x k. kept_cut moment cut rs x k;
  all = λ rs. cut_by_everything rs;
}
