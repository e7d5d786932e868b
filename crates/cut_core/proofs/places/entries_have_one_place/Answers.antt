use Rattle.std.proofs.Common.{refl}
use Rattle.piece_core.proofs.Places.{kept_at}
use Rattle.cut_core.proofs.ByPlaces.{entry_below, parted, same_crls, place_again}
use Rattle.cut_core.proofs.places.entries_have_one_place.Goals as goal

pub returns : goal.returns
returns c = record {
  below = entry_below;
  parted = λ by count p job. parted by count p job.entries;
  crls = same_crls;
  issuer_crls = λ count p job. refl;
  kept = kept_at;
  finer = place_again;
}
