use Rattle.cut_core.proofs.ByPlaces.{add_up}
use Rattle.cut_core.proofs.places.places_add_up.Goals as goal

pub returns : goal.returns
returns c = add_up
