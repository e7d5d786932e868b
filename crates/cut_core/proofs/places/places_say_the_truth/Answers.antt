use Rattle.place_core.specs.Places.{place_in}
use Rattle.place_core.specs.Cuts.{at_place}
use Rattle.cut_core.proofs.Audits.{cut_audit}
use Rattle.cut_core.proofs.ByPlaces.{at_itself}
use Rattle.cut_core.proofs.Courses.{cut_verdict}
use Rattle.cut_core.proofs.Wholes.{whole_verdict, split_verdict}
use Rattle.cut_core.proofs.places.places_say_the_truth.Goals as goal

pub returns : goal.returns
returns c = record {
  published =
      λ by count c x h ss e is some asked. cut_verdict (at_place by count (place_in by count x)) c h x ss e is
      (at_itself by count x) some asked;
  whole = λ by count whole kept x ss is e some asked.
      whole_verdict (at_place by count (place_in by count x)) whole kept x ss is e (at_itself by count x) some asked;
  split = λ by count c moment jobs x h ss is e some asked.
      split_verdict (at_place by count (place_in by count x)) c moment jobs h x ss is e (at_itself by count x) some asked;
  audited =
      λ by count jobs x parts ss agree some asked. cut_audit (at_place by count (place_in by count x)) jobs parts x ss agree
      (at_itself by count x) some asked;
}
