use Rattle.std.proofs.Common.{◌≢◌, ◌<◌, inl, inr, length, arith, below_more}
use Rattle.std.proofs.lemmas.List.{get_or-set_other, get_or-set_same}
use Rattle.std.proofs.lemmas.Nat.{and_mask}
use Rattle.ribbon_core.specs.PlaneWords.{place}
use Rattle.ribbon_core.proofs.PlacesApart.{place_inside, places_apart}
use Rattle.ribbon_core.proofs.substitution.write_words.Goals as goal

pub place-requires : goal.place-requires
place-requires c =
    let inside = place_inside c.args.planes c.args.width c.loop-plane.plane c.args.i c.loop-plane-test.true c.requires.word in
    omega (arith, inside, c.requires.room)

pub loop-plane-preserved : goal.loop-plane-preserved
loop-plane-preserved c =
    let inside = place_inside c.args.planes c.args.width c.loop-plane.plane c.args.i c.loop-plane-test.true c.requires.word in
    let at : place c.args.planes c.loop-plane.plane c.args.i < length c.loop-plane.words = omega (arith, inside, c.requires.room, c.loop-plane.auto.words) in
    record {
      written = below_more _ _
          (λ plane lt.
          let different : plane ≢ c.loop-plane.plane = omega arith in
          let ne = places_apart c.args.planes plane c.args.i c.loop-plane.plane c.args.i (omega arith) c.loop-plane-test.true (inl different) in
          rw (c.place.ensures, get_or-set_other) (c.loop-plane.invariant.written plane lt))
          (rw (c.place.ensures, get_or-set_same) (and_mask _ 64));
      others = λ plane k few different.
          let ne = places_apart c.args.planes plane k c.loop-plane.plane c.args.i few c.loop-plane-test.true (inr different) in
          rw (c.place.ensures, get_or-set_other) (c.loop-plane.invariant.others plane k few different);
    }
