use Rattle.std.proofs.Common.{◌≡◌, ◌≢◌, ◌+◌, ◌*◌, ◌<◌, inl, inr, length, sym, ap, ◌∙◌, arith, below_more}
use Rattle.std.specs.Prelude.{map}
use Rattle.std.proofs.lemmas.List.{get_or-map, get_or-set_other, get_or-set_same}
use Rattle.ribbon_core.specs.PlaneWords.{place, word_of}
use Rattle.ribbon_core.proofs.PlacesApart.{place_inside, places_apart}
use Rattle.ribbon_core.proofs.Words.{plane_room}
use Rattle.ribbon_core.proofs.places.place_plane.Goals as goal

pub place-requires : goal.place-requires
place-requires g c =
    let inside = place_inside c.args.planes c.args.width c.args.plane c.loop-i.i c.requires.plane c.loop-i-test.true in
    omega (arith, inside, c.requires.room)

pub loop-i-preserved : goal.loop-i-preserved
loop-i-preserved g c =
    let inside = place_inside c.args.planes c.args.width c.args.plane c.loop-i.i c.requires.plane c.loop-i-test.true in
    let at : place c.args.planes c.args.plane c.loop-i.i < length c.loop-i.words = omega (arith, inside, c.requires.room, c.loop-i.auto.words) in
    let room = plane_room c.args.plane c.args.planes c.args.width (length c.args.text.now) c.requires.plane c.requires.text in
    let word : c.word-word.result ≡ word_of (map g.W.Word.spells c.args.text.now) c.args.width c.args.plane c.loop-i.i =
    c.word-word.ensures
    ∙ ap g.W.Word.spells c.index-text-plane.is
    ∙ sym (get_or-map g.W.Word.spells c.args.text.now (c.args.plane * c.args.width + c.loop-i.i) c.index-text-plane.result 0 (omega (arith, room, c.loop-i-test.true))) in
    record {
      placed = below_more _ _
          (λ k lt.
          let different : k ≢ c.loop-i.i = omega arith in
          let ne = places_apart c.args.planes c.args.plane k c.args.plane c.loop-i.i c.requires.plane c.requires.plane (inr different) in
          rw (c.place.ensures, get_or-set_other) (c.loop-i.invariant.placed k lt))
          (rw (c.place.ensures, get_or-set_same) word);
      others = λ q k few different.
          let ne = places_apart c.args.planes q k c.args.plane c.loop-i.i few c.requires.plane (inl different) in
          rw (c.place.ensures, get_or-set_other) (c.loop-i.invariant.others q k few different);
    }
