use Rattle.std.proofs.Common.{◌≢◌, ◌<◌, ◌∙◌, arith, below_more}
use Rattle.ribbon_core.proofs.BackSubstitution.{number_same}
use Rattle.ribbon_core.proofs.places.place_planes.Goals as goal

pub loop-plane-preserved : goal.loop-plane-preserved
loop-plane-preserved g c = record {
  placed = λ plane i lt below. below_more (λ q. (below : i < c.args.width) → _) _
      (λ q lt below. let different : q ≢ c.loop-plane.plane = omega arith in
      c.place_plane.ensures.others q i (omega arith) different ∙ c.loop-plane.invariant.placed q i lt below)
      (λ below. c.place_plane.ensures.placed i below) plane lt below;
}

pub returns : goal.returns
returns g c plane lt = number_same _ _ 0 c.args.width (λ i _ below. c.loop-plane.invariant.placed plane i (omega arith) (omega arith))
