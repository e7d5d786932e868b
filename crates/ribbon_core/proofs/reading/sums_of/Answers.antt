use Rattle.std.proofs.Common.{◌<◌, ◌∙◌, arith, get_or, bit_and}
use Rattle.ribbon_core.specs.Equations.{parity}
use Rattle.ribbon_core.proofs.Parity.{parity-lt}
use Rattle.ribbon_core.proofs.Sums.{low_parity, sums_more, sums_few}
use Rattle.ribbon_core.proofs.reading.sums_of.Goals as goal

pub loop-plane-preserved : goal.loop-plane-preserved
loop-plane-preserved g c =
    let lane = get_or c.chosen_lanes.result c.loop-plane.plane 0 in
    let e = low_parity lane in
    let l = parity-lt lane in
    let two : bit_and (lib.Count.ones lane) 1 < 2 = rw e l in
    record {
      sums = sums_more (λ q. parity (get_or c.chosen_lanes.result q 0)) c.loop-plane.sums _ c.loop-plane.plane (omega arith) two c.loop-plane.invariant.few_planes c.loop-plane.invariant.sums e;
      few_planes = sums_few c.loop-plane.sums _ c.loop-plane.plane (omega arith) two c.loop-plane.invariant.few_planes;
    }

pub returns-clause-sums : goal.returns-clause-sums
returns-clause-sums g c width plane in_width lt = c.loop-plane.invariant.sums plane (omega arith) ∙ c.chosen_lanes.ensures.sums width plane in_width lt (omega arith)
