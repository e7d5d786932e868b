use Rattle.part_text.specs.PartText.{spelling}
use Rattle.part_text.specs.Fitting.{Fits}
use Rattle.octets_core.proofs.Loops.{appended-more, all-more}
use Rattle.store_core.proofs.encode.put_parts.Goals as goal

pub loop-part-preserved : goal.loop-part-preserved
loop-part-preserved c = record {
  text = appended-more spelling c.args.parts.now c.loop-part.part-index c.part-item.result c.args.out.now.items c.loop-part.out.items c.put_part.new.out.items
      c.loop-part-test.true c.part-item.is c.loop-part.invariant.text c.in_ok-put_part.ensures.text;
  fits = all-more Fits c.args.parts.now c.loop-part.part-index c.part-item.result c.loop-part-test.true c.part-item.is c.loop-part.invariant.fits c.in_ok-put_part.ensures.fits;
}
