use Rattle.ident_core.specs.RangeText.{range_text, RangeFits}
use Rattle.octets_core.proofs.Loops.{all-more}
use Rattle.part_text.proofs.Loops.{wrote-more}
use Rattle.part_text.proofs.text.put_ranges.Goals as goal

pub loop-range-preserved : goal.loop-range-preserved
loop-range-preserved g c = record {
  text = wrote-more g.O.Output.given range_text c.args.ranges.now c.loop-range.range-index c.range-item.result c.args.out.now c.loop-range.out
      c.put_range.new.out c.loop-range-test.true c.range-item.is c.loop-range.invariant.text c.in_ok-put_range.ensures.text;
  fits = all-more RangeFits c.args.ranges.now c.loop-range.range-index c.range-item.result c.loop-range-test.true c.range-item.is c.loop-range.invariant.fits
      c.in_ok-put_range.ensures.fits;
}
