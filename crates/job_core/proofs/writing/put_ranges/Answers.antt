use Rattle.ident_core.specs.RangeText.{RangeFits}
use Rattle.job_core.specs.JobText.{range_record}
use Rattle.octets_core.proofs.Loops.{appended-more, all-more}
use Rattle.job_core.proofs.writing.put_ranges.Goals as goal

pub loop-range-preserved : goal.loop-range-preserved
loop-range-preserved c = record {
  text = appended-more range_record c.args.ranges.now c.loop-range.range-index c.range-item.result c.args.out.now.items c.loop-range.out.items
      c.put_range_record.new.out.items c.loop-range-test.true c.range-item.is c.loop-range.invariant.text c.in_ok-put_range_record.ensures.text;
  fits = all-more RangeFits c.args.ranges.now c.loop-range.range-index c.range-item.result c.loop-range-test.true c.range-item.is c.loop-range.invariant.fits c.in_ok-put_range_record.ensures.fits;
}
