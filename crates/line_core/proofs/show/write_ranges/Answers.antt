use Rattle.std.proofs.Common.{arith}
use Rattle.std.proofs.lemmas.Result.{err_from_is_err_and}
use Rattle.line_core.specs.Lines.{range_line}
use Rattle.line_core.proofs.Sending.{Sends-list, written-more}
use Rattle.line_core.proofs.show.write_ranges.Goals as goal

pub returns-in_err-write_line : goal.returns-in_err-write_line
returns-in_err-write_line g c =
    let p = err_from_is_err_and c.from_residual.result c.from_residual.ensures.1 in
    let failed = rw c.range_shown.ensures at c.in_err-write_line.ensures in
    rw (p.1, p.2) (Sends-list range_line c.args.ranges.now c.loop-range.range-index c.range-item.result _ _ _ _ _ _ _ c.loop-range-test.true c.range-item.is
    c.loop-range.invariant.written c.loop-range.invariant.later failed)

pub loop-range-preserved : goal.loop-range-preserved
loop-range-preserved g c =
    let sent = rw c.range_shown.ensures at c.in_ok-write_line.ensures in
    record {
      written = written-more range_line c.args.ranges.now c.loop-range.range-index c.range-item.result _ _ _ c.loop-range-test.true c.range-item.is c.loop-range.invariant.written sent.ok;
      later = omega (arith, sent.later);
    }
