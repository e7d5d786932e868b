use Rattle.std.proofs.Common.{arith}
use Rattle.std.proofs.lemmas.Result.{err_from_is_err_and}
use Rattle.line_core.proofs.Sending.{shards-fail, shards-written}
use Rattle.line_core.proofs.show.write_shards.Goals as goal

pub returns-in_err-write_line : goal.returns-in_err-write_line
returns-in_err-write_line g c =
    let p = err_from_is_err_and c.from_residual.result c.from_residual.ensures.1 in
    let failed = rw c.shard_shown.ensures at c.in_err-write_line.ensures in
    rw (p.1, p.2) (shards-fail c.loop-place.place c.args.leaves.now c.index-leaves-place.result _ _ _ _ _ _ _ c.loop-place-test.true c.index-leaves-place.is
    c.loop-place.invariant.written c.loop-place.invariant.later failed)

pub loop-place-preserved : goal.loop-place-preserved
loop-place-preserved g c =
    let sent = rw c.shard_shown.ensures at c.in_ok-write_line.ensures in
    record {
      written = shards-written c.loop-place.place c.args.leaves.now c.index-leaves-place.result _ _ _ c.loop-place-test.true c.index-leaves-place.is c.loop-place.invariant.written sent.ok;
      later = omega (arith, sent.later);
    }
