use Rattle.std.proofs.Common.{drop, length, ap, arith, length-take, length-drop}
use Rattle.std.proofs.lemmas.Result.{err_from_is_err_and}
use Rattle.outside_core.proofs.Files.{rest_from}
use Rattle.outside_core.proofs.Written.{followed_by-next, CutShort-next}
use Rattle.outside_core.proofs.sink.write_all.Goals as goal

pub returns-in_err-done-clause-err : goal.returns-in_err-done-clause-err
returns-in_err-done-clause-err g c =
    let p = err_from_is_err_and c.from_residual.result c.from_residual.ensures.1 in
    let offered = rw (rest_from c.args.bytes.now c.loop-done.done) at c.next_piece.ensures in
    rw p.1 (CutShort-next (g.K.Sink.written c.args.sink.now) _ _ c.args.bytes.now _ c.loop-done.done 4096 offered (omega arith) c.loop-done.invariant.written c.in_err-done.ensures.err)

pub loop-done-preserved : goal.loop-done-preserved
loop-done-preserved g c =
    let offered = rw (rest_from c.args.bytes.now c.loop-done.done) at c.next_piece.ensures in
    record {
      within = omega (arith, length-take 4096 (drop c.loop-done.done c.args.bytes.now), length-drop c.loop-done.done c.args.bytes.now, ap length offered, c.in_ok-done.ensures.ok.within);
      written = followed_by-next (g.K.Sink.written c.args.sink.now) _ _ c.args.bytes.now _ c.loop-done.done 4096 c.in_ok-done.field-0 offered
          c.in_ok-done.ensures.ok.within c.loop-done.invariant.written c.in_ok-done.ensures.ok.bytes;
      later = omega arith;
    }
