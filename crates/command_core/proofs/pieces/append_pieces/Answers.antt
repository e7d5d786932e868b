use Rattle.std.proofs.Common.{arith, rules}
use Rattle.command_core.proofs.Piecewise.{extending-more, torn-in-pieces, on-err-of}
use Rattle.command_core.proofs.pieces.append_pieces.Goals as goal

pub loop-piece-preserved : goal.loop-piece-preserved
loop-piece-preserved g c = record {
  written = extending-more c.args.pieces.now c.loop-piece.piece-index c.piece-item.result c.loop-piece-test.true c.piece-item.is _ _ _ c.args.name.now c.loop-piece.invariant.written
      (rw c.as_slice.ensures.value at c.in_ok-append_all.ensures.ok);
  later = omega arith;
  same_reads = search rules;
  same_failed = search rules;
}

pub returns-in_err-append_all-clause-err : goal.returns-in_err-append_all-clause-err
returns-in_err-append_all-clause-err g c =
    on-err-of c.from_residual.result
    (torn-in-pieces c.args.pieces.now c.loop-piece.piece-index c.piece-item.result c.loop-piece-test.true c.piece-item.is _ _ _ c.args.name.now c.loop-piece.invariant.written
    (rw c.as_slice.ensures.value at c.in_err-append_all.ensures.err))
