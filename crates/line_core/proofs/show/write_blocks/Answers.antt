use Rattle.std.proofs.Common.{arith}
use Rattle.std.proofs.lemmas.Result.{err_from_is_err_and}
use Rattle.line_core.specs.Lines.{block_lines}
use Rattle.line_core.proofs.Sending.{Sends-list, written-more}
use Rattle.line_core.proofs.show.write_blocks.Goals as goal

pub returns-in_err-write_block : goal.returns-in_err-write_block
returns-in_err-write_block g c =
    let p = err_from_is_err_and c.from_residual.result c.from_residual.ensures.1 in
    rw (p.1, p.2) (Sends-list block_lines c.args.blocks.now c.loop-block.block-index c.block-item.result _ _ _ _ _ _ _ c.loop-block-test.true c.block-item.is
    c.loop-block.invariant.written c.loop-block.invariant.later c.in_err-write_block.ensures)

pub loop-block-preserved : goal.loop-block-preserved
loop-block-preserved g c =
    let sent = c.in_ok-write_block.ensures in
    record {
      written = written-more block_lines c.args.blocks.now c.loop-block.block-index c.block-item.result _ _ _ c.loop-block-test.true c.block-item.is c.loop-block.invariant.written sent.ok;
      later = omega (arith, sent.later);
    }
