use Rattle.std.proofs.lemmas.Result.{err_from_is_err_and}
use Rattle.line_core.proofs.Sending.{Sends-front, Sends-then}
use Rattle.line_core.proofs.show.write_block.Goals as goal

pub returns-in_err-write_line : goal.returns-in_err-write_line
returns-in_err-write_line g c =
    let p = err_from_is_err_and c.from_residual.result c.from_residual.ensures.1 in
    let failed = rw c.block_shown.ensures at c.in_err-write_line.ensures in
    rw (p.1, p.2) (Sends-front _ _ _ _ _ _ _ failed)

pub returns : goal.returns
returns g c =
    let first = rw c.block_shown.ensures at c.in_ok-write_line.ensures in
    Sends-then _ _ _ _ _ _ c.write_body.result _ _ first.ok first.later c.write_body.ensures
