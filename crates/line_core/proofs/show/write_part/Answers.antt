use Rattle.std.proofs.lemmas.Result.{err_from_is_err_and}
use Rattle.line_core.proofs.Sending.{Sends-front, Sends-then}
use Rattle.line_core.proofs.show.write_part.Goals as goal

pub returns-in_err-write_head : goal.returns-in_err-write_head
returns-in_err-write_head g c =
    let p = err_from_is_err_and c.from_residual.result c.from_residual.ensures.1 in
    let failed = rw (c.version_of.ensures, c.blocks-blocks.ensures.value, c.head.ensures) at c.in_err-write_head.ensures in
    rw (p.1, p.2) (Sends-front _ _ _ _ _ _ _ failed)

pub returns : goal.returns
returns g c =
    let first = rw (c.version_of.ensures, c.blocks-blocks.ensures.value, c.head.ensures) at c.in_ok-write_head.ensures in
    let second = rw c.blocks-blocks.ensures.value at c.write_blocks.ensures in
    Sends-then _ _ _ _ _ _ c.write_blocks.result _ _ first.ok first.later second
