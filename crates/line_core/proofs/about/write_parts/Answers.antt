use Rattle.std.proofs.lemmas.Result.{err_from_is_err_and}
use Rattle.line_core.proofs.Sending.{Sends-front, Sends-then}
use Rattle.line_core.proofs.about.write_parts.Goals as goal

pub returns-in_err-write_named : goal.returns-in_err-write_named
returns-in_err-write_named g c =
    let p = err_from_is_err_and c.from_residual.result c.from_residual.ensures.1 in
    rw (p.1, p.2) (Sends-front _ _ _ _ _ _ _ c.in_err-write_named.ensures)

pub returns : goal.returns
returns g c =
    let first = c.in_ok-write_named.ensures in
    Sends-then _ _ _ _ _ _ c.write_text.result _ _ first.ok first.later c.write_text.ensures
