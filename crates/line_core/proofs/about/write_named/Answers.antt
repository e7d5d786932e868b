use Rattle.std.proofs.lemmas.Result.{err_from_is_err_and}
use Rattle.line_core.proofs.Sending.{Sends-front, Sends-then}
use Rattle.line_core.proofs.about.write_named.Goals as goal

pub returns-in_err-write_text : goal.returns-in_err-write_text
returns-in_err-write_text g c =
    let p = err_from_is_err_and c.from_residual.result c.from_residual.ensures.1 in
    let failed = rw c.text.ensures at c.in_err-write_text.ensures in
    rw (p.1, p.2) (Sends-front _ _ _ _ _ _ _ failed)

pub returns : goal.returns
returns g c =
    let first = rw c.text.ensures at c.in_ok-write_text.ensures in
    let second = rw c.as_bytes.ensures.value at c.write_text-2.ensures in
    Sends-then _ _ _ _ _ _ c.write_text-2.result _ _ first.ok first.later second
