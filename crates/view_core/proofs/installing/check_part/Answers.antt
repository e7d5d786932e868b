use Rattle.std.proofs.Common.{arith}
use Rattle.std.proofs.lemmas.Result.{err_from_is_err_and}
use Rattle.view_core.proofs.Installs.{part_faulty, part_longer, part_whole, part_within}
use Rattle.view_core.proofs.installing.check_part.Goals as goal

pub returns-in_err-note-clause-value : goal.returns-in_err-note-clause-value
returns-in_err-note-clause-value c =
    let p = err_from_is_err_and c.from_residual.result c.from_residual.ensures.1 in
    rw (p.1, p.2) (part_faulty c.args.part.now c.in_err-note.field-0.0 c.in_err-note.ensures)

pub returns-then-note-part-clause-value : goal.returns-then-note-part-clause-value
returns-then-note-part-clause-value c = part_longer c.args.part.now c.in_ok-note.note c.in_ok-note.ensures c.if-note-part.true

pub returns-clause-value : goal.returns-clause-value
returns-clause-value c = part_whole c.args.part.now c.in_ok-note.note c.in_ok-note.ensures c.if-note-part.false

pub returns-clause-whole : goal.returns-clause-whole
returns-clause-whole c = omega (arith, c.if-note-part.false, part_within c.args.part.now (λ i. omega (arith, c.type_inv.part i)) c.in_ok-note.note c.in_ok-note.ensures)
