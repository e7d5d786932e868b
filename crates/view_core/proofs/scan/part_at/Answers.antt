use Rattle.std.proofs.Common.{sym, ◌∙◌, arith}
use Rattle.std.proofs.lemmas.List.{take_rest, length-drop}
use Rattle.view_core.proofs.Scans.{part-noted, fault-within}
use Rattle.view_core.proofs.scan.part_at.Goals as goal

pub overflow_add-result : goal.overflow_add-result
overflow_add-result c =
    let e = fault-within _ c.in-Err.fault (sym c.in-Err.is ∙ c.noted_in.ensures) in
    omega (arith, e)

pub returns-in-Ok-clause-part : goal.returns-in-Ok-clause-part
returns-in-Ok-clause-part c =
    let p = part-noted c.args.bytes.now _ c.args.at (take_rest c.args.bytes.now c.args.at) (λ i. omega (arith, c.type_inv.bytes i)) c.in-Ok.note (sym c.in-Ok.is ∙ c.noted_in.ensures) in
    (p.0, p.1.read, record { note = p.2; fits = p.1.fits; text = p.1.text })

pub returns-in-Ok-clause-within : goal.returns-in-Ok-clause-within
returns-in-Ok-clause-within c =
    let p = part-noted c.args.bytes.now _ c.args.at (take_rest c.args.bytes.now c.args.at) (λ i. omega (arith, c.type_inv.bytes i)) c.in-Ok.note (sym c.in-Ok.is ∙ c.noted_in.ensures) in
    omega (arith, p.1.within, c.requires, length-drop c.args.at c.args.bytes.now)
