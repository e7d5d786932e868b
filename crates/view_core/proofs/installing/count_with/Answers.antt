use Rattle.std.proofs.Common.{arith}
use Rattle.view_core.proofs.Installs.{too_long, with_no_store, with_no_part, tested, with_refusal, with_none, with_room}
use Rattle.view_core.proofs.installing.count_with.Goals as goal

pub returns-then-store : goal.returns-then-store
returns-then-store c = too_long c.args.store.now c.args.part.now c.if-store.true

pub returns-in-Err : goal.returns-in-Err
returns-in-Err c = with_no_store c.args.store.now c.args.part.now c.in-Err.fault c.if-store.false c.in-Err.ensures.store

pub returns-in-Err-check_part : goal.returns-in-Err-check_part
returns-in-Err-check_part c =
    let of_store = c.in-Ok.ensures.store in
    with_no_part c.args.store.now c.args.part.now of_store.0 c.in-Err-check_part.fault c.if-store.false of_store.1 c.in-Err-check_part.ensures.value

pub overflow_add-result : goal.overflow_add-result
overflow_add-result c =
    let t = tested c.args.store.now c.args.part.now (λ i. omega (arith, c.type_inv.part i)) c.in-Ok.found.0 c.in-Ok.found.1 c.in-Ok-check_part.note c.refusal_by.result c.if-store.false
    c.in-Ok.ensures.store c.in-Ok-check_part.ensures.value c.refusal_by.ensures in
    omega (arith, with_room c.args.store.now c.args.part.now c.refusal_by.result c.in-Ok.found.0 t c.in-None.is)

pub returns-in-Some : goal.returns-in-Some
returns-in-Some c =
    let t = tested c.args.store.now c.args.part.now (λ i. omega (arith, c.type_inv.part i)) c.in-Ok.found.0 c.in-Ok.found.1 c.in-Ok-check_part.note c.refusal_by.result c.if-store.false
    c.in-Ok.ensures.store c.in-Ok-check_part.ensures.value c.refusal_by.ensures in
    with_refusal c.args.store.now c.args.part.now c.refusal_by.result c.in-Ok.found.0 c.in-Some.why t c.in-Some.is

pub returns-in-None : goal.returns-in-None
returns-in-None c =
    let t = tested c.args.store.now c.args.part.now (λ i. omega (arith, c.type_inv.part i)) c.in-Ok.found.0 c.in-Ok.found.1 c.in-Ok-check_part.note c.refusal_by.result c.if-store.false
    c.in-Ok.ensures.store c.in-Ok-check_part.ensures.value c.refusal_by.ensures in
    with_none c.args.store.now c.args.part.now c.refusal_by.result c.in-Ok.found.0 t c.in-None.is
