use Rattle.std.proofs.Common.{◌≢◌, length, arith, [], refl, sym, ◌∙◌}
use Rattle.der_core.specs.Elements.{der_of}
use Rattle.der_core.proofs.ItemLaws.{items-none, items-err, items-rest, same_number, other_number}
use Rattle.der_core.proofs.read.first_item.Goals as goal

pub returns-then-is_empty : goal.returns-then-is_empty
returns-then-is_empty c = items-none c.args.bytes.now (same_number (length c.args.bytes.now) 0 (sym c.is_empty.ensures ∙ c.if-is_empty.true))

pub returns-in-Ok : goal.returns-in-Ok
returns-in-Ok c = items-rest c.args.bytes.now (der_of c.in-Ok.e) c.in-Ok.n c.in-Ok.ensures.exact

pub returns-in-Err : goal.returns-in-Err
returns-in-Err c =
    let some : length c.args.bytes.now ≢ 0 = other_number (length c.args.bytes.now) 0 (sym c.is_empty.ensures ∙ c.if-is_empty.false) in
    rw (items-none [] refl) (items-err c.args.bytes.now c.in-Err.fault (omega arith) c.in-Err.ensures.exact)
