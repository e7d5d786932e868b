use Rattle.std.proofs.Common.{ap, ◌∙◌}
use Rattle.std.specs.Prelude.{option_map}
use Rattle.std.proofs.lemmas.Result.{err_from_is_err_and}
use Rattle.ledger_core.specs.LedgerFields.{part_fields}
use Rattle.ledger_core.proofs.Steps.{at_end, newest-at_end, parts-go_on, parts-end, parts-done}
use Rattle.ledger_core.proofs.decode.parts_of.Goals as goal

pub returns-in_err-part : goal.returns-in_err-part
returns-in_err-part c =
    let p = err_from_is_err_and c.from_residual-in_err-part.result c.from_residual-in_err-part.ensures.1 in
    let is = ap (option_map part_fields) c.last.ensures.value ∙ ap at_end c.deref.ensures.value ∙ newest-at_end c.loop.parts.items in
    rw (p.1, p.2) (λ wants. parts-end c.loop.parts.items _ c.args.count c.loop.counter c.loop.cursor.bytes c.loop.cursor.at c.in_err-part.field-0.0 _
    c.loop-test.true is (c.in_err-part.ensures wants) c.loop.invariant.read)

pub loop-preserved : goal.loop-preserved
loop-preserved c =
    let read = c.in_ok-part.ensures in
    let is = ap (option_map part_fields) c.last.ensures.value ∙ ap at_end c.deref.ensures.value ∙ newest-at_end c.loop.parts.items in
    record {
      read = rw (c.in_ok-push.ensures.items, read.1) (parts-go_on c.loop.parts.items _ c.in_ok-part.part c.args.count c.loop.counter c.loop.cursor.bytes
          c.loop.cursor.at c.part_of.new.cursor.at _ c.loop-test.true is read.0 c.loop.invariant.read);
      same = read.1 ∙ c.loop.invariant.same;
    }

pub returns : goal.returns
returns c = (parts-done c.loop.parts.items c.args.count c.loop.counter c.loop.cursor.bytes c.loop.cursor.at _ c.loop-test.false c.loop.invariant.read, c.loop.invariant.same)
