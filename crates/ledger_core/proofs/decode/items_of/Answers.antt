use Rattle.std.proofs.Common.{ℕ, List, Option, Some, Result, ap, ◌∙◌}
use Rattle.std.proofs.lemmas.Result.{err_from_is_err_and}
use Rattle.octets_core.specs.Layout.{with_fault}
use Rattle.octets_core.specs.declared.fault.LayoutFault.{LayoutFault}
use Rattle.octets_core.proofs.Repeated.{goes_on, ends, is_done}
use Rattle.ident_core.specs.declared.identity.Identity.{Identity}
use Rattle.ledger_core.specs.declared.fields.LedgerItem.{LedgerItem}
use Rattle.ledger_core.specs.LedgerLayout.{item}
use Rattle.ledger_core.specs.declared.fault.LedgerFault.{LedgerFault}
use Rattle.ledger_core.specs.declared.fault.LedgerFault.TheVariants as faults
use Rattle.ledger_core.proofs.decode.items_of.Goals as goal

abbrev next : Option Identity → LedgerItem → Option Identity
next previous x = Some x.id

abbrev wrapped : Result (List LedgerItem × ℕ) LayoutFault → Result (List LedgerItem × ℕ) LedgerFault
wrapped read = with_fault faults.Layout read

pub returns-in_err-item : goal.returns-in_err-item
returns-in_err-item c =
    let p = err_from_is_err_and c.from_residual-in_err-item.result c.from_residual-in_err-item.ensures.1 in
    rw (p.1, p.2) (λ wants. ap wrapped (ends (item c.args.version c.args.parts) next c.loop.items.items c.args.count c.loop.counter c.loop.previous c.loop.cursor.bytes
    c.loop.cursor.at c.in_err-item.field-0.0 _ c.loop-test.true c.in_err-item.ensures.0 c.loop.invariant.read))

pub loop-preserved : goal.loop-preserved
loop-preserved c =
    let read = c.in_ok-item.ensures in
    record {
      read = rw (c.in_ok-push.ensures.items, read.1) (goes_on (item c.args.version c.args.parts) next c.loop.items.items c.args.count c.loop.counter c.loop.previous
          c.loop.cursor.bytes c.loop.cursor.at c.in_ok-item.item c.item_of.new.cursor.at _ c.loop-test.true read.0 c.loop.invariant.read);
      same = read.1 ∙ c.loop.invariant.same;
    }

pub returns : goal.returns
returns c =
    let items = item c.args.version c.args.parts in
    let all = is_done items next c.loop.items.items c.args.count c.loop.counter c.loop.previous c.loop.cursor.bytes c.loop.cursor.at _ c.loop-test.false c.loop.invariant.read in
    (ap wrapped all, c.loop.invariant.same)
