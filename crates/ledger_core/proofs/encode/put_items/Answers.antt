use Rattle.ledger_core.specs.LedgerText.{item_text}
use Rattle.ledger_core.specs.Fitting.{ItemFits}
use Rattle.octets_core.proofs.Loops.{appended-more, all-more}
use Rattle.ledger_core.proofs.encode.put_items.Goals as goal

pub loop-item-preserved : goal.loop-item-preserved
loop-item-preserved c = record {
  text = appended-more (item_text 2) c.args.items.now c.loop-item.item-index c.item-item.result c.args.out.now.items c.loop-item.out.items c.put_item.new.out.items
      c.loop-item-test.true c.item-item.is c.loop-item.invariant.text c.in_ok-put_item.ensures.text;
  fits = all-more ItemFits c.args.items.now c.loop-item.item-index c.item-item.result c.loop-item-test.true c.item-item.is c.loop-item.invariant.fits c.in_ok-put_item.ensures.fits;
}
