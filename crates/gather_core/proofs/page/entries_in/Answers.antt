use Rattle.std.proofs.Common.{arith}
use Rattle.gather_core.proofs.Pages.{reads-more}
use Rattle.gather_core.proofs.page.entries_in.Goals as goal

pub loop-item-preserved : goal.loop-item-preserved
loop-item-preserved c =
    reads-more c.args.items.now c.loop-item.item-index c.loop-item.entries.items c.item-item.result c.in_ok-entry_in.field-0 c.len-index.result c.push.new.self.items
    c.loop-item.invariant c.loop-item-test.true c.item-item.is (first_of (cc, omega (arith, c.len-index.ensures), grind (arith, c.len-index.ensures)))
    c.in_ok-entry_in.ensures.exact c.in_ok-entry_in.ensures.fits c.in_ok-push.ensures.items
