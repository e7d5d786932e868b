use Rattle.std.proofs.Common.{◌≡◌, ◌++◌, take}
use Rattle.std.specs.Prelude.{flat_map, All}
use Rattle.ledger_core.specs.LedgerText.{item_text}
use Rattle.ledger_core.specs.Fitting.{ItemFits}
use Rattle.ledger_core.proofs.encode.put_items.Given as goal

abbrev pub invariant-loop-item : goal.invariant-loop-item
invariant-loop-item l = record {
  text : l.out.items ≡ l.fn.out.items ++ flat_map (item_text 2) (take l.item-index l.items);
  fits : All ItemFits (take l.item-index l.items);
}
