use Rattle.gather_core.proofs.Pages.{Reads}
use Rattle.gather_core.proofs.page.entries_in.Given as goal

abbrev pub invariant-loop-item : goal.invariant-loop-item
invariant-loop-item l = Reads l.items l.item-index l.entries.items
