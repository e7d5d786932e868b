use Rattle.builder_core.proofs.Assembly.{Makes}
use Rattle.builder_core.proofs.assembling.assemble.Given as goal

abbrev pub invariant-loop-outcome : goal.invariant-loop-outcome
invariant-loop-outcome l = Makes l.fn.outcomes.items l.blocks.items l.leaves.items l.outcome-iterator.rest.items
