use Rattle.std.proofs.Common.{ap, ◌∙◌, not, Some}
use Rattle.claim_core.proofs.Places.{get_set_here, found_there, none_there}
use Rattle.claim_core.proofs.outputs.put.Goals as goal

pub returns-then-is_none-clause-there : goal.returns-then-is_none-clause-there
returns-then-is_none-clause-there g c = (c.args.done.output, get_set_here c.args.slots.now.items c.args.done.place (Some c.args.done.output) c.requires)

pub returns-else-is_none-clause-there : goal.returns-else-is_none-clause-there
returns-else-is_none-clause-there g c = found_there c.args.slots.now.items c.args.done.place c.index.result.now c.requires c.index.ensures (c.is_none.ensures ∙ ap not c.if-is_none.false)

pub returns-then-is_none-clause-first : goal.returns-then-is_none-clause-first
returns-then-is_none-clause-first g c =
    λ there. absurd (none_there c.args.slots.now.items c.args.done.place c.index.result.now c.requires c.index.ensures (c.is_none.ensures ∙ ap not c.if-is_none.true) there)
