use Rattle.log_core.proofs.EntryLaws.{entry-found, entry-only, entry-once}
use Rattle.log_core.proofs.reading.read_entry.Goals as goal

pub returns-clause-found : goal.returns-clause-found
returns-clause-found c = entry-found c.args.log c.args.leaf.now c.args.extra.now c.entry_in.result c.entry_in.ensures

pub returns-clause-only : goal.returns-clause-only
returns-clause-only c = entry-only c.args.log c.args.leaf.now c.args.extra.now c.entry_in.result c.entry_in.ensures

pub returns-clause-once : goal.returns-clause-once
returns-clause-once c = entry-once c.args.log c.args.leaf.now c.args.extra.now
