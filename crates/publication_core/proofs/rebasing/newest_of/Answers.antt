use Rattle.std.proofs.Common.{length, ◌-◌, arith}
use Rattle.publication_core.proofs.Parts.{newest_at}
use Rattle.publication_core.proofs.rebasing.newest_of.Goals as goal

pub returns : goal.returns
returns c = newest_at c.args.parts.now c.index-parts-parts.result (length c.args.parts.now - 1) (let some = c.requires in omega arith) c.index-parts-parts.is
