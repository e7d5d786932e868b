use Rattle.view_core.proofs.Filling.{unsharded}
use Rattle.view_core.proofs.fill.put_shards_behind.Goals as goal

pub returns-then-not-parts-clause-value : goal.returns-then-not-parts-clause-value
returns-then-not-parts-clause-value c = λ list fits count s at told.
    unsharded c.args.index.now list c.args.parts.walk c.args.parts.sharded at told c.if-not-parts.true
