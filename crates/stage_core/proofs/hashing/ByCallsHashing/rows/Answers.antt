use Rattle.stage_core.proofs.hashing.ByCallsHashing.rows.Goals as goal

pub returns : goal.returns
returns g c = (c.requires.shared.0 c.args.shape c.args.seed c.args.universe c.args.flags c.requires.some c.requires.flags).1 c.rows.result c.rows.ensures
