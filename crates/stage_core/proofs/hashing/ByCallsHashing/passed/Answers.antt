use Rattle.stage_core.proofs.hashing.ByCallsHashing.passed.Goals as goal

pub returns : goal.returns
returns g c = (c.requires.shared.1 c.args.approx c.args.universe c.args.revoked c.requires.flags).1 c.passed.result c.passed.ensures
