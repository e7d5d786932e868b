use Rattle.std.proofs.Common.{arith}
use Rattle.std.proofs.lemmas.Nat.{pow_below}
use Rattle.stage_core.proofs.keys.KeyTarget.bits.Goals as goal

pub returns-in-One-clause-few : goal.returns-in-One-clause-few
returns-in-One-clause-few c = pow_below 0 c.args.planes (omega arith)
