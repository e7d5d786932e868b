use Rattle.std.proofs.Common.{◌<◌, ◌^◌, length, arith}
use Rattle.octets_core.proofs.Powers.{below_top}
use Rattle.der_core.proofs.read.spelled.Goals as goal

pub returns-clause-bound : goal.returns-clause-bound
returns-clause-bound c =
    let top : c.number_of.result < 256 ^ 4 = below_top c.number_of.result (length c.args.octets.now) 4 c.number_of.ensures.bound (omega arith) in
    omega arith
