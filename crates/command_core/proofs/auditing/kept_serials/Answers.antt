use Rattle.std.proofs.Common.{arith}
use Rattle.command_core.proofs.AuditCode.{kept_more}
use Rattle.command_core.proofs.auditing.kept_serials.Goals as goal

pub overflow_add-serials : goal.overflow_add-serials
overflow_add-serials c =
    omega (arith, kept_more c.args.crls.now c.loop-crl.crl-index c.crl-item.result c.loop-crl-test.true c.crl-item.is, c.loop-crl.invariant, c.kept_of-serials.ensures, c.requires)
