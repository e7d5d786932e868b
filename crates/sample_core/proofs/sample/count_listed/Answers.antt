use Rattle.std.proofs.Common.{sym, arith}
use Rattle.sample_core.proofs.Texts.{listed-none, listed-more, byte-is, byte-le}
use Rattle.sample_core.proofs.sample.count_listed.Goals as goal

pub loop-i-init : goal.loop-i-init
loop-i-init c = (sym listed-none, omega arith)

pub loop-i-preserved : goal.loop-i-preserved
loop-i-preserved c = (
  omega (arith, byte-is _ _ c.is_listed.ensures, listed-more c.loop-i.i, c.loop-i.invariant.0),
  omega (arith, byte-le c.is_listed.result, c.loop-i.invariant.1),
)
