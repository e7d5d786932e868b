use Rattle.std.proofs.Common.{refl, arith}
use Rattle.gather_core.proofs.Joining.{opened-new}
use Rattle.gather_core.proofs.job.OpenJob.new.Goals as goal

pub returns-clause-ok : goal.returns-clause-ok
returns-clause-ok c =
    opened-new c.args.bytes.items _ c.in_ok-tally.tally (record { text = c.pop.new.self; epoch = c.in_ok-tally.tally.epoch; entries = c.in_ok-tally.tally.entries })
    (rw c.deref.ensures.value at c.in_ok-tally.ensures) refl refl
    (first_of (assumption c.args.bytes.ok, omega (arith, c.args.bytes.ok), grind (arith, c.args.bytes.ok), omega (arith, c.deref.ensures.len))) c.pop.ensures.rest
