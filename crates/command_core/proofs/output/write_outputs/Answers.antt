use Rattle.std.proofs.Common.{arith, rules, ap, length, List}
use Rattle.command_core.specs.ReplyFields.{OutputFields}
use Rattle.command_core.proofs.Outputs.{written-more, torn-at}
use Rattle.command_core.proofs.output.write_outputs.Goals as goal

pub returns-in-Err-clause-torn : goal.returns-in-Err-clause-torn
returns-in-Err-clause-torn g c =
    rw c.name.ensures
    (torn-at _ _ _ c.args.outputs.now c.loop-output.output-index c.output-item.result c.loop-output-test.true c.output-item.is c.loop-output.invariant.written c.in-Err.ensures.err)

pub loop-output-preserved : goal.loop-output-preserved
loop-output-preserved g c = record {
  written = written-more _ _ _ c.args.outputs.now c.loop-output.output-index c.output-item.result c.loop-output-test.true c.output-item.is c.loop-output.invariant.written c.in-Ok.ensures.ok;
  quiet = λ none. absurd (omega (arith, c.loop-output-test.true, ap (λ (os : List OutputFields). length os) none));
  later = omega arith;
  same_reads = search rules;
  same_failed = search rules;
}
