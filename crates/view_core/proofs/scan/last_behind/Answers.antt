use Rattle.std.proofs.Common.{arith}
use Rattle.std.proofs.lemmas.Result.{err_from_is_err_and}
use Rattle.view_core.specs.Scanning.{end_of}
use Rattle.view_core.proofs.Chains.{all_left, one_fewer, one_refused, one_faulty, none_left}
use Rattle.view_core.proofs.scan.last_behind.Goals as goal

pub loop-i-init : goal.loop-i-init
loop-i-init c = record { within = c.requires.within; left = λ s of. all_left c.args.bytes.now c.args.count s c.args.first of }

pub returns-in_err-given-clause-chain : goal.returns-in_err-given-clause-chain
returns-in_err-given-clause-chain c =
    let p = err_from_is_err_and c.from_residual.result c.from_residual.ensures.1 in
    rw (p.1, p.2) (λ s of. one_faulty c.args.bytes.now c.args.count c.loop-i.i s (end_of c.args.first) c.loop-i.held c.in_err-given.field-0.0
    c.loop-i-test.true (c.loop-i.invariant.left s of) c.in_err-given.ensures.part)

pub returns-in-Some-clause-chain : goal.returns-in-Some-clause-chain
returns-in-Some-clause-chain c = λ s of.
    one_refused c.args.bytes.now c.args.count c.loop-i.i s (end_of c.args.first) c.loop-i.held c.in_ok-given.given c.refusal_by.result c.in-Some.why
    c.loop-i-test.true (c.loop-i.invariant.left s of) c.in_ok-given.ensures.part c.refusal_by.ensures c.in-Some.is

pub loop-i-preserved : goal.loop-i-preserved
loop-i-preserved c = record {
  within = c.in_ok-given.ensures.within;
  left = λ s of.
      one_fewer c.args.bytes.now c.args.count c.loop-i.i s (end_of c.args.first) c.loop-i.held c.in_ok-given.given c.refusal_by.result
      c.loop-i-test.true (c.loop-i.invariant.left s of) c.in_ok-given.ensures.part c.refusal_by.ensures c.in-None.is;
}

pub returns-clause-chain : goal.returns-clause-chain
returns-clause-chain c = λ s of.
    none_left c.args.bytes.now c.args.count c.loop-i.i s (end_of c.args.first) c.loop-i.held (omega (arith, c.loop-i-test.false, c.loop-i.auto.i-end)) (c.loop-i.invariant.left s of)
