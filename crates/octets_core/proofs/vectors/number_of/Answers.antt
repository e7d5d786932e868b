use Rattle.std.proofs.Common.{◌<◌, ◌^◌, arith, length}
use Rattle.std.proofs.lemmas.Grind.{common_steps}
use Rattle.octets_core.proofs.Powers.{small, below_step, below_top}
use Rattle.octets_core.proofs.vectors.number_of.Goals as goal

pub overflow_mul-n : goal.overflow_mul-n
overflow_mul-n c = let s = small c.loop-b.n c.loop-b.b-index c.loop-b.invariant.bound (omega arith) in omega arith

pub overflow_add-n : goal.overflow_add-n
overflow_add-n c = let s = small c.loop-b.n c.loop-b.b-index c.loop-b.invariant.bound (omega arith) in omega arith

pub loop-b-preserved : goal.loop-b-preserved
loop-b-preserved c = record { value = grind (arith, common_steps); bound = below_step _ _ _ c.loop-b.invariant.bound (omega arith) }

pub returns : goal.returns
returns c = record {
  value = grind (arith, common_steps);
  bound = let t : c.loop-b.n
      < 256 ^ length c.args.bytes.now = below_top c.loop-b.n c.loop-b.b-index (length c.args.bytes.now) c.loop-b.invariant.bound (omega arith) in omega arith;
}
