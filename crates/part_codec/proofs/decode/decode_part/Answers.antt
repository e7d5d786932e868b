use Rattle.std.proofs.Common.{arith}
use Rattle.part_text.proofs.PartTexts.{found-of, takes-of, len-of, only-of}
use Rattle.part_text.proofs.PartBounds.{at-of}
use Rattle.part_codec.proofs.decode.decode_part.Goals as goal

pub returns-clause-found : goal.returns-clause-found
returns-clause-found c = found-of c.args.bytes.now c.sealed_of.result (λ i. omega (arith, c.type_inv.bytes i)) c.sealed_of.ensures

pub returns-clause-takes : goal.returns-clause-takes
returns-clause-takes c = takes-of c.args.bytes.now c.sealed_of.result (λ i. omega (arith, c.type_inv.bytes i)) c.sealed_of.ensures

pub returns-clause-only : goal.returns-clause-only
returns-clause-only c = λ s rest fits is. only-of c.args.bytes.now c.sealed_of.result s rest c.sealed_of.ensures fits is

pub returns-clause-len : goal.returns-clause-len
returns-clause-len c = len-of c.args.bytes.now c.sealed_of.result (λ i. omega (arith, c.type_inv.bytes i)) c.sealed_of.ensures

pub returns-clause-at : goal.returns-clause-at
returns-clause-at c = at-of c.args.bytes.now c.sealed_of.result c.sealed_of.ensures
