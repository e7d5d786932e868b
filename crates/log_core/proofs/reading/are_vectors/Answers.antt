use Rattle.std.proofs.Common.{◌<◌, length, sym, ap, ◌∙◌, arith}
use Rattle.octets_core.specs.Vectors.{some_vector}
use Rattle.log_core.specs.Entries.{is_cut}
use Rattle.octets_core.proofs.Filling.{all_of-more, all_of-none, all_of-ends}
use Rattle.log_core.proofs.ChainLaws.{shrinks, is_cut-more}
use Rattle.log_core.proofs.reading.are_vectors.Goals as goal

pub returns-in_default : goal.returns-in_default
returns-in_default c = ap is_cut (sym (all_of-none (some_vector 3) c.loop-rest.rest.now (omega arith) (sym c.in_default.ensures))) ∙ c.loop-rest.invariant

pub loop-rest-smaller : goal.loop-rest-smaller
loop-rest-smaller c = let less : length c.in-Some.after.now < length c.loop-rest.rest.now = shrinks c.loop-rest.rest.now _ (sym c.in-Some.ensures) in less

pub loop-rest-preserved : goal.loop-rest-preserved
loop-rest-preserved c = sym (ap is_cut (all_of-more (some_vector 3) shrinks c.loop-rest.rest.now _ (sym c.in-Some.ensures)) ∙ is_cut-more _ _) ∙ c.loop-rest.invariant

pub returns : goal.returns
returns c = ap is_cut (sym (all_of-ends (some_vector 3) c.loop-rest.rest.now (omega arith))) ∙ c.loop-rest.invariant
