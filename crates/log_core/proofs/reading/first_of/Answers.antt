use Rattle.std.proofs.Common.{sym, ap, ◌∙◌}
use Rattle.octets_core.specs.Vectors.{some_vector}
use Rattle.log_core.specs.Entries.{first_in}
use Rattle.octets_core.proofs.Filling.{all_of-more}
use Rattle.log_core.proofs.ChainLaws.{shrinks, first_in-none, first_in-cut, first_in-not}
use Rattle.log_core.proofs.reading.first_of.Goals as goal

pub returns-in_default : goal.returns-in_default
returns-in_default c = sym (first_in-none (some_vector 3) c.args.list.now (sym c.in_default.ensures))

pub returns-then-are_vectors : goal.returns-then-are_vectors
returns-then-are_vectors c =
    let more = all_of-more (some_vector 3) shrinks c.args.list.now _ (sym c.in-Some.ensures) in
    sym (ap first_in more ∙ first_in-cut c.in-Some.first.now _ (sym c.are_vectors.ensures ∙ c.if-are_vectors.true))

pub returns-else-are_vectors : goal.returns-else-are_vectors
returns-else-are_vectors c =
    let more = all_of-more (some_vector 3) shrinks c.args.list.now _ (sym c.in-Some.ensures) in
    sym (ap first_in more ∙ first_in-not c.in-Some.first.now _ (sym c.are_vectors.ensures ∙ c.if-are_vectors.false))
