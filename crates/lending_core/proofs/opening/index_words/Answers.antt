use Rattle.std.proofs.Common.{sym, ◌∙◌}
use Rattle.lending_core.proofs.opening.index_words.Goals as goal

pub returns-in-None-clause-value : goal.returns-in-None-clause-value
returns-in-None-clause-value c parts few is =
    let none = sym c.in-None.is ∙ c.index_length.ensures parts few is in
    absurd cc
