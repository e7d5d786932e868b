use Rattle.std.proofs.Common.{sym, ap, ◌∙◌}
use Rattle.std.specs.Prelude.{string_bytes}
use Rattle.word_core.proofs.OneByOne.{with_first}
use Rattle.word_core.proofs.Pairs.{pairs_of-odd}
use Rattle.word_core.proofs.words.read_pairs.Goals as goal

pub returns-then-rest-ne0-clause-value : goal.returns-then-rest-ne0-clause-value
returns-then-rest-ne0-clause-value c = ap (with_first c.loop-rest.sightings.items) (sym (pairs_of-odd string_bytes c.loop-rest.rest.now c.in_default.len_below c.if-rest-ne0.true)) ∙ c.loop-rest.invariant.read
