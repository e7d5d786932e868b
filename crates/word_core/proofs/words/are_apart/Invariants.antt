use Rattle.std.proofs.Common.{◌≡◌, length}
use Rattle.word_core.specs.Words.{are_apart}
use Rattle.word_core.proofs.words.are_apart.Given as goal

abbrev pub invariant-loop-rest : goal.invariant-loop-rest
invariant-loop-rest l = are_apart l.inputs l.rest ≡ are_apart l.inputs l.outputs

abbrev pub decreases-loop-rest : goal.decreases-loop-rest
decreases-loop-rest l = length l.rest
