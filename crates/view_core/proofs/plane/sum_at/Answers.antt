use Rattle.std.proofs.Common.{◌%◌, ◌∙◌, arith, rules}
use Rattle.ribbon_core.proofs.MaskedWords.{lane_of_two, lane_of_three, high_mask_below}
use Rattle.ribbon_core.proofs.Sums.{low_parity}
use Rattle.view_core.proofs.plane.sum_at.Goals as goal

pub returns-then-shift-eq0-clause-value : goal.returns-then-shift-eq0-clause-value
returns-then-shift-eq0-clause-value g c width Z in_width s =
    low_parity _ ∙ lane_of_two Z c.args.start c.args.coeff (search rules) c.word_at.result c.word_at-2.result c.if-shift-eq0.true
    (c.word_at.ensures.value width Z (omega arith) s) (c.word_at-2.ensures.value width Z (omega arith) s)

pub overflow_cast-high-2 : goal.overflow_cast-high-2
overflow_cast-high-2 g c = record { fits = high_mask_below c.args.coeff (c.args.start % 64) (search rules) (omega arith) }

pub returns-clause-value : goal.returns-clause-value
returns-clause-value g c width Z in_width s =
    low_parity _ ∙ lane_of_three Z c.args.start c.args.coeff (search rules) c.word_at.result c.word_at-2.result c.word_at-3.result
    (c.word_at.ensures.value width Z (omega arith) s) (c.word_at-2.ensures.value width Z (omega arith) s) (c.word_at-3.ensures.value width Z (omega arith) s)
