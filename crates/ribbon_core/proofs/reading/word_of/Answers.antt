use Rattle.std.proofs.Common.{sym, arith}
use Rattle.ribbon_core.specs.PlaneWords.{kept_word, place}
use Rattle.ribbon_core.proofs.Words.{number_word}
use Rattle.ribbon_core.proofs.reading.word_of.Goals as goal

pub returns-clause-value : goal.returns-clause-value
returns-clause-value g c width lt = rw c.place.ensures (sym (number_word (kept_word c.args.words.now c.args.planes c.args.plane)
    (λ k. omega (arith, c.type_inv.words (place c.args.planes c.args.plane k))) width c.args.i lt))
