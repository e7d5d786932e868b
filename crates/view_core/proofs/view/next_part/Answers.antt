use Rattle.std.proofs.Common.{sym}
use Rattle.view_core.proofs.IndexWords.{words_of_next}
use Rattle.view_core.proofs.view.next_part.Goals as goal

pub returns-clause-some : goal.returns-clause-some
returns-clause-some c =
    let first = c.split_at.ensures in
    let second = c.split_at-2.ensures in
    words_of_next c.args.words.now c.split_at.result.0.now c.split_at-2.result.0.now c.split_at-2.result.1.now
    c.split_at.result.1.now c.if-words-lt3.false (sym first.front_len) first.by_index.0 second.by_index.0
