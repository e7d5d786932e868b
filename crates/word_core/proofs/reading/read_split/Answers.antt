use Rattle.std.proofs.Common.{sym}
use Rattle.std.specs.Prelude.{string_bytes}
use Rattle.word_core.proofs.Pairs.{split_of-short}
use Rattle.word_core.proofs.reading.read_split.Goals as goal

pub returns-in_default : goal.returns-in_default
returns-in_default c = sym (split_of-short string_bytes c.args.words.now c.in_default.len_below)
