use Rattle.std.specs.Prelude.{string_bytes}
use Rattle.std.proofs.lemmas.Bool.{false≢true}
use Rattle.word_core.proofs.Commands.{first_check}
use Rattle.word_core.proofs.reading.read_words.Goals as goal

pub returns-in_err-command-clause-lent : goal.returns-in_err-command-clause-lent
returns-in_err-command-clause-lent c = λ name h.
    absurd (false≢true (c.in_err-command.ensures.lent name
    (first_check string_bytes c.args.words.now c.command-item.result _ name c.in-len1-up.len_at_least c.command-item.is c.as_str.ensures.value h)))
