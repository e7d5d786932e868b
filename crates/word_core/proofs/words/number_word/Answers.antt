use Rattle.std.proofs.Common.{sym, ◌∙◌}
use Rattle.std.specs.declared.num.ParseIntError.{ParseIntError}
use Rattle.word_core.proofs.Numbers.{number_of-parsed, number_of-refused}
use Rattle.word_core.proofs.words.number_word.Goals as goal

pub returns-in-Ok : goal.returns-in-Ok
returns-in-Ok c = number_of-parsed ParseIntError c.args.word.now c.in-Ok.n c.in-Ok.ensures.value.0
    (rw (← c.as_bytes.ensures.value) (sym c.all_digits.ensures ∙ c.if-not-all_digits.false)) c.if-word-lt1.false c.if-word-gt20.false

pub returns-in-Err : goal.returns-in-Err
returns-in-Err c = number_of-refused ParseIntError c.args.word.now c.in-Err.field-0 c.in-Err.ensures.value.0
    (rw (← c.as_bytes.ensures.value) (sym c.all_digits.ensures ∙ c.if-not-all_digits.false)) c.if-word-lt1.false c.if-word-gt20.false
