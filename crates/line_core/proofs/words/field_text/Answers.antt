use Rattle.line_core.proofs.FieldWords.{name_of-short}
use Rattle.line_core.proofs.words.field_text.Goals as goal

pub returns-clause-len : goal.returns-clause-len
returns-clause-len c = rw (c.as_bytes.ensures.value, c.name.ensures) (name_of-short c.args.field)
