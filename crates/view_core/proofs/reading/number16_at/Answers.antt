use Rattle.std.proofs.Common.{◌∙◌, refl, ap, arith}
use Rattle.std.specs.Int.{w16, from_be_bytes, to_be_bytes}
use Rattle.octets_core.proofs.Texts.{wide16}
use Rattle.view_core.proofs.reading.number16_at.Goals as goal

pub returns-in-Some : goal.returns-in-Some
returns-in-Some c = λ n lt s.
    c.from_be_bytes.ensures ∙ ap (from_be_bytes w16) (c.in-Some.ensures.text (to_be_bytes w16 n) refl s) ∙ wide16.again n lt

pub returns-in-None : goal.returns-in-None
returns-in-None c = λ n lt s. absurd (let none = c.in-None.ensures.there (to_be_bytes w16 n) refl (omega arith) s in cc)
