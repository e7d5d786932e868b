use Rattle.std.proofs.Common.{◌∙◌, refl, ap, arith}
use Rattle.std.specs.Int.{w64, from_be_bytes, to_be_bytes}
use Rattle.octets_core.proofs.Texts.{wide64}
use Rattle.view_core.proofs.reading.number64_at.Goals as goal

pub returns-in-Some : goal.returns-in-Some
returns-in-Some c = λ n lt s.
    c.from_be_bytes.ensures ∙ ap (from_be_bytes w64) (c.in-Some.ensures.text (to_be_bytes w64 n) refl s) ∙ wide64.again n lt

pub returns-in-None : goal.returns-in-None
returns-in-None c = λ n lt s. absurd (let none = c.in-None.ensures.there (to_be_bytes w64 n) refl (omega arith) s in cc)
