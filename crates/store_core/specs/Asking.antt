-- What parts with their trailers say together of a certificate that is asked for.
use Rattle.std.specs.Prelude.{List, map}
use Rattle.card_core.specs.Verdict.{verdict}
use Rattle.card_core.specs.declared.fours.Inquiry.{Inquiry}
use Rattle.card_core.specs.declared.verdict.Verdict.{Verdict}
use Rattle.part_text.specs.SealedFields.{SealedFields}

abbrev pub said_of : List SealedFields → Inquiry → Verdict
said_of parts asked = verdict (map (λ s. s.part) parts) asked.certificate asked.sightings.now
