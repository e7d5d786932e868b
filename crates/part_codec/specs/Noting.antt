-- What a scan tells of a part.
use Rattle.std.specs.Prelude.{ℕ, length as count, Result, Ok, Err}
use Rattle.octets_core.specs.declared.fault.LayoutFault.{LayoutFault}
use Rattle.part_text.specs.SealedFields.{SealedFields}
use Rattle.part_text.specs.PartLayout.{kind_of}
use Rattle.part_codec.specs.declared.fields.Kept.{Kept}
use Rattle.part_codec.specs.declared.scan.PartNote.{PartNote}

-- of a part of so many bytes
abbrev pub note_of : SealedFields → ℕ → PartNote
note_of s n =
    record {
      kind = s.part.head.kind;
      epoch = s.part.head.epoch;
      ranges = count s.part.head.ranges;
      issuers = count s.part.blocks;
      length = n;
      trailer = s.trailer;
    }

-- of what was read
abbrev pub noted : Result (SealedFields × ℕ) LayoutFault → Result PartNote LayoutFault
noted (Ok x) = Ok (note_of x.0 x.1)
noted (Err e) = Err e

-- from what is kept
abbrev pub note_by : Kept → ℕ → PartNote
note_by k n = record { kind = kind_of k.kind; epoch = k.epoch; ranges = k.ranges; issuers = k.issuers; length = n; trailer = k.trailer }
