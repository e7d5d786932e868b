-- The epoch of a chain of parts: that of its newest part.
use Rattle.std.specs.Prelude.{ℕ, Option, Some, None}
use Rattle.part_text.specs.SealedFields.{SealedFields}

-- of the newest part, if there is one
abbrev pub epoch_of : Option SealedFields → ℕ
epoch_of None = 0
epoch_of (Some s) = s.part.head.epoch
