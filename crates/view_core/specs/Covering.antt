-- Until when a store covers a log.
use Rattle.std.specs.Prelude.{ℕ, List, Option, Some, None}
use Rattle.std.specs.List.{find}
use Rattle.std.specs.Option.{option_map}
use Rattle.std.specs.Str.{bytes_eq}
use Rattle.part_text.specs.SealedFields.{SealedFields}
use Rattle.store_core.specs.Chain.{newest_of}

-- the end of a part's range of the log
abbrev pub until_in : Option SealedFields → List ℕ → Option ℕ
until_in None log = None
until_in (Some s) log = option_map (λ r. r.to) (find (λ r. bytes_eq r.log log) s.part.head.ranges)

-- the same of the newest part
abbrev pub covered_until : List SealedFields → List ℕ → Option ℕ
covered_until parts log = until_in (newest_of parts) log
