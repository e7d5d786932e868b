-- What a depot in memory holds, as files.
use Rattle.std.specs.Prelude.{ℕ, List, map, position, Option}
use Rattle.std.specs.String.{string_bytes}
use Rattle.std.specs.Str.{bytes_eq}
use Rattle.std.specs.FinMap.{from_entries}
use Rattle.outside_core.specs.Files.{Files}
use Rattle.outside_core.specs.declared.memory.entries.Entry.{Entry}

-- an entry as a name and its bytes
abbrev pub pair_of : Entry → List ℕ × List ℕ
pair_of e = (string_bytes e.name, e.bytes.items)

-- the files of these entries
abbrev pub files_of : List Entry → Files
files_of entries = from_entries (map pair_of entries)

-- where a name stands
abbrev pub place_of : List Entry → List ℕ → Option ℕ
place_of entries name = position (λ e. bytes_eq (string_bytes e.name) name) entries
