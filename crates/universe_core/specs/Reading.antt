-- Which of a job's entries are read.
use Rattle.std.specs.Prelude.{ℕ, ℤ, ◌+◌, ◌<◌, List, [], map, length, ◌&&◌, Bool, cond, Option, Some, None, unwrap_or}
use Rattle.std.specs.Bool.{then_some}
use Rattle.std.specs.List.{slice_get}
use Rattle.std.specs.Option.{option_map_or}
use Rattle.ident_core.specs.declared.identity.Identity.{Identity}
use Rattle.ident_core.specs.declared.range.Range.{Range}
use Rattle.ident_core.specs.declared.range.Sighting.{Sighting}
use Rattle.ident_core.specs.Coverage.{covers}
use Rattle.ledger_core.specs.LedgerFields.{LedgerFields}
use Rattle.ident_core.specs.Sets.{has_key}
use Rattle.universe_core.specs.Jobs.{Entry}
use Rattle.universe_core.specs.History.{class_by}
use Rattle.universe_core.specs.Ledgers.{no_ledger, past_in}
use Rattle.universe_core.specs.Counting.{is_class}
use Rattle.universe_core.specs.declared.class.Class.{Class}
use Rattle.universe_core.specs.declared.class.Class.TheVariants.{Unread, Uncovered, Unenrolled, Accepted}
use Rattle.universe_core.specs.declared.read_entry.ReadEntry.{ReadEntry}
use Rattle.universe_core.specs.declared.reading.Tally.{Tally}

-- the identity of a read entry, by the enrolled issuers
abbrev pub id_in : List (List ℕ) → ReadEntry → Identity
id_in issuers e = record { issuer = unwrap_or (slice_get issuers e.place) []; serial = e.serial }

-- its sighting, by the ranges of its job
abbrev pub sighting_in : List Range → ReadEntry → Sighting
sighting_in ranges e = record { log = option_map_or (λ r. r.log) (slice_get ranges e.near) []; time = e.time }

-- its date, if it is told
abbrev pub date_in : ReadEntry → Option ℤ
date_in e = then_some e.dated e.until

abbrev pub entry_fields : List (List ℕ) → List Range → ReadEntry → Entry
entry_fields issuers ranges e = record { id = id_in issuers e; sighting = sighting_in ranges e; until = date_in e }

abbrev pub entries_of : List (List ℕ) → List Range → List ReadEntry → List Entry
entries_of issuers ranges es = map (entry_fields issuers ranges) es

-- its places are those of an issuer and of a range
pub record IsPlaced (issuers : List (List ℕ)) (ranges : List Range) (e : ReadEntry) : Type 0 where
  pub issuer : e.place < length issuers
  pub range : e.near < length ranges

-- the entry, if the ranges cover it and its issuer is enrolled
abbrev pub if_read : List Range → List (List ℕ) → Option Entry → Option Entry
if_read ranges issuers None = None
if_read ranges issuers (Some e) = cond (covers ranges e.sighting && has_key issuers e.id.issuer) (Some e) None

-- what an entry is by its job alone
abbrev pub class_alone : List Range → List (List ℕ) → Option Entry → Class
class_alone ranges issuers e = class_by ranges issuers (past_in no_ledger) e

abbrev pub one_if : Bool → ℕ
one_if b = cond b 1 0

-- one more of the class
abbrev pub with_class : Class → Tally → Tally
with_class c t = record {
  unread = t.unread + one_if (is_class Unread c);
  uncovered = t.uncovered + one_if (is_class Uncovered c);
  unenrolled = t.unenrolled + one_if (is_class Unenrolled c);
  read = t.read + one_if (is_class Accepted c);
}

-- whether a part before its identity's birth covers the entry and enrolls its issuer
abbrev pub comes_late_in : LedgerFields → Entry → Bool
comes_late_in ledger e = (past_in ledger).comes_late e.id e.sighting
