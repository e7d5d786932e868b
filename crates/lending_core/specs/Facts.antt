-- What is told of stores that are opened, of parts and of stores with a further part: of each a number, and facts.
use Rattle.std.specs.Prelude.{ℕ, Result, Ok, Err}
use Rattle.octets_core.specs.declared.field.Field.{Field}
use Rattle.octets_core.specs.declared.field.Field.TheVariants as fields
use Rattle.octets_core.specs.declared.fault.LayoutFault.{LayoutFault}
use Rattle.ident_core.specs.declared.kind.Kind.{Kind}
use Rattle.ident_core.specs.declared.kind.Kind.TheVariants as kinds
use Rattle.ident_core.specs.HeadFields.{zero_key}
use Rattle.part_codec.specs.declared.scan.PartNote.{PartNote}
use Rattle.view_core.specs.declared.opened.Opened.{Opened}
use Rattle.view_core.specs.declared.opened.OpenFault.{OpenFault}
use Rattle.view_core.specs.declared.opened.OpenFault.TheVariants as opens
use Rattle.view_core.specs.declared.installing.InstallFault.{InstallFault}
use Rattle.view_core.specs.declared.installing.InstallFault.TheVariants as installs
use Rattle.lending_core.specs.declared.facts.TheConstants.{OPENED_SIZE, PART_SIZE, INSTALL_SIZE}
use Rattle.lending_core.specs.declared.facts.OpenedFacts.{OpenedFacts}
use Rattle.lending_core.specs.declared.facts.PartFacts.{PartFacts}
use Rattle.lending_core.specs.declared.facts.InstallFacts.{InstallFacts}
use Rattle.lending_core.specs.declared.facts.Told.{Told}
use Rattle.lending_core.specs.declared.fault.LentFault.{LentFault}
use Rattle.lending_core.specs.declared.fault.LentFault.TheVariants as faults
use Rattle.lending_core.specs.declared.numbers.TheConstants.{DONE, STORE_TOO_LONG, INDEX_TOO_SHORT, ROOM_TOO_SHORT}
use Rattle.lending_core.specs.Faults.{of_store}
use Rattle.lending_core.specs.Replies.{fault_answer}

-- ---- faults

-- 1 and the field's place among the fields, of one that stands in a store or a part; else 0
abbrev pub field_number : Field → ℕ
field_number fields.PartMagic = 1
field_number fields.PartVersion = 2
field_number fields.PartKind = 3
field_number fields.PartEpoch = 4
field_number fields.PartParent = 5
field_number fields.PartRanges = 6
field_number fields.RangeLog = 7
field_number fields.RangeFrom = 8
field_number fields.RangeTo = 9
field_number fields.PartIssuers = 10
field_number fields.BlockIssuer = 11
field_number fields.BlockMode = 12
field_number fields.BlockK = 13
field_number fields.BlockShift = 14
field_number fields.ShardMode = 15
field_number fields.ApproxSeed = 16
field_number fields.ApproxStarts = 17
field_number fields.ApproxPlane = 18
field_number fields.ExactSeed = 19
field_number fields.ExactStarts = 20
field_number fields.ExactPlane = 21
field_number fields.PartSharded = 22
field_number fields.PartTrailer = 23
field_number fields.StoreMagic = 24
field_number fields.StoreVersion = 25
field_number fields.StoreCount = 26
field_number fields.LedgerMagic = 0
field_number fields.LedgerVersion = 0
field_number fields.LedgerParts = 0
field_number fields.LedgerEpoch = 0
field_number fields.LedgerPartTrailer = 0
field_number fields.LedgerRanges = 0
field_number fields.LedgerCoverage = 0
field_number fields.LedgerIssuers = 0
field_number fields.LedgerIssuer = 0
field_number fields.LedgerIdentities = 0
field_number fields.IdentityIssuer = 0
field_number fields.IdentityLength = 0
field_number fields.IdentitySerial = 0
field_number fields.IdentityBirth = 0
field_number fields.IdentityLast = 0
field_number fields.IdentityDated = 0
field_number fields.IdentityUntil = 0
field_number fields.LedgerDigest = 0
field_number fields.JobMagic = 0
field_number fields.JobEpoch = 0
field_number fields.JobMoment = 0
field_number fields.RecordKind = 0
field_number fields.CrlIssuer = 0
field_number fields.CrlLength = 0
field_number fields.CrlBytes = 0
field_number fields.EntryLog = 0
field_number fields.EntryLeafLength = 0
field_number fields.EntryLeaf = 0
field_number fields.EntryExtraLength = 0
field_number fields.EntryExtra = 0
field_number fields.QueryMagic = 0
field_number fields.QueryCount = 0
field_number fields.QueryIssuer = 0
field_number fields.QueryLength = 0
field_number fields.QuerySerial = 0
field_number fields.QuerySightings = 0
field_number fields.SightingLog = 0
field_number fields.SightingTime = 0
field_number fields.End = 65

-- of the field that is at fault
abbrev pub field_of : LentFault → ℕ
field_of (faults.Layout f) = field_number f.field
field_of faults.NotSnapshot = 0
field_of (faults.Chain why) = 0
field_of faults.BadSerial = 0
field_of faults.BadSightings = 0
field_of faults.BadPlaces = 0
field_of (faults.BadCert f) = 0
field_of faults.BadIssuerCert = 0
field_of faults.NoMemory = 0

abbrev pub told_lent : LentFault → Told
told_lent e = record { number = (fault_answer e).number; at = (fault_answer e).at; field = field_of e; wanted = 0 }

-- of this number, and of how many words or bytes are wanted
abbrev pub told_only : (number wanted : ℕ) → Told
told_only n wanted = record { number = n; at = 0; field = 0; wanted = wanted }

abbrev pub told_open : OpenFault → Told
told_open opens.TooLong = told_only STORE_TOO_LONG 0
told_open (opens.Store e) = told_lent (of_store e)
told_open (opens.IndexTooShort wanted) = told_only INDEX_TOO_SHORT wanted

abbrev pub told_install : InstallFault → Told
told_install installs.TooLong = told_only STORE_TOO_LONG 0
told_install (installs.Store e) = told_lent (of_store e)
told_install (installs.Part f) = told_lent (faults.Layout f)
told_install (installs.Refused why) = told_lent (faults.Chain why)
told_install (installs.RoomTooShort wanted) = told_only ROOM_TOO_SHORT wanted

-- ---- stores that are opened

abbrev pub opened_number : Result Opened OpenFault → ℕ
opened_number (Ok o) = DONE
opened_number (Err e) = (told_open e).number

-- by what is told of a fault
abbrev pub opened_by : Told → OpenedFacts
opened_by t =
    record { size = OPENED_SIZE; parts = 0; newest_epoch = 0; index_len = t.wanted; at = t.at; field = t.field }

abbrev pub opened_facts : Result Opened OpenFault → OpenedFacts
opened_facts (Ok o) =
    record {
      size = OPENED_SIZE;
      parts = o.note.parts;
      newest_epoch = o.note.newest_epoch;
      index_len = o.words;
      at = 0;
      field = 0;
    }
opened_facts (Err e) = opened_by (told_open e)

-- ---- parts

abbrev pub kind_number : Kind → ℕ
kind_number kinds.Snapshot = 0
kind_number kinds.Delta = 1

abbrev pub part_number : Result PartNote LayoutFault → ℕ
part_number (Ok note) = DONE
part_number (Err f) = (told_lent (faults.Layout f)).number

abbrev pub part_by : Told → PartFacts
part_by t =
    record {
      size = PART_SIZE;
      kind = 0;
      epoch = 0;
      ranges = 0;
      issuers = 0;
      at = t.at;
      field = t.field;
      trailer = zero_key;
    }

abbrev pub part_facts : Result PartNote LayoutFault → PartFacts
part_facts (Ok note) =
    record {
      size = PART_SIZE;
      kind = kind_number note.kind;
      epoch = note.epoch;
      ranges = note.ranges;
      issuers = note.issuers;
      at = 0;
      field = 0;
      trailer = note.trailer;
    }
part_facts (Err f) = part_by (told_lent (faults.Layout f))

-- ---- stores with a further part

abbrev pub install_number : Result ℕ InstallFault → ℕ
install_number (Ok n) = DONE
install_number (Err e) = (told_install e).number

abbrev pub install_by : Told → InstallFacts
install_by t = record { size = INSTALL_SIZE; length = t.wanted; at = t.at; field = t.field }

abbrev pub install_facts : Result ℕ InstallFault → InstallFacts
install_facts (Ok n) = record { size = INSTALL_SIZE; length = n; at = 0; field = 0 }
install_facts (Err e) = install_by (told_install e)
