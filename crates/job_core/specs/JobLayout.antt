-- The layout of a job, line by line as in docs/FORMATS.md.
use Rattle.std.specs.Prelude.{ℕ, zero, suc, ◌+◌, ◌-◌, ◌^◌, List, [], ◌∷◌, length, Bool, ◌||◌, ◌==◌, nat_le}
use Rattle.std.specs.Prelude.{if◌then◌else◌, Result, Ok, Err, Option, Some, None, codes}
use Rattle.std.specs.Int.{w8, w32, w64, from_be_bytes}
use Rattle.octets_core.specs.Layout.{Layout, ◌>>=◌, whole, refused, mapped, within, bytes_field}
use Rattle.octets_core.specs.Reading.{fault_at, number, octets, length_of_three, key, any_key, magic, end}
use Rattle.octets_core.specs.declared.field.Field.TheVariants as fields
use Rattle.octets_core.specs.declared.fault.Why.TheVariants as why
use Rattle.octets_core.specs.declared.fault.LayoutFault.{LayoutFault}
use Rattle.ident_core.specs.declared.range.Range.{Range}
use Rattle.ident_core.specs.RangeLayout.{range}
use Rattle.crl_core.specs.declared.crl.CrlFault.{CrlFault}
use Rattle.crl_core.specs.Outcome.{CrlFields, outcome}
use Rattle.log_core.specs.declared.Entry.{Entry}
use Rattle.log_core.specs.Entries.{entry_of}
use Rattle.job_core.specs.declared.bounds.Limits.{Limits}
use Rattle.job_core.specs.declared.bounds.What.{What}
use Rattle.job_core.specs.declared.bounds.What.TheVariants as what
use Rattle.job_core.specs.declared.records.TheConstants.{MAX_CRL}
use Rattle.job_core.specs.declared.fault.JobFault.{JobFault}
use Rattle.job_core.specs.declared.fault.JobFault.TheVariants as faults
use Rattle.job_core.specs.JobFields.{CrlMeaning}

-- a layout whose faults are those of its fields
abbrev pub fielded : {A : Type 0} → Layout LayoutFault A → Layout JobFault A
fielded layout = mapped faults.Layout layout

-- 0 ends a job; ranges, CRLs and entries, which have the kinds 1 to 3, stand in this order
abbrev pub is_kind : ℕ → ℕ → Bool
is_kind previous kind = kind == 0 || within previous 3 kind

-- behind a record of the previous kind
unfoldable pub record_kind : ℕ → Layout LayoutFault ℕ
record_kind previous = do
  byte ← bytes_field (fault_at why.Short fields.RecordKind) (fault_at why.Value fields.RecordKind) 1 (λ b.
      is_kind previous (from_be_bytes w8 b))
  whole (from_be_bytes w8 byte)

-- a CRL as it stands in a job
pub record CrlText : Type 0 where
  pub issuer : List ℕ
  pub bytes : List ℕ

unfoldable pub crl : Layout LayoutFault CrlText
crl = do
  issuer ← key fields.CrlIssuer any_key
  width ← number fields.CrlLength w32 0 MAX_CRL
  bytes ← octets fields.CrlBytes width
  whole (record { issuer = issuer; bytes = bytes })

-- an entry as it stands in a job
pub record EntryText : Type 0 where
  pub log : List ℕ
  pub leaf : List ℕ
  pub extra : List ℕ

unfoldable pub entry : Layout LayoutFault EntryText
entry = do
  log ← key fields.EntryLog any_key
  leaf_width ← length_of_three fields.EntryLeafLength
  leaf ← octets fields.EntryLeaf leaf_width
  extra_width ← length_of_three fields.EntryExtraLength
  extra ← octets fields.EntryExtra extra_width
  whole (record { log = log; leaf = leaf; extra = extra })

-- a record as it stands
pub data Item : Type 0 where
  OneRange : Range → Item
  OneCrl : CrlText → Item
  OneEntry : EntryText → Item

-- What is held of the records so far: the last one's kind, the last range's log, and how many there are of each kind.
pub record HeldSoFar : Type 0 where
  pub kind : ℕ
  pub log : Option (List ℕ)
  pub ranges : ℕ
  pub crls : ℕ
  pub entries : ℕ

-- before the first record
abbrev pub nothing_held : HeldSoFar
nothing_held = record { kind = 0; log = None; ranges = 0; crls = 0; entries = 0 }

-- with one record more
abbrev pub with_item : HeldSoFar → Item → HeldSoFar
with_item h (OneRange r) = record { kind = 1; log = Some r.log; ranges = h.ranges + 1; crls = h.crls; entries = h.entries }
with_item h (OneCrl c) = record { kind = 2; log = h.log; ranges = h.ranges; crls = h.crls + 1; entries = h.entries }
with_item h (OneEntry e) = record { kind = 3; log = h.log; ranges = h.ranges; crls = h.crls; entries = h.entries + 1 }

-- no more of them than the limit
abbrev pub at_most : What → ℕ → ℕ → Layout JobFault (Unit {0})
at_most thing limit count = if nat_le count limit then whole tt else refused (faults.TooMany thing limit)

unfoldable pub range_item : Limits → HeldSoFar → Layout JobFault Item
range_item limits h = do
  room ← at_most what.Ranges limits.ranges (h.ranges + 1)
  r ← fielded (range h.log)
  whole (OneRange r)

unfoldable pub crl_item : Limits → HeldSoFar → Layout JobFault Item
crl_item limits h = do
  room ← at_most what.Crls limits.crls (h.crls + 1)
  c ← fielded crl
  whole (OneCrl c)

unfoldable pub entry_item : Limits → HeldSoFar → Layout JobFault Item
entry_item limits h = do
  room ← at_most what.Entries limits.entries (h.entries + 1)
  e ← fielded entry
  whole (OneEntry e)

-- behind a kind
abbrev pub item_of : ℕ → Limits → HeldSoFar → Layout JobFault Item
item_of kind limits h = if kind == 1 then range_item limits h else if kind == 2 then crl_item limits h else entry_item limits h

abbrev pub some_of : {A : Type 0} → Layout JobFault A → Layout JobFault (Option A)
some_of layout = do
  x ← layout
  whole (Some x)

-- a record behind those so far; none, where the job ends
unfoldable pub next_item : Limits → HeldSoFar → Layout JobFault (Option Item)
next_item limits h = do
  kind ← fielded (record_kind h.kind)
  if kind == 0 then whole None else some_of (item_of kind limits h)

-- ---- serials

-- how many serials of a CRL are kept: of one that isn't taken, none
abbrev pub kept : Result CrlFields CrlFault → ℕ
kept (Ok crl) = length crl.serials
kept (Err e) = 0

-- how many the bytes of a CRL bring
abbrev pub serials_of : List ℕ → ℕ
serials_of bytes = kept (outcome bytes)

-- with those of one record more
abbrev pub with_serials : (List ℕ → ℕ) → ℕ → Item → ℕ
with_serials brings serials (OneRange r) = serials
with_serials brings serials (OneCrl c) = serials + brings c.bytes
with_serials brings serials (OneEntry e) = serials

-- ---- all records

-- no byte is left for a kind
abbrev pub short_kind : {A : Type 0} → Layout JobFault A
short_kind bytes at = Err (faults.Layout (fault_at why.Short fields.RecordKind at))

-- a record with those behind it, where the serials that are kept of all CRLs so far are no more than the limit
abbrev pub with_others : (List ℕ → ℕ) → (HeldSoFar → ℕ → Layout JobFault (List Item)) → Limits → HeldSoFar → ℕ → Option Item
    → Layout JobFault (List Item)
with_others brings others limits h serials None = whole []
with_others brings others limits h serials (Some x) = do
  few ← at_most what.Serials limits.serials (with_serials brings serials x)
  xs ← others (with_item h x) (with_serials brings serials x)
  whole (x ∷ xs)

-- Records, each of one byte or more, up to the one that ends the job. The number is the most that is read; what is read
-- doesn't depend on it, and `a_job_is_its_text` says it over texts.
unfoldable pub records_within : (List ℕ → ℕ) → ℕ → Limits → HeldSoFar → ℕ → Layout JobFault (List Item)
records_within brings zero limits h serials = short_kind
records_within brings (suc n) limits h serials = do
  x ← next_item limits h
  with_others brings (records_within brings n limits) limits h serials x

abbrev pub records : (List ℕ → ℕ) → Limits → HeldSoFar → ℕ → Layout JobFault (List Item)
records brings limits h serials bytes at = records_within brings (length bytes - at) limits h serials bytes at

-- ---- the job

-- the epoch and the moment, which stand before the records
unfoldable pub opening : Layout LayoutFault (ℕ × ℕ)
opening = do
  begin ← magic fields.JobMagic (codes "CLUBJOB1")
  epoch ← number fields.JobEpoch w64 0 (2 ^ 64 - 1)
  moment ← number fields.JobMoment w64 0 (2 ^ 64 - 1)
  whole (epoch, moment)

-- what stands in a job
pub record JobTexts : Type 0 where
  pub epoch : ℕ
  pub moment : ℕ
  pub items : List Item

-- By how many serials a CRL brings: those that reading it keeps, or none where CRLs aren't read.
unfoldable pub job : (List ℕ → ℕ) → Limits → Layout JobFault JobTexts
job brings limits = do
  o ← fielded opening
  xs ← records brings limits nothing_held 0
  over ← fielded end
  whole (record { epoch = o.0; moment = o.1; items = xs })

-- ---- what it says

abbrev pub crl_meaning : CrlText → CrlMeaning
crl_meaning c = record { issuer = c.issuer; outcome = outcome c.bytes }

-- an entry that can't be read is none
abbrev pub entry_meaning : EntryText → Option Entry
entry_meaning e = entry_of e.log e.leaf e.extra
