-- The text of what a job holds: the bytes that the layout of a job reads as it; and which raw jobs have one.
use Rattle.std.specs.Prelude.{◌≡◌, ℕ, ◌+◌, ◌≤◌, ◌<◌, ◌^◌, List, [], ◌∷◌, ◌++◌, length, codes, map, flat_map, All}
use Rattle.std.specs.Prelude.{Some, None, Result, Ok, Err}
use Rattle.std.specs.Int.{w8, w32, w64, to_be_bytes}
use Rattle.octets_core.specs.Linked.{Linked}
use Rattle.octets_core.specs.Numbers.{three_bytes}
use Rattle.ident_core.specs.declared.range.Range.{Range}
use Rattle.ident_core.specs.Coverage.{RangesFit}
use Rattle.ident_core.specs.RangeText.{range_text, FitsRange}
use Rattle.job_core.specs.declared.bounds.Limits.{Limits}
use Rattle.job_core.specs.declared.bounds.TheConstants.Limits as limits
use Rattle.job_core.specs.declared.records.TheConstants.{MAX_CRL}
use Rattle.job_core.specs.declared.raw.RawCrl.{RawCrl}
use Rattle.job_core.specs.declared.raw.RawEntry.{RawEntry}
use Rattle.job_core.specs.declared.raw.RawJob.{RawJob}
use Rattle.job_core.specs.JobLayout.{CrlText, EntryText, Item, OneRange, OneCrl, OneEntry, HeldSoFar, with_item, with_serials}
use Rattle.job_core.specs.JobLayout.{JobTexts}

-- what the records of a job hold, in their order, with CRLs and entries as they stand
pub record JobContents : Type 0 where
  pub epoch : ℕ
  pub moment : ℕ
  pub ranges : List Range
  pub crls : List CrlText
  pub entries : List EntryText

-- each record with its kind

abbrev pub range_record : Range → List ℕ
range_record r = to_be_bytes w8 1 ++ range_text r

abbrev pub crl_record : CrlText → List ℕ
crl_record c = to_be_bytes w8 2 ++ (c.issuer ++ to_be_bytes w32 (length c.bytes) ++ c.bytes)

abbrev pub entry_record : EntryText → List ℕ
entry_record e = to_be_bytes w8 3 ++ (e.log ++ three_bytes (length e.leaf) ++ e.leaf ++ three_bytes (length e.extra) ++ e.extra)

abbrev pub record_text : Item → List ℕ
record_text (OneRange r) = range_record r
record_text (OneCrl c) = crl_record c
record_text (OneEntry e) = entry_record e

abbrev pub opening_text : ℕ → ℕ → List ℕ
opening_text epoch moment = codes "CLUBJOB1" ++ to_be_bytes w64 epoch ++ to_be_bytes w64 moment

unfoldable pub spelling : JobContents → List ℕ
spelling j =
    codes "CLUBJOB1" ++ to_be_bytes w64 j.epoch ++ to_be_bytes w64 j.moment
    ++ flat_map range_record j.ranges ++ flat_map crl_record j.crls ++ flat_map entry_record j.entries ++ to_be_bytes w8 0

-- ---- what records hold, each kind by itself

abbrev pub ranges_in : List Item → List Range
ranges_in [] = []
ranges_in (OneRange r ∷ xs) = r ∷ ranges_in xs
ranges_in (OneCrl c ∷ xs) = ranges_in xs
ranges_in (OneEntry e ∷ xs) = ranges_in xs

abbrev pub crls_in : List Item → List CrlText
crls_in [] = []
crls_in (OneRange r ∷ xs) = crls_in xs
crls_in (OneCrl c ∷ xs) = c ∷ crls_in xs
crls_in (OneEntry e ∷ xs) = crls_in xs

abbrev pub entries_in : List Item → List EntryText
entries_in [] = []
entries_in (OneRange r ∷ xs) = entries_in xs
entries_in (OneCrl c ∷ xs) = entries_in xs
entries_in (OneEntry e ∷ xs) = e ∷ entries_in xs

abbrev pub contents_in : JobTexts → JobContents
contents_in t = record {
  epoch = t.epoch;
  moment = t.moment;
  ranges = ranges_in t.items;
  crls = crls_in t.items;
  entries = entries_in t.items;
}

-- ---- which contents have a text

-- the issuer is a key, and the bytes are the most of a CRL or fewer
abbrev pub FitsCrl : CrlText → Type 0
FitsCrl c = (length c.issuer ≡ 32) × (length c.bytes ≤ MAX_CRL)

-- the log is a key, and the lengths have three bytes
abbrev pub FitsEntry : EntryText → Type 0
FitsEntry e = (length e.log ≡ 32) × (length e.leaf < 2 ^ 24) × (length e.extra < 2 ^ 24)

-- the limits but that of serials, and values that fit their fields
pub record FitsJob (limits : Limits) (j : JobContents) : Type 0 where
  pub epoch : j.epoch < 2 ^ 64
  pub moment : j.moment < 2 ^ 64
  pub few_ranges : length j.ranges ≤ limits.ranges
  pub ranges : Linked FitsRange (λ previous r. Some r.log) None j.ranges
  pub few_crls : length j.crls ≤ limits.crls
  pub crls : All FitsCrl j.crls
  pub few_entries : length j.entries ≤ limits.entries
  pub entries : All FitsEntry j.entries

-- ---- which records pass behind those before them

-- its kind doesn't descend, there are no more of its kind than the limit, and its values fit their fields
abbrev pub FitsItem : Limits → HeldSoFar → Item → Type 0
FitsItem limits h (OneRange r) = FitsRange h.log r × (h.kind ≤ 1) × (h.ranges + 1 ≤ limits.ranges)
FitsItem limits h (OneCrl c) = FitsCrl c × (h.kind ≤ 2) × (h.crls + 1 ≤ limits.crls)
FitsItem limits h (OneEntry e) = FitsEntry e × (h.kind ≤ 3) × (h.entries + 1 ≤ limits.entries)

-- each of them fits, and brings no more serials than there may be
abbrev pub Pass : (List ℕ → ℕ) → Limits → HeldSoFar → ℕ → List Item → Type 0
Pass brings limits h serials [] = Unit {0}
Pass brings limits h serials (x ∷ xs) =
    FitsItem limits h x × (with_serials brings serials x ≤ limits.serials)
    × Pass brings limits (with_item h x) (with_serials brings serials x) xs

-- what is held behind them, and how many serials they brought
abbrev pub held_behind : HeldSoFar → List Item → HeldSoFar
held_behind h [] = h
held_behind h (x ∷ xs) = held_behind (with_item h x) xs

abbrev pub serials_behind : (List ℕ → ℕ) → ℕ → List Item → ℕ
serials_behind brings serials [] = serials
serials_behind brings serials (x ∷ xs) = serials_behind brings (with_serials brings serials x) xs

-- the records before those that are read
abbrev pub behind : {E : Type 0} → List Item → Result (List Item × ℕ) E → Result (List Item × ℕ) E
behind xs (Ok x) = Ok (xs ++ x.0, x.1)
behind xs (Err e) = Err e

-- ---- the same of the types of the code

abbrev pub crl_held : RawCrl → CrlText
crl_held c = record { issuer = c.issuer; bytes = c.bytes.items }

abbrev pub entry_held : RawEntry → EntryText
entry_held e = record { log = e.log; leaf = e.leaf.items; extra = e.extra.items }

abbrev pub contents_of : RawJob → JobContents
contents_of j = record {
  epoch = j.epoch;
  moment = j.moment;
  ranges = j.ranges.items;
  crls = map crl_held j.crls.items;
  entries = map entry_held j.entries.items;
}

-- a CRL of the longest length or less
abbrev pub CrlFits : RawCrl → Type 0
CrlFits c = length c.bytes.items ≤ MAX_CRL

-- lengths of three bytes
abbrev pub EntryFits : RawEntry → Type 0
EntryFits e = (length e.leaf.items < 2 ^ 24) × (length e.extra.items < 2 ^ 24)

-- the published limits, ranges as a part holds them, and lengths that fit their fields
pub record JobFits (j : RawJob) : Type 0 where
  pub ranges : RangesFit j.ranges.items
  pub few_crls : length j.crls.items ≤ limits.PUBLISHED.crls
  pub crls : All CrlFits j.crls.items
  pub few_entries : length j.entries.items ≤ limits.PUBLISHED.entries
  pub entries : All EntryFits j.entries.items
