-- Records of a job: what is spelled so is read, whatever follows.
use Rattle.std.proofs.Common.{◌≡◌, ℕ, zero, suc, ◌+◌, ◌≤◌, ◌<◌, ◌^◌, true, false, List, [], ◌++◌, length, Option, Some, None, refl, subst, arith}
use Rattle.std.specs.Prelude.{if◌then◌else◌, ◌==◌, ◌||◌, Bool}
use Rattle.std.specs.Int.{w8, w32, to_be_bytes, from_be_bytes}
use Rattle.std.proofs.lemmas.Bool.{le-leb}
use Rattle.octets_core.specs.Layout.{Layout, whole}
use Rattle.octets_core.specs.Numbers.{three_bytes}
use Rattle.octets_core.specs.Reading.{any_key}
use Rattle.octets_core.specs.declared.field.Field.TheVariants as fields
use Rattle.octets_core.proofs.Texts.{IsRead, reads, done, from_front, ends-read, then-read, whole-read, mapped-read, bytes_field-read, number_field-read, wide32}
use Rattle.octets_core.proofs.ThreeBytes.{octets-read, length_of_three-read}
use Rattle.ident_core.specs.declared.range.Range.{Range}
use Rattle.ident_core.specs.RangeText.{range_text, FitsRange}
use Rattle.ident_core.proofs.RangeTexts.{range-read}
use Rattle.job_core.specs.declared.bounds.Limits.{Limits}
use Rattle.job_core.specs.declared.bounds.What.{What}
use Rattle.job_core.specs.declared.bounds.What.TheVariants as what
use Rattle.job_core.specs.declared.fault.JobFault.{JobFault}
use Rattle.job_core.specs.declared.fault.JobFault.TheVariants as faults
use Rattle.job_core.specs.JobLayout.{fielded, is_kind, record_kind, CrlText, crl, EntryText, entry, HeldSoFar, Item, OneRange, OneCrl, OneEntry, at_most}
use Rattle.job_core.specs.JobLayout.{range_item, crl_item, entry_item, item_of, some_of, next_item}
use Rattle.job_core.specs.JobText.{record_text, FitsCrl, FitsEntry, FitsItem}

-- ---- fields

record_kind-read : (previous kind : ℕ) → kind < 256 → is_kind previous kind ≡ true → (before : List ℕ) → IsRead (record_kind previous) before kind (to_be_bytes w8 kind)
unfolding record_kind
record_kind-read previous kind lt passed before =
    let again : from_be_bytes w8 (to_be_bytes w8 kind) ≡ kind = omega arith in
    subst (λ (k : ℕ). IsRead (record_kind previous) before k (to_be_bytes w8 kind)) again
    (ends-read (λ (b : List ℕ). from_be_bytes w8 b) (bytes_field-read _ _ 1 (λ b. is_kind previous (from_be_bytes w8 b)) before (to_be_bytes w8 kind) refl (rw again passed)))

crl-read : (before : List ℕ) (c : CrlText) → FitsCrl c → IsRead crl before c (c.issuer ++ to_be_bytes w32 (length c.bytes) ++ c.bytes)
unfolding crl
crl-read before c fits = from_front
    (reads _ (bytes_field-read _ _ 32 any_key _ c.issuer fits.0 refl)
    (reads _ (number_field-read _ _ w32 (2 ^ 32) 0 67108864 wide32 _ (length c.bytes) (omega arith) fits.1 (omega (arith, fits.1)))
    (reads _ (octets-read fields.CrlBytes _ c.bytes)
    (done c))))

entry-read : (before : List ℕ) (e : EntryText) → FitsEntry e → IsRead entry before e (e.log ++ three_bytes (length e.leaf) ++ e.leaf ++ three_bytes (length e.extra) ++ e.extra)
unfolding entry
entry-read before e fits = from_front
    (reads _ (bytes_field-read _ _ 32 any_key _ e.log fits.0 refl)
    (reads _ (length_of_three-read fields.EntryLeafLength _ (length e.leaf) fits.1)
    (reads _ (octets-read fields.EntryLeaf _ e.leaf)
    (reads _ (length_of_three-read fields.EntryExtraLength _ (length e.extra) fits.2)
    (reads _ (octets-read fields.EntryExtra _ e.extra)
    (done e))))))

-- ---- what they say

at_most-read : (thing : What) (limit count : ℕ) → count ≤ limit → (before : List ℕ) → IsRead (at_most thing limit count) before tt []
at_most-read thing limit count le before = rw (le-leb count limit le) (whole-read before tt)

range_item-read : (limits : Limits) (h : HeldSoFar) (before : List ℕ) (r : Range) → h.ranges + 1 ≤ limits.ranges → FitsRange h.log r
    → IsRead (range_item limits h) before (OneRange r) (range_text r)
unfolding range_item
range_item-read limits h before r room fits = from_front
    (reads _ (at_most-read what.Ranges limits.ranges (h.ranges + 1) room _)
    (reads _ (mapped-read faults.Layout _ _ _ _ (range-read h.log _ r fits))
    (done (OneRange r))))

abbrev pub crl_body : CrlText → List ℕ
crl_body c = c.issuer ++ to_be_bytes w32 (length c.bytes) ++ c.bytes

crl_item-read : (limits : Limits) (h : HeldSoFar) (before : List ℕ) (c : CrlText) → h.crls + 1 ≤ limits.crls → FitsCrl c
    → IsRead (crl_item limits h) before (OneCrl c) (crl_body c)
unfolding crl_item
crl_item-read limits h before c room fits = from_front
    (reads _ (at_most-read what.Crls limits.crls (h.crls + 1) room _)
    (reads _ (mapped-read faults.Layout _ _ _ _ (crl-read _ c fits))
    (done (OneCrl c))))

abbrev pub entry_body : EntryText → List ℕ
entry_body e = e.log ++ three_bytes (length e.leaf) ++ e.leaf ++ three_bytes (length e.extra) ++ e.extra

entry_item-read : (limits : Limits) (h : HeldSoFar) (before : List ℕ) (e : EntryText) → h.entries + 1 ≤ limits.entries → FitsEntry e
    → IsRead (entry_item limits h) before (OneEntry e) (entry_body e)
unfolding entry_item
entry_item-read limits h before e room fits = from_front
    (reads _ (at_most-read what.Entries limits.entries (h.entries + 1) room _)
    (reads _ (mapped-read faults.Layout _ _ _ _ (entry-read _ e fits))
    (done (OneEntry e))))

-- ---- with their kinds

abbrev pub behind_kind : Limits → HeldSoFar → ℕ → Layout JobFault (Option Item)
behind_kind limits h kind = if kind == 0 then whole None else some_of (item_of kind limits h)

or-true : (b : Bool) → (b || true) ≡ true
or-true true = refl
or-true false = refl

-- kinds do not descend
kind-passes : (previous kind : ℕ) → previous ≤ kind → kind ≤ 3 → is_kind previous kind ≡ true
kind-passes previous zero low high = refl
kind-passes previous (suc kind) low high = rw (le-leb previous (suc kind) low, le-leb (suc kind) 3 high) (or-true (suc kind == 0))

kind-read : (previous kind : ℕ) → previous ≤ kind → kind ≤ 3 → (before : List ℕ) → IsRead (fielded (record_kind previous)) before kind (to_be_bytes w8 kind)
kind-read previous kind low high before = mapped-read faults.Layout _ _ _ _ (record_kind-read previous kind (omega (arith, high)) (kind-passes previous kind low high) before)

kind-then : (limits : Limits) (h : HeldSoFar) (before : List ℕ) (kind : ℕ) (x : Item) (t : List ℕ) → h.kind ≤ kind → kind ≤ 3
    → IsRead (behind_kind limits h kind) (before ++ to_be_bytes w8 kind) (Some x) t → IsRead (next_item limits h) before (Some x) (to_be_bytes w8 kind ++ t)
unfolding next_item
kind-then limits h before kind x t low high one = then-read (fielded (record_kind h.kind)) (behind_kind limits h) before kind (Some x) (to_be_bytes w8 kind) t
    (kind-read h.kind kind low high before) one

some-read : (layout : Layout JobFault Item) (before : List ℕ) (x : Item) (t : List ℕ) → IsRead layout before x t → IsRead (some_of layout) before (Some x) t
some-read layout before x t one = ends-read (λ (y : Item). Some y) one

-- a record that fits is the next
pub next-read : (limits : Limits) (h : HeldSoFar) (before : List ℕ) (x : Item) → FitsItem limits h x → IsRead (next_item limits h) before (Some x) (record_text x)
next-read limits h before (OneRange r) fits =
    kind-then limits h before 1 (OneRange r) (range_text r) fits.1 (omega arith) (some-read (range_item limits h) _ (OneRange r) (range_text r) (range_item-read limits h _ r fits.2 fits.0))
next-read limits h before (OneCrl c) fits =
    kind-then limits h before 2 (OneCrl c) (crl_body c) fits.1 (omega arith) (some-read (crl_item limits h) _ (OneCrl c) (crl_body c) (crl_item-read limits h _ c fits.2 fits.0))
next-read limits h before (OneEntry e) fits =
    kind-then limits h before 3 (OneEntry e) (entry_body e) fits.1 (omega arith) (some-read (entry_item limits h) _ (OneEntry e) (entry_body e) (entry_item-read limits h _ e fits.2 fits.0))

-- the end of a job, behind any record
pub next-none : (limits : Limits) (h : HeldSoFar) (before : List ℕ) → IsRead (next_item limits h) before None (to_be_bytes w8 0)
unfolding next_item
next-none limits h before =
    then-read (fielded (record_kind h.kind)) (behind_kind limits h) before 0 None (to_be_bytes w8 0) []
    (mapped-read faults.Layout _ _ _ _ (record_kind-read h.kind 0 (omega arith) refl before)) (whole-read _ None)
