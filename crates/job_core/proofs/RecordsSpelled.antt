-- Records of a job: what is read is spelled so.
use Rattle.std.proofs.Common.{◌≡◌, ℕ, zero, suc, ◌+◌, ◌≤◌, ◌^◌, Bool, true, false, List, ◌++◌, length, Option, Some, None, refl, sym, ap, subst, arith, inl, inr}
use Rattle.std.specs.Prelude.{nat_le, ◌==◌, ◌&&◌, ◌||◌}
use Rattle.std.specs.Int.{w8, w32, to_be_bytes, from_be_bytes}
use Rattle.std.proofs.lemmas.Bool.{cases_lt, le-leb, lt-leb, leb-true, and_parts, ne_eqb}
use Rattle.octets_core.specs.Layout.{Layout, bytes_field}
use Rattle.octets_core.specs.Numbers.{three_bytes}
use Rattle.octets_core.specs.Reading.{any_key}
use Rattle.octets_core.specs.declared.field.Field.TheVariants as fields
use Rattle.octets_core.proofs.Fields.{bytes_field-ok}
use Rattle.octets_core.proofs.Texts.{IsBytes, IsBytes-piece, Takes, Takes-as, ◌>>>◌, Leaves, ◌>>-◌, whole-leaves, mapped-leaves, bytes_field-leaves, number_field-leaves, wide8, wide32}
use Rattle.octets_core.proofs.ThreeBytes.{octets-leaves, length_of_three-leaves}
use Rattle.ident_core.specs.RangeLayout.{range}
use Rattle.ident_core.proofs.RangeTexts.{range-leaves}
use Rattle.job_core.specs.declared.bounds.Limits.{Limits}
use Rattle.job_core.specs.declared.bounds.What.{What}
use Rattle.job_core.specs.declared.bounds.What.TheVariants as what
use Rattle.job_core.specs.declared.fault.JobFault.{JobFault}
use Rattle.job_core.specs.declared.fault.JobFault.TheVariants as faults
use Rattle.job_core.specs.JobLayout.{is_kind, record_kind, crl, entry, HeldSoFar, Item, OneRange, OneCrl, OneEntry, at_most, range_item, crl_item, entry_item, some_of, next_item}
use Rattle.job_core.specs.JobText.{record_text, FitsCrl, FitsEntry, FitsItem}
use Rattle.job_core.proofs.RecordTexts.{behind_kind, crl_body, entry_body}

-- ---- fields

abbrev kind_test : ℕ → List ℕ → Bool
kind_test previous b = is_kind previous (from_be_bytes w8 b)

byte-leaves : {E : Type 0} (short wrong : ℕ → E) (previous : ℕ) (bytes : List ℕ) → IsBytes bytes → (at : ℕ)
    → Leaves (bytes_field short wrong 1 (kind_test previous)) bytes at (λ x q. Takes bytes at x q × (length x ≡ 1) × (kind_test previous x ≡ true) × IsBytes x)
byte-leaves short wrong previous bytes fits at = record {
  each = λ x h.
      let f = (bytes_field-leaves short wrong 1 (kind_test previous) bytes at).each x h in
      let is = bytes_field-ok short wrong 1 (kind_test previous) bytes at x h in
      (f.takes, f.len, f.passed, subst IsBytes is.value (IsBytes-piece 1 bytes at fits));
}

kind-leaves : (previous : ℕ) (bytes : List ℕ) → IsBytes bytes → (at : ℕ) → Leaves (record_kind previous) bytes at (λ k q. Takes bytes at (to_be_bytes w8 k) q × (is_kind previous k ≡ true))
unfolding record_kind
kind-leaves previous bytes fits at =
    byte-leaves _ _ previous bytes fits at >>- λ byte q a.
    whole-leaves (from_be_bytes w8 byte) bytes q _ (Takes-as byte (to_be_bytes w8 (from_be_bytes w8 byte)) (sym (wide8.back byte a.1 a.3)) a.0, a.2)

crl-leaves : (bytes : List ℕ) → IsBytes bytes → (at : ℕ) → Leaves crl bytes at (λ c q. Takes bytes at (crl_body c) q × FitsCrl c)
unfolding crl
crl-leaves bytes fits at =
    bytes_field-leaves _ _ 32 any_key bytes at >>- λ issuer p a.
    number_field-leaves _ _ w32 (2 ^ 32) 0 67108864 wide32 bytes fits p >>- λ width q b.
    octets-leaves fields.CrlBytes width bytes q >>- λ text end c.
    whole-leaves (record { issuer = issuer; bytes = text }) bytes end _ (
      a.takes >>> Takes-as (to_be_bytes w32 width) (to_be_bytes w32 (length text)) (ap (to_be_bytes w32) (sym c.1)) b.takes >>> c.0,
      (a.len, omega (arith, c.1, b.to_high)),
    )

entry-leaves : (bytes : List ℕ) → IsBytes bytes → (at : ℕ) → Leaves entry bytes at (λ e q. Takes bytes at (entry_body e) q × FitsEntry e)
unfolding entry
entry-leaves bytes fits at =
    bytes_field-leaves _ _ 32 any_key bytes at >>- λ log p a.
    length_of_three-leaves fields.EntryLeafLength bytes fits p >>- λ leaf_width q b.
    octets-leaves fields.EntryLeaf leaf_width bytes q >>- λ leaf r c.
    length_of_three-leaves fields.EntryExtraLength bytes fits r >>- λ extra_width u d.
    octets-leaves fields.EntryExtra extra_width bytes u >>- λ extra end e.
    whole-leaves (record { log = log; leaf = leaf; extra = extra }) bytes end _ (
      a.takes
          >>> Takes-as (three_bytes leaf_width) (three_bytes (length leaf)) (ap three_bytes (sym c.1)) b.0
          >>> c.0
          >>> Takes-as (three_bytes extra_width) (three_bytes (length extra)) (ap three_bytes (sym e.1)) d.0
          >>> e.0,
      (a.len, omega (arith, c.1, b.1), omega (arith, e.1, d.1)),
    )

-- ---- a record, and where it lies

abbrev pub Says : Limits → HeldSoFar → List ℕ → ℕ → Option Item → ℕ → Type 0
Says limits h bytes at None q = Takes bytes at (to_be_bytes w8 0) q
Says limits h bytes at (Some x) q = Takes bytes at (record_text x) q × FitsItem limits h x

pub at_most-leaves : (thing : What) (limit count : ℕ) (bytes : List ℕ) (at : ℕ) → Leaves (at_most thing limit count) bytes at (λ u q. (q ≡ at) × (count ≤ limit))
at_most-leaves thing limit count bytes at =
    elim (cases_lt limit count) [
      | inl over ↦ rw (lt-leb count limit over) (record { each = λ x h. absurd cc })
      | inr le ↦ rw (le-leb count limit le) (whole-leaves tt bytes at _ (refl, le))
    ]

-- from the place of the kind
from_kind : (bytes : List ℕ) (at p q r : ℕ) (k t : List ℕ) → Takes bytes at k p → q ≡ p → Takes bytes q t r → Takes bytes at (k ++ t) r
from_kind bytes at p q r k t one same two = one >>> subst (λ (n : ℕ). Takes bytes n t r) same two

range_item-leaves : (limits : Limits) (h : HeldSoFar) (bytes : List ℕ) → IsBytes bytes → (at p : ℕ) → Takes bytes at (to_be_bytes w8 1) p → h.kind ≤ 1
    → Leaves (range_item limits h) bytes p (λ x q. Says limits h bytes at (Some x) q)
unfolding range_item
range_item-leaves limits h bytes fits at p one low =
    at_most-leaves what.Ranges limits.ranges (h.ranges + 1) bytes p >>- λ room q a.
    mapped-leaves faults.Layout (range h.log) bytes q _ (range-leaves bytes fits h.log q) >>- λ r end b.
    whole-leaves (OneRange r) bytes end _ (from_kind bytes at p q end _ _ one a.0 b.0, (b.1, low, a.1))

crl_item-leaves : (limits : Limits) (h : HeldSoFar) (bytes : List ℕ) → IsBytes bytes → (at p : ℕ) → Takes bytes at (to_be_bytes w8 2) p → h.kind ≤ 2
    → Leaves (crl_item limits h) bytes p (λ x q. Says limits h bytes at (Some x) q)
unfolding crl_item
crl_item-leaves limits h bytes fits at p one low =
    at_most-leaves what.Crls limits.crls (h.crls + 1) bytes p >>- λ room q a.
    mapped-leaves faults.Layout crl bytes q _ (crl-leaves bytes fits q) >>- λ c end b.
    whole-leaves (OneCrl c) bytes end _ (from_kind bytes at p q end _ _ one a.0 b.0, (b.1, low, a.1))

entry_item-leaves : (limits : Limits) (h : HeldSoFar) (bytes : List ℕ) → IsBytes bytes → (at p : ℕ) → Takes bytes at (to_be_bytes w8 3) p → h.kind ≤ 3
    → Leaves (entry_item limits h) bytes p (λ x q. Says limits h bytes at (Some x) q)
unfolding entry_item
entry_item-leaves limits h bytes fits at p one low =
    at_most-leaves what.Entries limits.entries (h.entries + 1) bytes p >>- λ room q a.
    mapped-leaves faults.Layout entry bytes q _ (entry-leaves bytes fits q) >>- λ e end b.
    whole-leaves (OneEntry e) bytes end _ (from_kind bytes at p q end _ _ one a.0 b.0, (b.1, low, a.1))

some-leaves : (limits : Limits) (h : HeldSoFar) (layout : Layout JobFault Item) (bytes : List ℕ) (at p : ℕ)
    → Leaves layout bytes p (λ x q. Says limits h bytes at (Some x) q) → Leaves (some_of layout) bytes p (Says limits h bytes at)
some-leaves limits h layout bytes at p one = one >>- λ x q said. whole-leaves (Some x) bytes q _ said

-- ---- kinds

kind-tells : (previous kind : ℕ) (b : Bool) → b ≡ false → (b || (nat_le previous kind && nat_le kind 3)) ≡ true → (previous ≤ kind) × (kind ≤ 3)
kind-tells previous kind true not h = absurd cc
kind-tells previous kind false not h =
    let both = and_parts (nat_le previous kind) (nat_le kind 3) h in
    (leb-true previous kind both.0, leb-true kind 3 both.1)

behind-leaves : (limits : Limits) (h : HeldSoFar) (bytes : List ℕ) → IsBytes bytes → (at p kind : ℕ) → Takes bytes at (to_be_bytes w8 kind) p → is_kind h.kind kind ≡ true
    → Leaves (behind_kind limits h kind) bytes p (Says limits h bytes at)
behind-leaves limits h bytes fits at p zero one passed = whole-leaves None bytes p _ one
behind-leaves limits h bytes fits at p (suc zero) one passed =
    some-leaves limits h (range_item limits h) bytes at p (range_item-leaves limits h bytes fits at p one (kind-tells h.kind 1 false refl passed).0)
behind-leaves limits h bytes fits at p (suc (suc zero)) one passed =
    some-leaves limits h (crl_item limits h) bytes at p (crl_item-leaves limits h bytes fits at p one (kind-tells h.kind 2 false refl passed).0)
behind-leaves limits h bytes fits at p (suc (suc (suc zero))) one passed =
    some-leaves limits h (entry_item limits h) bytes at p (entry_item-leaves limits h bytes fits at p one (kind-tells h.kind 3 false refl passed).0)
behind-leaves limits h bytes fits at p (suc (suc (suc (suc k)))) one passed =
    let few = (kind-tells h.kind (suc (suc (suc (suc k)))) (suc (suc (suc (suc k))) == 0) (ne_eqb (suc (suc (suc (suc k)))) 0 (omega arith)) passed).1 in
    absurd (omega (arith, few))

pub next-leaves : (limits : Limits) (h : HeldSoFar) (bytes : List ℕ) → IsBytes bytes → (at : ℕ) → Leaves (next_item limits h) bytes at (Says limits h bytes at)
unfolding next_item
next-leaves limits h bytes fits at =
    mapped-leaves faults.Layout (record_kind h.kind) bytes at _ (kind-leaves h.kind bytes fits at) >>- λ kind p a. behind-leaves limits h bytes fits at p kind a.0 a.1
