-- What ranges that were read keep.
use Rattle.std.proofs.Common.{◌≡◌, ℕ, ◌-◌, ◌^◌, List, length, Option, Some, None, Ok, subst}
use Rattle.std.specs.Int.{w64}
use Rattle.octets_core.specs.Layout.{◌>>=◌, whole}
use Rattle.octets_core.specs.Linked.{is_after}
use Rattle.octets_core.specs.Reading.{number, key}
use Rattle.octets_core.proofs.Fields.{then_read-ok, ok_is, bytes_field-ok, number_field-ok, repeated-ok}
use Rattle.octets_core.specs.declared.field.Field.TheVariants as fields
use Rattle.octets_core.specs.declared.fault.LayoutFault.{LayoutFault}
use Rattle.ident_core.specs.declared.range.Range.{Range}
use Rattle.ident_core.specs.Coverage.{IsRangeAfter, AreRanges}
use Rattle.ident_core.specs.RangeLayout.{range, ranges}

range-ok : (previous : Option (List ℕ)) (bytes : List ℕ) (at : ℕ) (x : Range × ℕ) → range previous bytes at ≡ Ok x → IsRangeAfter previous x.0
unfolding range
range-ok previous bytes at x h =
    let a = then_read-ok (key fields.RangeLog (is_after previous) bytes at)
    (λ log. number fields.RangeFrom w64 0 (2 ^ 64 - 1) >>= λ from. number fields.RangeTo w64 from (2 ^ 64 - 1) >>= λ to. whole
    (record { log = log; from = from; to = to })) bytes x h in
    let b = then_read-ok (number fields.RangeFrom w64 0 (2 ^ 64 - 1) bytes a.0.1)
    (λ from. number fields.RangeTo w64 from (2 ^ 64 - 1) >>= λ to. whole (record { log = a.0.0; from = from; to = to })) bytes x a.2 in
    let c = then_read-ok (number fields.RangeTo w64 b.0.0 (2 ^ 64 - 1) bytes b.0.1) (λ to. whole (record { log = a.0.0; from = b.0.0; to = to })) bytes x b.2 in
    let log = bytes_field-ok _ _ 32 (is_after previous) bytes at a.0 a.1 in
    let to = number_field-ok _ _ w64 b.0.0 (2 ^ 64 - 1) bytes b.0.1 c.0 c.1 in
    let made : Range × ℕ = (record { log = a.0.0; from = b.0.0; to = c.0.0 }, c.0.1) in
    subst (λ (y : Range × ℕ). IsRangeAfter previous y.0) (ok_is {E = LayoutFault} made x c.2) (rw (← log.value) log.passed, to.from_low)

pub ranges-ok : (count : ℕ) (bytes : List ℕ) (at : ℕ) (y : List Range × ℕ) → ranges count bytes at ≡ Ok y → AreRanges y.0 × (length y.0 ≡ count)
ranges-ok count bytes at y h = repeated-ok range (λ previous r. Some r.log) IsRangeAfter range-ok count None bytes at y h
