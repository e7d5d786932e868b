-- A job's faults lie within its bytes, and are of its fields or its limits.
use Rattle.std.proofs.Common.{◌≡◌, ℕ, zero, suc, ◌+◌, ◌≤◌, ◌-◌, ◌^◌, Bool, true, false, List, [], ◌∷◌, length, Option, Some, None, Result, Ok, Err, refl, subst, arith, IfErr}
use Rattle.std.specs.Prelude.{nat_le, if◌then◌else◌}
use Rattle.std.specs.Int.{Width, w32, w64}
use Rattle.octets_core.specs.Layout.{Layout, ◌>>=◌, whole, refused}
use Rattle.octets_core.specs.Linked.{is_after}
use Rattle.octets_core.specs.Reading.{GivesUnless, fault_at, number, length_of_three, end}
use Rattle.octets_core.proofs.Bounds.{IsWithin, IsBounded, bytes_field-bounded, number_field-bounded, whole-bounded, mapped-bounded, ◌>>>◌}
use Rattle.octets_core.specs.declared.field.Field.{Field}
use Rattle.octets_core.specs.declared.field.Field.TheVariants as fields
use Rattle.octets_core.specs.declared.fault.Why.TheVariants as why
use Rattle.octets_core.specs.declared.fault.LayoutFault.{LayoutFault}
use Rattle.ident_core.specs.RangeLayout.{range}
use Rattle.job_core.specs.declared.bounds.Limits.{Limits}
use Rattle.job_core.specs.declared.bounds.What.{What}
use Rattle.job_core.specs.declared.bounds.What.TheVariants as what
use Rattle.job_core.specs.declared.fault.JobFault.{JobFault}
use Rattle.job_core.specs.declared.fault.JobFault.TheVariants as faults
use Rattle.job_core.specs.JobFields.{JobFields}
use Rattle.job_core.specs.JobLayout.{fielded, record_kind, crl, entry, HeldSoFar, nothing_held, Item, at_most, range_item, crl_item, entry_item, item_of}
use Rattle.job_core.specs.JobLayout.{next_item, with_item, serials_of, with_serials, with_others, records_within, records, opening, job}
use Rattle.job_core.specs.JobMeaning.{IsJobOf, job_of}
use Rattle.job_core.specs.Pulling.{IsOfBytes, AnswersJob}
use Rattle.job_core.proofs.JobSpelled.{read-fault}
use Rattle.job_core.specs.Offsets.{offset_in_job}

abbrev offset : LayoutFault → ℕ
offset f = f.at

-- where a fault of a field or a limit stands; any other stands at n
abbrev place : ℕ → JobFault → ℕ
place n (faults.Layout f) = f.at
place n (faults.TooMany thing limit) = 0
place n faults.ReadFault = n
place n faults.NoMemory = n

number-bounded : (name : Field) (w : Width) (low high : ℕ) → IsBounded offset (number name w low high)
number-bounded name w low high = number_field-bounded offset _ _ w low high (λ at. refl) (λ at. refl)

bytes-bounded : (name : Field) (width : ℕ) (test : List ℕ → Bool) → IsBounded offset (Rattle.octets_core.specs.Layout.bytes_field (fault_at why.Short name) (fault_at why.Value name) width test)
bytes-bounded name width test = bytes_field-bounded offset _ _ width test (λ at. refl) (λ at. refl)

fielded-bounded : {A : Type 0} (n : ℕ) (layout : Layout LayoutFault A) → IsBounded offset layout → IsBounded (place n) (fielded layout)
fielded-bounded n layout b = mapped-bounded offset (place n) faults.Layout layout (λ e. refl) b

three-bounded : (name : Field) → IsBounded offset (length_of_three name)
unfolding length_of_three
three-bounded name = bytes-bounded name 3 _ >>> λ b. whole-bounded offset _

kind-bounded : (previous : ℕ) → IsBounded offset (record_kind previous)
unfolding record_kind
kind-bounded previous = bytes-bounded fields.RecordKind 1 _ >>> λ b. whole-bounded offset _

range-bounded : (previous : Option (List ℕ)) → IsBounded offset (range previous)
unfolding range
range-bounded previous =
    bytes-bounded fields.RangeLog 32 (is_after previous) >>> λ log.
    number-bounded fields.RangeFrom w64 0 (2 ^ 64 - 1) >>> λ from.
    number-bounded fields.RangeTo w64 from (2 ^ 64 - 1) >>> λ to.
    whole-bounded offset _

crl-bounded : IsBounded offset crl
unfolding crl
crl-bounded =
    bytes-bounded fields.CrlIssuer 32 _ >>> λ issuer.
    number-bounded fields.CrlLength w32 0 67108864 >>> λ width.
    bytes-bounded fields.CrlBytes width _ >>> λ bytes.
    whole-bounded offset _

entry-bounded : IsBounded offset entry
unfolding entry
entry-bounded =
    bytes-bounded fields.EntryLog 32 _ >>> λ log.
    three-bounded fields.EntryLeafLength >>> λ leaf_width.
    bytes-bounded fields.EntryLeaf leaf_width _ >>> λ leaf.
    three-bounded fields.EntryExtraLength >>> λ extra_width.
    bytes-bounded fields.EntryExtra extra_width _ >>> λ extra.
    whole-bounded offset _

end-within : (bytes : List ℕ) (at : ℕ) (b : Bool) → at ≤ length bytes → IsWithin offset bytes (if b then Err (fault_at why.Value fields.End at) else Ok (tt {0}, at))
end-within bytes at true le = le
end-within bytes at false le = le

end-bounded : IsBounded offset end
end-bounded = record { each = λ bytes at le. end-within bytes at _ le }

either-bounded : {A : Type 0} (n : ℕ) (b : Bool) (x y : Layout JobFault A) → IsBounded (place n) x → IsBounded (place n) y → IsBounded (place n) (if b then x else y)
either-bounded n true x y hx hy = hx
either-bounded n false x y hx hy = hy

limit-bounded : (n : ℕ) (thing : What) (limit count : ℕ) → IsBounded (place n) (at_most thing limit count)
limit-bounded n thing limit count =
    either-bounded n (nat_le count limit) (whole tt) (refused (faults.TooMany thing limit)) (whole-bounded (place n) tt) (record { each = λ bytes at le. omega arith })

range_item-bounded : (n : ℕ) (limits : Limits) (h : HeldSoFar) → IsBounded (place n) (range_item limits h)
unfolding range_item
range_item-bounded n limits h =
    limit-bounded n what.Ranges limits.ranges (h.ranges + 1) >>> λ room.
    fielded-bounded n _ (range-bounded h.log) >>> λ r.
    whole-bounded (place n) _

crl_item-bounded : (n : ℕ) (limits : Limits) (h : HeldSoFar) → IsBounded (place n) (crl_item limits h)
unfolding crl_item
crl_item-bounded n limits h =
    limit-bounded n what.Crls limits.crls (h.crls + 1) >>> λ room.
    fielded-bounded n crl crl-bounded >>> λ c.
    whole-bounded (place n) _

entry_item-bounded : (n : ℕ) (limits : Limits) (h : HeldSoFar) → IsBounded (place n) (entry_item limits h)
unfolding entry_item
entry_item-bounded n limits h =
    limit-bounded n what.Entries limits.entries (h.entries + 1) >>> λ room.
    fielded-bounded n entry entry-bounded >>> λ e.
    whole-bounded (place n) _

item-bounded : (n kind : ℕ) (limits : Limits) (h : HeldSoFar) → IsBounded (place n) (item_of kind limits h)
item-bounded n kind limits h =
    either-bounded n _ (range_item limits h) _ (range_item-bounded n limits h)
    (either-bounded n _ (crl_item limits h) (entry_item limits h) (crl_item-bounded n limits h) (entry_item-bounded n limits h))

next-bounded : (n : ℕ) (limits : Limits) (h : HeldSoFar) → IsBounded (place n) (next_item limits h)
unfolding next_item
next-bounded n limits h =
    fielded-bounded n _ (kind-bounded h.kind) >>> λ kind.
    either-bounded n _ _ _ (whole-bounded (place n) None) (item-bounded n kind limits h >>> λ x. whole-bounded (place n) _)

others-bounded : (brings : List ℕ → ℕ) (n : ℕ) (others : HeldSoFar → ℕ → Layout JobFault (List Item)) (limits : Limits) (h : HeldSoFar) (serials : ℕ) (x : Option Item)
    → ((t : HeldSoFar) (k : ℕ) → IsBounded (place n) (others t k)) → IsBounded (place n) (with_others brings others limits h serials x)
others-bounded brings n others limits h serials None each = whole-bounded (place n) []
others-bounded brings n others limits h serials (Some x) each =
    limit-bounded n what.Serials limits.serials (with_serials brings serials x) >>> λ few.
    each (with_item h x) (with_serials brings serials x) >>> λ xs.
    whole-bounded (place n) (x ∷ xs)

records-bounded : (brings : List ℕ → ℕ) (n count : ℕ) (limits : Limits) (h : HeldSoFar) (serials : ℕ) → IsBounded (place n) (records_within brings count limits h serials)
unfolding records_within
records-bounded brings n zero limits h serials = record { each = λ bytes at le. le }
records-bounded brings n (suc count) limits h serials =
    next-bounded n limits h >>> λ x. others-bounded brings n (records_within brings count limits) limits h serials x (λ t k. records-bounded brings n count limits t k)

all-bounded : (brings : List ℕ → ℕ) (n : ℕ) (limits : Limits) (h : HeldSoFar) (serials : ℕ) → IsBounded (place n) (records brings limits h serials)
all-bounded brings n limits h serials = record { each = λ bytes at le. (records-bounded brings n (length bytes - at) limits h serials).each bytes at le }

opening-bounded : IsBounded offset opening
unfolding opening
opening-bounded =
    bytes-bounded fields.JobMagic 8 _ >>> λ begin.
    number-bounded fields.JobEpoch w64 0 (2 ^ 64 - 1) >>> λ epoch.
    number-bounded fields.JobMoment w64 0 (2 ^ 64 - 1) >>> λ moment.
    whole-bounded offset _

job-bounded : (brings : List ℕ → ℕ) (n : ℕ) (limits : Limits) → IsBounded (place n) (job brings limits)
unfolding job
job-bounded brings n limits =
    fielded-bounded n opening opening-bounded >>> λ o.
    all-bounded brings n limits nothing_held 0 >>> λ s.
    fielded-bounded n end end-bounded >>> λ over.
    whole-bounded (place n) _

-- no fault is that of a read, whatever CRLs bring
pub never-reads : (brings : List ℕ → ℕ) (limits : Limits) (bytes : List ℕ) → job brings limits bytes 0 ≡ Err faults.ReadFault → ⊥
never-reads brings limits bytes h =
    let n : ℕ = length bytes + 1 in
    let far : n ≤ length bytes = subst (IsWithin (place n) bytes) h ((job-bounded brings n limits).each bytes 0 (omega arith)) in
    omega (arith, far)

offset-of : (limits : Limits) (bytes : List ℕ) (e : JobFault) → (IsOfBytes e → IsJobOf limits bytes (Err e)) → offset_in_job e ≤ length bytes
offset-of limits bytes faults.NoMemory h = omega arith
offset-of limits bytes faults.ReadFault h = omega arith
offset-of limits bytes (faults.TooMany thing limit) h = omega arith
offset-of limits bytes (faults.Layout f) h =
    subst (IsWithin (place 0) bytes) (h (λ same. absurd cc, λ same. absurd cc)) ((job-bounded serials_of 0 limits).each bytes 0 (omega arith))

-- a fault lies within the bytes
pub at-of : {X : Type 0} (view : X → JobFields) (limits : Limits) (bytes : List ℕ) (r : Result X JobFault) → AnswersJob view limits bytes r → IfErr r (λ e. offset_in_job e ≤ length bytes)
at-of view limits bytes (Ok x) h = tt
at-of view limits bytes (Err e) h = offset-of limits bytes e h

-- no fault is that of a read
pub never-of : {X : Type 0} (view : X → JobFields) (limits : Limits) (bytes : List ℕ) (r : Result X JobFault)
    → GivesUnless faults.NoMemory view r (job_of limits bytes) → IfErr r (λ e. e ≡ faults.ReadFault → ⊥)
never-of view limits bytes (Ok x) h = tt
never-of view limits bytes (Err e) h = λ is.
    let none : e ≡ faults.NoMemory → ⊥ = λ other. cc in
    never-reads serials_of limits bytes (read-fault limits bytes faults.ReadFault (subst (λ (f : JobFault). job_of limits bytes ≡ Err f) is (h none)))
