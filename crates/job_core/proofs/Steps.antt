-- Reading records one by one: it doesn't depend on how many steps it may take.
use Rattle.std.proofs.Common.{◌≡◌, ℕ, zero, suc, ◌+◌, ◌-◌, ◌≤◌, ◌<◌, ◌^◌, Bool, true, false, List, [], ◌∷◌, length}
use Rattle.std.proofs.Common.{take, drop, Option, Some, None, Result, Ok, Err, refl, sym, ap, subst, ◌∙◌, arith, inl, inr}
use Rattle.std.specs.Prelude.{if◌then◌else◌, nat_le, codes}
use Rattle.std.specs.Str.{bytes_eq}
use Rattle.std.specs.Int.{Width, byte_len, w8, w32, w64, from_be_bytes}
use Rattle.std.proofs.lemmas.Bool.{cases_lt, le-ltb, lt-ltb, le-leb, lt-leb}
use Rattle.std.proofs.lemmas.List.{take-take, drop-take, drop-drop}
use Rattle.octets_core.specs.Position.{piece}
use Rattle.octets_core.specs.Layout.{Layout, then_read, ◌>>=◌, whole, refused, mapped, with_fault, bytes_field, number_field}
use Rattle.octets_core.specs.Linked.{is_after}
use Rattle.octets_core.specs.Reading.{fault_at, any_key, length_of_three}
use Rattle.octets_core.specs.declared.field.Field.{Field}
use Rattle.octets_core.specs.declared.field.Field.TheVariants as fields
use Rattle.octets_core.specs.declared.fault.Why.TheVariants as why
use Rattle.octets_core.specs.declared.fault.LayoutFault.{LayoutFault}
use Rattle.octets_core.proofs.Fields.{then_read-ok, ok_is, bytes_field-ok, number_field-ok, mapped-ok}
use Rattle.ident_core.specs.RangeLayout.{range}
use Rattle.job_core.specs.declared.bounds.Limits.{Limits}
use Rattle.job_core.specs.declared.bounds.What.{What}
use Rattle.job_core.specs.declared.bounds.What.TheVariants as what
use Rattle.job_core.specs.declared.fault.JobFault.{JobFault}
use Rattle.job_core.specs.declared.fault.JobFault.TheVariants as faults
use Rattle.job_core.specs.JobLayout.{fielded, is_kind, record_kind, opening, crl, entry, Item, HeldSoFar, with_item, at_most, range_item, crl_item, entry_item, item_of, some_of, next_item}
use Rattle.job_core.specs.JobLayout.{with_serials, with_others, records_within, records}
use Rattle.job_core.specs.JobText.{behind}

-- ---- what is read ends where it begins or later

pub record Advances {E A : Type 0} (layout : Layout E A) : Type 0 where
  pub each : (bytes : List ℕ) (at : ℕ) (x : A × ℕ) → layout bytes at ≡ Ok x → at ≤ x.1
  -- and depends on no other bytes than those between
  pub local : (bytes other : List ℕ) (at : ℕ) (x : A × ℕ) → layout bytes at ≡ Ok x → piece (x.1 - at) other at ≡ piece (x.1 - at) bytes at → x.1 ≤ length other → layout other at ≡ Ok x

bytes-local : {E : Type 0} (short wrong : ℕ → E) (width : ℕ) (test : List ℕ → Bool) (bytes other : List ℕ) (at : ℕ) (x : List ℕ × ℕ) → bytes_field short wrong width test bytes at ≡ Ok x
    → piece (x.1 - at) other at ≡ piece (x.1 - at) bytes at → x.1 ≤ length other → bytes_field short wrong width test other at ≡ Ok x
unfolding bytes_field
bytes-local short wrong width test bytes other at x h same room =
    let f = bytes_field-ok short wrong width test bytes at x h in
    let k : x.1 - at ≡ width = omega (arith, f.next) in
    let there : piece width other at ≡ piece width bytes at = subst (λ (w : ℕ). piece w other at ≡ piece w bytes at) k same in
    rw (le-ltb (length other) (at + width) (omega (arith, f.next, room)), there, f.passed, f.value, f.next) refl

bytes-advances : {E : Type 0} (short wrong : ℕ → E) (width : ℕ) (test : List ℕ → Bool) → Advances (bytes_field short wrong width test)
bytes-advances short wrong width test = record {
  each = λ bytes at x h. omega (arith, (bytes_field-ok short wrong width test bytes at x h).next);
  local = bytes-local short wrong width test;
}

number-local : {E : Type 0} (short wrong : ℕ → E) (w : Width) (low high : ℕ) (bytes other : List ℕ) (at : ℕ) (x : ℕ × ℕ) → number_field short wrong w low high bytes at ≡ Ok x
    → piece (x.1 - at) other at ≡ piece (x.1 - at) bytes at → x.1 ≤ length other → number_field short wrong w low high other at ≡ Ok x
unfolding number_field
number-local short wrong w low high bytes other at x h same room =
    let f = number_field-ok short wrong w low high bytes at x h in
    let k : x.1 - at ≡ byte_len w = omega (arith, f.next) in
    let there : piece (byte_len w) other at ≡ piece (byte_len w) bytes at = subst (λ (n : ℕ). piece n other at ≡ piece n bytes at) k same in
    rw (le-ltb (length other) (at + byte_len w) (omega (arith, f.next, room)), there, f.value, le-leb low x.0 f.from_low, le-leb x.0 high f.to_high, f.next) refl

number-advances : {E : Type 0} (short wrong : ℕ → E) (w : Width) (low high : ℕ) → Advances (number_field short wrong w low high)
number-advances short wrong w low high = record {
  each = λ bytes at x h. omega (arith, (number_field-ok short wrong w low high bytes at x h).next);
  local = number-local short wrong w low high;
}

whole-advances : {E A : Type 0} (x : A) → Advances {E = E} (whole x)
whole-advances {E} x = record {
  each = λ bytes at y h. let same = ap (λ p. p.1) (ok_is {E = E} (x, at) y h) in omega (arith, same);
  local = λ bytes other at y h same room. h;
}

mapped-advances : {E F A : Type 0} (wrap : E → F) (layout : Layout E A) → Advances layout → Advances (mapped wrap layout)
mapped-advances wrap layout one = record {
  each = λ bytes at x h. one.each bytes at x (mapped-ok wrap layout bytes at x h);
  local = λ bytes other at x h same room. ap (with_fault wrap) (one.local bytes other at x (mapped-ok wrap layout bytes at x h) same room);
}

-- the beginning of a piece, and what is left of it
piece-front : (l : List ℕ) (at p q : ℕ) → at ≤ p → p ≤ q → take (p - at) (piece (q - at) l at) ≡ piece (p - at) l at
piece-front l at p q le further = take-take (p - at) (q - at) (drop at l) (omega (arith, le, further))

piece-back : (l : List ℕ) (at p q : ℕ) → at ≤ p → p ≤ q → drop (p - at) (piece (q - at) l at) ≡ piece (q - p) l p
piece-back l at p q le further =
    let k : q - at ≡ (p - at) + (q - p) = omega (arith, le, further) in
    let n : at + (p - at) ≡ p = omega (arith, le) in
    ap (λ (m : ℕ). drop (p - at) (take m (drop at l))) k
    ∙ drop-take (p - at) (q - p) (drop at l)
    ∙ ap (take (q - p)) (drop-drop (p - at) at l)
    ∙ ap (λ (m : ℕ). take (q - p) (drop m l)) n

infixl 10 ◌>>>◌
◌>>>◌ : {E A B : Type 0} {first : Layout E A} {next : A → Layout E B} → Advances first → ((x : A) → Advances (next x)) → Advances (first >>= next)
◌>>>◌ {E} {A} {B} {first} {next} one rest = record {
  each = λ bytes at y h.
      let a = then_read-ok (first bytes at) next bytes y h in
      let before = one.each bytes at a.0 a.1 in
      let later = (rest a.0.0).each bytes a.0.1 y a.2 in
      omega (arith, before, later);
  local = λ bytes other at y h same room.
      let a = then_read-ok (first bytes at) next bytes y h in
      let le = one.each bytes at a.0 a.1 in
      let further = (rest a.0.0).each bytes a.0.1 y a.2 in
      let front : piece (a.0.1 - at) other at ≡ piece (a.0.1 - at) bytes at
      = sym (piece-front other at a.0.1 y.1 le further) ∙ ap (take (a.0.1 - at)) same ∙ piece-front bytes at a.0.1 y.1 le further in
      let back : piece (y.1 - a.0.1) other a.0.1 ≡ piece (y.1 - a.0.1) bytes a.0.1
      = sym (piece-back other at a.0.1 y.1 le further) ∙ ap (drop (a.0.1 - at)) same ∙ piece-back bytes at a.0.1 y.1 le further in
      ap (λ r. then_read r next other) (one.local bytes other at a.0 a.1 front (omega (arith, further, room)))
      ∙ (rest a.0.0).local bytes other a.0.1 y a.2 back room;
}

either-advances : {E A : Type 0} (b : Bool) (x y : Layout E A) → Advances x → Advances y → Advances (if b then x else y)
either-advances true x y hx hy = hx
either-advances false x y hx hy = hy

refused-advances : {E A : Type 0} (e : E) → Advances {A = A} (refused e)
refused-advances e = record { each = λ bytes at x h. absurd cc; local = λ bytes other at x h same room. absurd cc }

limit-advances : (thing : What) (limit count : ℕ) → Advances (at_most thing limit count)
limit-advances thing limit count = either-advances (nat_le count limit) (whole tt) (refused (faults.TooMany thing limit)) (whole-advances tt) (refused-advances _)

three-advances : (name : Field) → Advances (length_of_three name)
unfolding length_of_three
three-advances name = bytes-advances _ _ 3 _ >>> λ b. whole-advances _

range-advances : (previous : Option (List ℕ)) → Advances (range previous)
unfolding range
range-advances previous =
    bytes-advances _ _ 32 (is_after previous) >>> λ log.
    number-advances _ _ w64 0 (2 ^ 64 - 1) >>> λ from.
    number-advances _ _ w64 from (2 ^ 64 - 1) >>> λ to.
    whole-advances _

crl-advances : Advances crl
unfolding crl
crl-advances =
    bytes-advances _ _ 32 any_key >>> λ issuer.
    number-advances _ _ w32 0 67108864 >>> λ width.
    bytes-advances _ _ width _ >>> λ bytes.
    whole-advances _

entry-advances : Advances entry
unfolding entry
entry-advances =
    bytes-advances _ _ 32 any_key >>> λ log.
    three-advances fields.EntryLeafLength >>> λ leaf_width.
    bytes-advances _ _ leaf_width _ >>> λ leaf.
    three-advances fields.EntryExtraLength >>> λ extra_width.
    bytes-advances _ _ extra_width _ >>> λ extra.
    whole-advances _

range_item-advances : (limits : Limits) (h : HeldSoFar) → Advances (range_item limits h)
unfolding range_item
range_item-advances limits h = limit-advances _ _ _ >>> λ room. mapped-advances faults.Layout _ (range-advances h.log) >>> λ r. whole-advances _

crl_item-advances : (limits : Limits) (h : HeldSoFar) → Advances (crl_item limits h)
unfolding crl_item
crl_item-advances limits h = limit-advances _ _ _ >>> λ room. mapped-advances faults.Layout _ crl-advances >>> λ c. whole-advances _

entry_item-advances : (limits : Limits) (h : HeldSoFar) → Advances (entry_item limits h)
unfolding entry_item
entry_item-advances limits h = limit-advances _ _ _ >>> λ room. mapped-advances faults.Layout _ entry-advances >>> λ e. whole-advances _

item-advances : (kind : ℕ) (limits : Limits) (h : HeldSoFar) → Advances (item_of kind limits h)
item-advances kind limits h =
    either-advances _ (range_item limits h) _ (range_item-advances limits h)
    (either-advances _ (crl_item limits h) (entry_item limits h) (crl_item-advances limits h) (entry_item-advances limits h))

kind-advances : (previous : ℕ) → Advances (record_kind previous)
unfolding record_kind
kind-advances previous = bytes-advances _ _ 1 _ >>> λ byte. whole-advances _

pub next-advances : (limits : Limits) (h : HeldSoFar) → Advances (next_item limits h)
unfolding next_item
next-advances limits h =
    mapped-advances faults.Layout _ (kind-advances h.kind) >>> λ kind.
    either-advances _ (whole None) (some_of (item_of kind limits h)) (whole-advances None) (item-advances kind limits h >>> λ y. whole-advances (Some y))

pub opening-advances : Advances opening
unfolding opening
opening-advances =
    bytes-advances _ _ 8 (bytes_eq (codes "CLUBJOB1")) >>> λ begin.
    number-advances _ _ w64 0 (2 ^ 64 - 1) >>> λ epoch.
    number-advances _ _ w64 0 (2 ^ 64 - 1) >>> λ moment.
    whole-advances _

-- a record has the byte of its kind
kind-further : (previous : ℕ) (bytes : List ℕ) (at : ℕ) (x : ℕ × ℕ) → record_kind previous bytes at ≡ Ok x → at < x.1
unfolding record_kind
kind-further previous bytes at x h =
    let test : List ℕ → Bool = λ b. is_kind previous (from_be_bytes w8 b) in
    let a = then_read-ok (bytes_field (fault_at why.Short fields.RecordKind) (fault_at why.Value fields.RecordKind) 1 test bytes at)
    (λ b. whole (from_be_bytes w8 b)) bytes x h in
    let on = (bytes_field-ok (fault_at why.Short fields.RecordKind) (fault_at why.Value fields.RecordKind) 1 test bytes at a.0 a.1).next in
    let same = ap (λ (p : ℕ × ℕ). p.1) (ok_is {E = LayoutFault} (from_be_bytes w8 a.0.0, a.0.1) x a.2) in
    omega (arith, on, same)

abbrev behind_kind : Limits → HeldSoFar → ℕ → Layout JobFault (Option Item)
behind_kind limits h kind = if Rattle.std.specs.Prelude.nat_eq kind 0 then whole None else some_of (item_of kind limits h)

pub next-further : (limits : Limits) (h : HeldSoFar) (bytes : List ℕ) (at : ℕ) (x : Option Item × ℕ) → next_item limits h bytes at ≡ Ok x → at < x.1
unfolding next_item
next-further limits h bytes at x is =
    let a = then_read-ok (fielded (record_kind h.kind) bytes at) (behind_kind limits h) bytes x is in
    let on = kind-further h.kind bytes at a.0 (mapped-ok faults.Layout (record_kind h.kind) bytes at a.0 a.1) in
    let rest = either-advances _ _ _ (whole-advances None) (item-advances a.0.0 limits h >>> λ y. whole-advances (Some y)) in
    let later = rest.each bytes a.0.1 x a.2 in
    omega (arith, on, later)

-- ---- as many steps as bytes are left

pub next-short : (limits : Limits) (h : HeldSoFar) (bytes : List ℕ) (at : ℕ) → length bytes ≤ at → next_item limits h bytes at ≡ Err (faults.Layout (fault_at why.Short fields.RecordKind at))
unfolding next_item record_kind bytes_field
next-short limits h bytes at le = rw (lt-ltb (length bytes) (at + 1) (omega (arith, le))) refl

same_rest : {A B : Type 0} (first second : A → Layout JobFault B) (bytes : List ℕ) (r : Result (A × ℕ) JobFault)
    → ((x : A) (q : ℕ) → r ≡ Ok (x, q) → first x bytes q ≡ second x bytes q) → then_read r first bytes ≡ then_read r second bytes
same_rest first second bytes (Ok x) same = same x.0 x.1 refl
same_rest first second bytes (Err e) same = refl

limit-place : (thing : What) (limit count : ℕ) (bytes : List ℕ) (at q : ℕ) (u : Unit {0}) → at_most thing limit count bytes at ≡ Ok (u, q) → at ≡ q
limit-place thing limit count bytes at q u h =
    elim (cases_lt limit count) [
      | inl over ↦ let is : at_most thing limit count bytes at ≡ Err (faults.TooMany thing limit) = rw (lt-leb count limit over) refl in absurd cc
      | inr le ↦
          let is : at_most thing limit count bytes at ≡ Ok (tt, at) = rw (le-leb count limit le) refl in
          ap (λ p. p.1) (ok_is {E = JobFault} (tt {0}, at) (u, q) (sym is ∙ h))
    ]

others-same : (brings : List ℕ → ℕ) (first second : HeldSoFar → ℕ → Layout JobFault (List Item)) (limits : Limits) (h : HeldSoFar) (serials : ℕ) (bytes : List ℕ) (q : ℕ) (x : Option Item)
    → ((t : HeldSoFar) (n : ℕ) → first t n bytes q ≡ second t n bytes q)
    → with_others brings first limits h serials x bytes q ≡ with_others brings second limits h serials x bytes q
others-same brings first second limits h serials bytes q None same = refl
others-same brings first second limits h serials bytes q (Some x) same =
    let n : ℕ = with_serials brings serials x in
    same_rest (λ few. first (with_item h x) n >>= λ xs. whole (x ∷ xs)) (λ few. second (with_item h x) n >>= λ xs. whole (x ∷ xs)) bytes
    (at_most what.Serials limits.serials n bytes q)
    (λ u p is.
    let place = limit-place what.Serials limits.serials n bytes q p u is in
    rw (sym place) (ap (λ r. then_read r (λ xs. whole (x ∷ xs)) bytes) (same (with_item h x) n)))

pub enough : (brings : List ℕ → ℕ) (limits : Limits) (n m : ℕ) (h : HeldSoFar) (serials : ℕ) (bytes : List ℕ) (at : ℕ) → length bytes ≤ at + n → length bytes ≤ at + m
    → records_within brings n limits h serials bytes at ≡ records_within brings m limits h serials bytes at
unfolding records_within
enough brings limits zero zero h serials bytes at a b = refl
enough brings limits zero (suc m) h serials bytes at a b =
    sym (ap (λ r. then_read r (with_others brings (records_within brings m limits) limits h serials) bytes) (next-short limits h bytes at (omega (arith, a))))
enough brings limits (suc n) zero h serials bytes at a b =
    ap (λ r. then_read r (with_others brings (records_within brings n limits) limits h serials) bytes) (next-short limits h bytes at (omega (arith, b)))
enough brings limits (suc n) (suc m) h serials bytes at a b =
    same_rest (with_others brings (records_within brings n limits) limits h serials) (with_others brings (records_within brings m limits) limits h serials) bytes
    (next_item limits h bytes at)
    (λ x q is.
    let on = next-further limits h bytes at (x, q) is in
    others-same brings (records_within brings n limits) (records_within brings m limits) limits h serials bytes q x
    (λ t k. enough brings limits n m t k bytes q (omega (arith, a, on)) (omega (arith, b, on))))

-- the next record, and the others
unfolded : (brings : List ℕ → ℕ) (limits : Limits) (h : HeldSoFar) (serials : ℕ) (bytes : List ℕ) (at : ℕ)
    → records brings limits h serials bytes at ≡ then_read (next_item limits h bytes at) (with_others brings (records brings limits) limits h serials) bytes
unfolding records_within
unfolded brings limits h serials bytes at =
    enough brings limits (length bytes - at) (suc (length bytes)) h serials bytes at (omega arith) (omega arith)
    ∙ same_rest (with_others brings (records_within brings (length bytes) limits) limits h serials) (with_others brings (records brings limits) limits h serials) bytes
    (next_item limits h bytes at)
    (λ x q is. others-same brings (records_within brings (length bytes) limits) (records brings limits) limits h serials bytes q x
    (λ t k. enough brings limits (length bytes) (length bytes - q) t k bytes q (omega arith) (omega arith)))

-- ---- one record

pub fails : (brings : List ℕ → ℕ) (limits : Limits) (h : HeldSoFar) (serials : ℕ) (bytes : List ℕ) (at : ℕ) (e : JobFault)
    → next_item limits h bytes at ≡ Err e → records brings limits h serials bytes at ≡ Err e
fails brings limits h serials bytes at e is =
    unfolded brings limits h serials bytes at ∙ ap (λ r. then_read r (with_others brings (records brings limits) limits h serials) bytes) is

pub ends : (brings : List ℕ → ℕ) (limits : Limits) (h : HeldSoFar) (serials : ℕ) (bytes : List ℕ) (at q : ℕ)
    → next_item limits h bytes at ≡ Ok (None, q) → records brings limits h serials bytes at ≡ Ok ([], q)
ends brings limits h serials bytes at q is =
    unfolded brings limits h serials bytes at ∙ ap (λ r. then_read r (with_others brings (records brings limits) limits h serials) bytes) is

behind-one : (x : Item) (bytes : List ℕ) (r : Result (List Item × ℕ) JobFault) → then_read r (λ xs. whole (x ∷ xs)) bytes ≡ behind (x ∷ []) r
behind-one x bytes (Ok y) = refl
behind-one x bytes (Err e) = refl

pub goes_on : (brings : List ℕ → ℕ) (limits : Limits) (h : HeldSoFar) (serials : ℕ) (bytes : List ℕ) (at : ℕ) (x : Item) (q : ℕ)
    → next_item limits h bytes at ≡ Ok (Some x, q) → with_serials brings serials x ≤ limits.serials
    → records brings limits h serials bytes at ≡ behind (x ∷ []) (records brings limits (with_item h x) (with_serials brings serials x) bytes q)
goes_on brings limits h serials bytes at x q is few =
    let few_is : at_most what.Serials limits.serials (with_serials brings serials x) bytes q ≡ Ok (tt, q) = rw (le-leb (with_serials brings serials x) limits.serials few) refl in
    unfolded brings limits h serials bytes at
    ∙ ap (λ r. then_read r (with_others brings (records brings limits) limits h serials) bytes) is
    ∙ ap (λ r. then_read r (λ u. records brings limits (with_item h x) (with_serials brings serials x) >>= λ xs. whole (x ∷ xs)) bytes) few_is
    ∙ behind-one x bytes (records brings limits (with_item h x) (with_serials brings serials x) bytes q)

pub runs_over : (brings : List ℕ → ℕ) (limits : Limits) (h : HeldSoFar) (serials : ℕ) (bytes : List ℕ) (at : ℕ) (x : Item) (q : ℕ)
    → next_item limits h bytes at ≡ Ok (Some x, q) → limits.serials < with_serials brings serials x
    → records brings limits h serials bytes at ≡ Err (faults.TooMany what.Serials limits.serials)
runs_over brings limits h serials bytes at x q is over =
    let past : at_most what.Serials limits.serials (with_serials brings serials x) bytes q ≡ Err (faults.TooMany what.Serials limits.serials)
    = rw (lt-leb (with_serials brings serials x) limits.serials over) refl in
    unfolded brings limits h serials bytes at
    ∙ ap (λ r. then_read r (with_others brings (records brings limits) limits h serials) bytes) is
    ∙ ap (λ r. then_read r (λ u. records brings limits (with_item h x) (with_serials brings serials x) >>= λ xs. whole (x ∷ xs)) bytes) past
