-- The dates of identities: what is spelled is read, and what is read is spelled so.
use Rattle.std.proofs.Common.{◌≡◌, ℕ, zero, suc, ◌-◌, ◌<◌, ◌≤◌, ◌^◌, Bool, true, false, cond, ltb, nat_eq, List, length, take, Option, Some, None, refl, sym, ap, subst, arith}
use Rattle.std.specs.Prelude.{ℤ, pos, negsuc, IfSome}
use Rattle.std.specs.Int.{w8, w64, to_be_bytes, cast_signed, cast_unsigned}
use Rattle.std.specs.Int.RustNames.{FitsSigned}
use Rattle.std.proofs.lemmas.Bool.{ltb-false, ltb-true, eqb-true}
use Rattle.std.proofs.lemmas.Int.{of_z-to_z, to_z-of_z}
use Rattle.std.proofs.lemmas.List.{append-nil}
use Rattle.octets_core.specs.Layout.{whole}
use Rattle.octets_core.proofs.Texts.{IsRead, reads, done, from_front, ends-read, whole-read, number_field-read, wide8, wide64}
use Rattle.octets_core.proofs.Texts.{IsBytes, Takes, Takes-as, ◌>>>◌, Leaves, ◌>>-◌, whole-leaves, number_field-leaves}
use Rattle.ledger_core.specs.LedgerText.{date_text, date_text_in}
use Rattle.ledger_core.specs.LedgerLayout.{until_field, some_until, date, date_in}

-- only version 2 has dates
abbrev pub FitsVersion : ℕ → Option ℤ → Type 0
FitsVersion version until = version ≡ 1 → until ≡ None

-- ---- two's complement

bits-fit : (z : ℤ) → FitsSigned w64 z → cast_unsigned w64 z < 2 ^ 64
bits-fit (pos n) h = omega (arith, h.sfits)
bits-fit (negsuc n) h = omega arith

signed-fits-by : (n : ℕ) (b : Bool) → ltb n (2 ^ 63) ≡ b → n < 2 ^ 64 → FitsSigned w64 (cast_signed w64 n)
signed-fits-by n true e h = rw e (record { sfits = ltb-true n (2 ^ 63) e })
signed-fits-by n false e h = rw e (record { sfits = omega (arith, ltb-false n (2 ^ 63) e) })

signed-fits : (n : ℕ) → n < 2 ^ 64 → FitsSigned w64 (cast_signed w64 n)
signed-fits n h = signed-fits-by n (ltb n (2 ^ 63)) refl h

-- ---- what is spelled is read

until-read : (before : List ℕ) (until : ℤ) → FitsSigned w64 until → IsRead until_field before until (to_be_bytes w64 (cast_unsigned w64 until))
unfolding until_field
until-read before until fits =
    let n : ℕ = cast_unsigned w64 until in
    let lt : n < 2 ^ 64 = bits-fit until fits in
    subst (λ (z : ℤ). IsRead until_field before z (to_be_bytes w64 n)) (to_z-of_z w64 until fits)
    (ends-read (λ bits. cast_signed w64 bits) (number_field-read _ _ w64 (2 ^ 64) 0 (2 ^ 64 - 1) wide64 before n (omega arith) (omega (arith, lt)) lt))

date-read : (before : List ℕ) (until : Option ℤ) → IfSome until (FitsSigned w64) → IsRead date before until (date_text until)
unfolding date date_text some_until
date-read before None fits = from_front
    (reads _ (number_field-read _ _ w8 (2 ^ 8) 0 1 wide8 _ 0 (omega arith) (omega arith) (omega arith))
    (done None))
date-read before (Some until) fits = from_front
    (reads _ (number_field-read _ _ w8 (2 ^ 8) 0 1 wide8 _ 1 (omega arith) (omega arith) (omega arith))
    (reads _ (until-read _ until fits)
    (done (Some until))))

date_in-by : (version : ℕ) (before : List ℕ) (until : Option ℤ) (b : Bool) → nat_eq version 1 ≡ b → IfSome until (FitsSigned w64) → FitsVersion version until
    → IsRead (date_in version) before until (date_text_in version until)
date_in-by version before until true e fits old = rw (e, old (eqb-true version 1 e)) (whole-read before None)
date_in-by version before until false e fits old = rw e (date-read before until fits)

pub date_in-read : (version : ℕ) (before : List ℕ) (until : Option ℤ) → IfSome until (FitsSigned w64) → FitsVersion version until
    → IsRead (date_in version) before until (date_text_in version until)
date_in-read version before until fits old = date_in-by version before until (nat_eq version 1) refl fits old

-- ---- what is read is spelled so

until-leaves : (bytes : List ℕ) → IsBytes bytes → (at : ℕ)
    → Leaves until_field bytes at (λ until end. Takes bytes at (to_be_bytes w64 (cast_unsigned w64 until)) end × FitsSigned w64 until)
unfolding until_field
until-leaves bytes fits at =
    number_field-leaves _ _ w64 (2 ^ 64) 0 (2 ^ 64 - 1) wide64 bytes fits at >>- λ bits end a.
    let lt : bits < 2 ^ 64 = omega (arith, a.to_high) in
    whole-leaves _ bytes end _ (
      Takes-as (to_be_bytes w64 bits) (to_be_bytes w64 (cast_unsigned w64 (cast_signed w64 bits))) (ap (to_be_bytes w64) (sym (of_z-to_z w64 bits lt))) a.takes,
      signed-fits bits lt,
    )

abbrev ReadsDate : List ℕ → ℕ → Option ℤ → ℕ → Type 0
ReadsDate bytes at until end = Takes bytes at (date_text until) end × IfSome until (FitsSigned w64)

date-by : (bytes : List ℕ) → IsBytes bytes → (at p dated : ℕ) → dated ≤ 1 → Takes bytes at (to_be_bytes w8 dated) p
    → Leaves (cond (nat_eq dated 0) (whole None) some_until) bytes p (ReadsDate bytes at)
unfolding date_text some_until
date-by bytes fits at p zero le takes = whole-leaves None bytes p _ (takes, tt)
date-by bytes fits at p (suc zero) le takes =
    until-leaves bytes fits p >>- λ until end a.
    whole-leaves _ bytes end _ (takes >>> a.0, a.1)
date-by bytes fits at p (suc (suc n)) le takes = absurd (omega (arith, le))

date-leaves : (bytes : List ℕ) → IsBytes bytes → (at : ℕ) → Leaves date bytes at (ReadsDate bytes at)
unfolding date
date-leaves bytes fits at =
    number_field-leaves _ _ w8 (2 ^ 8) 0 1 wide8 bytes fits at >>- λ dated p a.
    date-by bytes fits at p dated a.to_high a.takes

-- What is read of a date in a version.
abbrev pub ReadsDateIn : ℕ → List ℕ → ℕ → Option ℤ → ℕ → Type 0
ReadsDateIn version bytes at until end = Takes bytes at (date_text_in version until) end × (IfSome until (FitsSigned w64) × FitsVersion version until)

new-version : (version : ℕ) → nat_eq version 1 ≡ false → (until : Option ℤ) → FitsVersion version until
new-version version e until is = absurd (let one : nat_eq 1 1 ≡ false = subst (λ (n : ℕ). nat_eq n 1 ≡ false) is e in cc)

date_in-leaves-by : (version : ℕ) (bytes : List ℕ) → IsBytes bytes → (at : ℕ) → at ≤ length bytes → (b : Bool) → nat_eq version 1 ≡ b → Leaves (date_in version) bytes at (ReadsDateIn version bytes at)
date_in-leaves-by version bytes fits at room true e =
    rw e (whole-leaves None bytes at _ (record { parts = rw e (sym (append-nil (take at bytes))); room = room }, (tt, λ is. refl)))
date_in-leaves-by version bytes fits at room false e =
    rw e (record { each = λ x h. let d = (date-leaves bytes fits at).each x h in (rw e d.0, (d.1, new-version version e x.0)) })

pub date_in-leaves : (version : ℕ) (bytes : List ℕ) → IsBytes bytes → (at : ℕ) → at ≤ length bytes → Leaves (date_in version) bytes at (ReadsDateIn version bytes at)
date_in-leaves version bytes fits at room = date_in-leaves-by version bytes fits at room (nat_eq version 1) refl
