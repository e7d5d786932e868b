-- Each field, and each list of fields, reads the same where bytes come behind.
use Rattle.std.proofs.Common.{◌≡◌, ℕ, zero, suc, ◌+◌, ◌<◌, ◌≤◌, Bool, List, ◌∷◌, ◌++◌, length, take, drop, Result, Ok, Err, refl, sym, ap, subst, ◌∙◌, arith, ◌⊎◌, inl, inr}
use Rattle.std.specs.Int.{Width, byte_len}
use Rattle.std.specs.Str.{bytes_eq}
use Rattle.std.proofs.lemmas.Bool.{cases_lt, le-ltb, lt-ltb}
use Rattle.std.proofs.lemmas.List.{take-append-le, drop-append-le, length-append, length-drop}
use Rattle.octets_core.specs.Position.{piece}
use Rattle.octets_core.specs.Layout.{Layout, then_read, ◌>>=◌, whole, bytes_field, number_field, sum_field, repeated}
use Rattle.octets_core.specs.OfFields.{IsOfFields}
use Rattle.octets_core.proofs.Fields.{then_read-ok, bytes_field-ok, number_field-ok}

piece-more : (width : ℕ) (bytes more : List ℕ) (at : ℕ) → at + width ≤ length bytes → piece width (bytes ++ more) at ≡ piece width bytes at
piece-more width bytes more at room =
    ap (take width) (drop-append-le at bytes more (omega arith))
    ∙ take-append-le width (drop at bytes) more (omega (arith, length-drop at bytes))

err_is : {E A : Type 0} (d e : E) → ◌≡◌ {A = Result A E} (Err d) (Err e) → d ≡ e
err_is d e h = cc

module _ {E : Type 0} (IsShort : E → Type 0) (short wrong : ℕ → E) (is_short : (at : ℕ) → IsShort (short at)) where
  -- a field of which all bytes are there, or a fault that is short
  bytes-more : (width : ℕ) (test : List ℕ → Bool) (bytes more : List ℕ) (at : ℕ) → at + width ≤ length bytes
      → bytes_field short wrong width test (bytes ++ more) at ≡ bytes_field short wrong width test bytes at
  unfolding bytes_field
  bytes-more width test bytes more at room =
      let longer : at + width ≤ length (bytes ++ more) = omega (arith, length-append bytes more) in
      rw (le-ltb _ _ longer, le-ltb _ _ room, piece-more width bytes more at room) refl

  bytes-short : (width : ℕ) (test : List ℕ → Bool) (bytes : List ℕ) (at : ℕ) (e : E) → length bytes < at + width
      → bytes_field short wrong width test bytes at ≡ Err e → IsShort e
  unfolding bytes_field
  bytes-short width test bytes at e lt h =
      let is : bytes_field short wrong width test bytes at ≡ Err (short at) = rw (lt-ltb _ _ lt) refl in
      subst IsShort (err_is (short at) e (sym is ∙ h)) (is_short at)

  pub bytes_field-of : (width : ℕ) (test : List ℕ → Bool) → IsOfFields IsShort (bytes_field short wrong width test)
  bytes_field-of width test = record {
    read = λ bytes more at x h. bytes-more width test bytes more at (bytes_field-ok short wrong width test bytes at x h).room ∙ h;
    refused = λ bytes more at e h long. elim (cases_lt (length bytes) (at + width)) [
      | inl lt ↦ absurd (long (bytes-short width test bytes at e lt h))
      | inr le ↦ bytes-more width test bytes more at le ∙ h
    ];
  }

  number-more : (w : Width) (low high : ℕ) (bytes more : List ℕ) (at : ℕ) → at + byte_len w ≤ length bytes
      → number_field short wrong w low high (bytes ++ more) at ≡ number_field short wrong w low high bytes at
  unfolding number_field
  number-more w low high bytes more at room =
      let longer : at + byte_len w ≤ length (bytes ++ more) = omega (arith, length-append bytes more) in
      rw (le-ltb _ _ longer, le-ltb _ _ room, piece-more (byte_len w) bytes more at room) refl

  number-short : (w : Width) (low high : ℕ) (bytes : List ℕ) (at : ℕ) (e : E) → length bytes < at + byte_len w
      → number_field short wrong w low high bytes at ≡ Err e → IsShort e
  unfolding number_field
  number-short w low high bytes at e lt h =
      let is : number_field short wrong w low high bytes at ≡ Err (short at) = rw (lt-ltb _ _ lt) refl in
      subst IsShort (err_is (short at) e (sym is ∙ h)) (is_short at)

  pub number_field-of : (w : Width) (low high : ℕ) → IsOfFields IsShort (number_field short wrong w low high)
  number_field-of w low high = record {
    read = λ bytes more at x h. number-more w low high bytes more at (number_field-ok short wrong w low high bytes at x h).room ∙ h;
    refused = λ bytes more at e h long. elim (cases_lt (length bytes) (at + byte_len w)) [
      | inl lt ↦ absurd (long (number-short w low high bytes at e lt h))
      | inr le ↦ number-more w low high bytes more at le ∙ h
    ];
  }

  -- the bytes before the field are the same, too
  sum-more : (width : ℕ) (sum : List ℕ → List ℕ) (bytes more : List ℕ) (at : ℕ) → at + width ≤ length bytes
      → sum_field short wrong width sum (bytes ++ more) at ≡ sum_field short wrong width sum bytes at
  unfolding sum_field
  sum-more width sum bytes more at room =
      ap (λ (front : List ℕ). bytes_field short wrong width (bytes_eq (sum front)) (bytes ++ more) at) (take-append-le at bytes more (omega arith))
      ∙ bytes-more width (bytes_eq (sum (take at bytes))) bytes more at room

  sum-room : (width : ℕ) (sum : List ℕ → List ℕ) (bytes : List ℕ) (at : ℕ) (x : List ℕ × ℕ)
      → sum_field short wrong width sum bytes at ≡ Ok x → at + width ≤ length bytes
  unfolding sum_field
  sum-room width sum bytes at x h = (bytes_field-ok short wrong width (bytes_eq (sum (take at bytes))) bytes at x h).room

  sum-short : (width : ℕ) (sum : List ℕ → List ℕ) (bytes : List ℕ) (at : ℕ) (e : E) → length bytes < at + width
      → sum_field short wrong width sum bytes at ≡ Err e → IsShort e
  unfolding sum_field
  sum-short width sum bytes at e lt h = bytes-short width (bytes_eq (sum (take at bytes))) bytes at e lt h

  pub sum_field-of : (width : ℕ) (sum : List ℕ → List ℕ) → IsOfFields IsShort (sum_field short wrong width sum)
  sum_field-of width sum = record {
    read = λ bytes more at x h. sum-more width sum bytes more at (sum-room width sum bytes at x h) ∙ h;
    refused = λ bytes more at e h long. elim (cases_lt (length bytes) (at + width)) [
      | inl lt ↦ absurd (long (sum-short width sum bytes at e lt h))
      | inr le ↦ sum-more width sum bytes more at le ∙ h
    ];
  }

pub whole-of : {E A : Type 0} {IsShort : E → Type 0} (x : A) → IsOfFields IsShort (whole {E = E} x)
whole-of x = record { read = λ bytes more at y h. h; refused = λ bytes more at e h long. absurd cc }

then_read-err : {E A B : Type 0} (r : Result (A × ℕ) E) (next : A → Layout E B) (bytes : List ℕ) (e : E) → then_read r next bytes ≡ Err e
    → (r ≡ Err e) ⊎ ((x : A × ℕ) × (r ≡ Ok x) × (next x.0 bytes x.1 ≡ Err e))
then_read-err (Ok x) next bytes e h = inr (x, refl, h)
then_read-err (Err d) next bytes e h = inl (cc)

infixl 10 ◌>>>◌
pub ◌>>>◌ : {E A B : Type 0} {IsShort : E → Type 0} {first : Layout E A} {next : A → Layout E B} → IsOfFields IsShort first
    → ((x : A) → IsOfFields IsShort (next x)) → IsOfFields IsShort (first >>= next)
◌>>>◌ {E} {A} {B} {IsShort} {first} {next} one rest = record {
  read = λ bytes more at y h.
      let f = then_read-ok (first bytes at) next bytes y h in
      ap (λ (r : Result (A × ℕ) E). then_read r next (bytes ++ more)) (one.read bytes more at f.0 f.1) ∙ (rest f.0.0).read bytes more f.0.1 y f.2;
  refused = λ bytes more at e h long. elim (then_read-err (first bytes at) next bytes e h) [
    | inl f ↦ ap (λ (r : Result (A × ℕ) E). then_read r next (bytes ++ more)) (one.refused bytes more at e f long)
    | inr f ↦ ap (λ (r : Result (A × ℕ) E). then_read r next (bytes ++ more)) (one.read bytes more at f.0 f.1)
        ∙ (rest f.0.0).refused bytes more f.0.1 e f.2 long
  ];
}

pub repeated-of : {E S X : Type 0} {IsShort : E → Type 0} (item : S → Layout E X) (next : S → X → S) → ((s : S) → IsOfFields IsShort (item s)) → (n : ℕ) (s : S)
    → IsOfFields IsShort (repeated item next n s)
unfolding repeated
repeated-of item next each zero s = whole-of _
repeated-of item next each (suc n) s = each s >>> λ x. repeated-of item next each n (next s x) >>> λ others. whole-of (x ∷ others)
