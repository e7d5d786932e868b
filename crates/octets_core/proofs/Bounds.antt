-- A layout's faults and ends lie within its bytes.
use Rattle.std.proofs.Common.{◌≡◌, ℕ, zero, suc, ◌+◌, ◌≤◌, Bool, true, false, cond, ltb, List, ◌∷◌, length, Result, Ok, Err, refl, arith}
use Rattle.std.specs.Int.{Width, byte_len, from_be_bytes}
use Rattle.std.specs.Str.{bytes_eq}
use Rattle.std.specs.Prelude.{take}
use Rattle.std.proofs.lemmas.Bool.{ltb-false}
use Rattle.octets_core.specs.Position.{piece}
use Rattle.octets_core.specs.Layout.{Layout, then_read, ◌>>=◌, whole, within, bytes_field, number_field, sum_field, repeated, with_fault, mapped}

-- the place behind a value, or a fault's offset
abbrev pub IsWithin : {E A : Type 0} → (E → ℕ) → List ℕ → Result (A × ℕ) E → Type 0
IsWithin offset bytes (Ok x) = x.1 ≤ length bytes
IsWithin offset bytes (Err e) = offset e ≤ length bytes

pub record IsBounded {E A : Type 0} (offset : E → ℕ) (layout : Layout E A) : Type 0 where
  pub each : (bytes : List ℕ) (at : ℕ) → at ≤ length bytes → IsWithin offset bytes (layout bytes at)

tests_within : {E A : Type 0} (offset : E → ℕ) (bytes : List ℕ) (at n : ℕ) (a b : Bool) (d e : E) (x : A) → at ≤ length bytes → offset d ≡ at → offset e ≡ at → (a ≡ false → n ≤ length bytes)
    → IsWithin offset bytes (cond a (Err d) (cond b (Ok (x, n)) (Err e)))
tests_within offset bytes at n true b d e x le od oe room = omega arith
tests_within offset bytes at n false true d e x le od oe room = room refl
tests_within offset bytes at n false false d e x le od oe room = omega arith

pub bytes_field-bounded : {E : Type 0} (offset : E → ℕ) (short wrong : ℕ → E) (width : ℕ) (test : List ℕ → Bool) → ((at : ℕ) → offset (short at) ≡ at) → ((at : ℕ) → offset (wrong at) ≡ at)
    → IsBounded offset (bytes_field short wrong width test)
unfolding bytes_field
bytes_field-bounded offset short wrong width test s w = record {
  each = λ bytes at le.
      tests_within offset bytes at (at + width) (ltb (length bytes) (at + width)) (test (piece width bytes at)) (short at) (wrong at) (piece width bytes at) le
      (s at) (w at) (ltb-false (length bytes) (at + width));
}

pub number_field-bounded : {E : Type 0} (offset : E → ℕ) (short wrong : ℕ → E) (w : Width) (low high : ℕ) → ((at : ℕ) → offset (short at) ≡ at) → ((at : ℕ) → offset (wrong at) ≡ at)
    → IsBounded offset (number_field short wrong w low high)
unfolding number_field
number_field-bounded offset short wrong w low high s g = record {
  each = λ bytes at le.
      let n : ℕ = from_be_bytes w (piece (byte_len w) bytes at) in
      tests_within offset bytes at (at + byte_len w) (ltb (length bytes) (at + byte_len w)) (within low high n) (short at) (wrong at) n le (s at) (g at) (ltb-false (length bytes) (at + byte_len w));
}

pub sum_field-bounded : {E : Type 0} (offset : E → ℕ) (short wrong : ℕ → E) (width : ℕ) (sum : List ℕ → List ℕ) → ((at : ℕ) → offset (short at) ≡ at) → ((at : ℕ) → offset (wrong at) ≡ at)
    → IsBounded offset (sum_field short wrong width sum)
unfolding sum_field
sum_field-bounded offset short wrong width sum s w = record {
  each = λ bytes at le.
      (bytes_field-bounded offset short wrong width (bytes_eq (sum (take at bytes))) s w).each bytes at le;
}

pub whole-bounded : {E A : Type 0} (offset : E → ℕ) (x : A) → IsBounded offset (whole x)
whole-bounded offset x = record { each = λ bytes at le. le }

then_read-within : {E A B : Type 0} (offset : E → ℕ) (bytes : List ℕ) (r : Result (A × ℕ) E) (next : A → Layout E B) → IsWithin offset bytes r
    → ((x : A) → IsBounded offset (next x)) → IsWithin offset bytes (then_read r next bytes)
then_read-within offset bytes (Ok x) next first rest = (rest x.0).each bytes x.1 first
then_read-within offset bytes (Err e) next first rest = first

infixl 10 ◌>>>◌
pub ◌>>>◌ : {E A B : Type 0} {offset : E → ℕ} {first : Layout E A} {next : A → Layout E B} → IsBounded offset first → ((x : A) → IsBounded offset (next x)) → IsBounded offset (first >>= next)
◌>>>◌ {E} {A} {B} {offset} {first} {next} one rest = record { each = λ bytes at le. then_read-within offset bytes (first bytes at) next (one.each bytes at le) rest }

pub repeated-bounded : {E S X : Type 0} (offset : E → ℕ) (item : S → Layout E X) (next : S → X → S) → ((s : S) → IsBounded offset (item s)) → (n : ℕ) (s : S)
    → IsBounded offset (repeated item next n s)
unfolding repeated
repeated-bounded offset item next each zero s = record { each = λ bytes at le. le }
repeated-bounded offset item next each (suc n) s = record {
  each = λ bytes at le.
      then_read-within offset bytes (item s bytes at) (λ x. repeated item next n (next s x) >>= λ others. whole (x ∷ others)) ((each s).each bytes at le)
      (λ x. repeated-bounded offset item next each n (next s x) >>> λ others. whole-bounded offset (x ∷ others));
}

with_fault-within : {E F A : Type 0} (offset : E → ℕ) (outer : F → ℕ) (wrap : E → F) (bytes : List ℕ) (r : Result (A × ℕ) E) → ((e : E) → outer (wrap e) ≡ offset e)
    → IsWithin offset bytes r → IsWithin outer bytes (with_fault wrap r)
with_fault-within offset outer wrap bytes (Ok x) same h = h
with_fault-within offset outer wrap bytes (Err e) same h = rw (same e) h

pub mapped-bounded : {E F A : Type 0} (offset : E → ℕ) (outer : F → ℕ) (wrap : E → F) (layout : Layout E A) → ((e : E) → outer (wrap e) ≡ offset e)
    → IsBounded offset layout → IsBounded outer (mapped wrap layout)
mapped-bounded offset outer wrap layout same b = record {
  each = λ bytes at le. with_fault-within offset outer wrap bytes (layout bytes at) same (b.each bytes at le);
}
