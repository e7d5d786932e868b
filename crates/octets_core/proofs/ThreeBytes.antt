-- Raw bytes and numbers of three bytes: what is spelled so is read, and what is read is spelled so.
use Rattle.std.proofs.Common.{◌≡◌, ℕ, zero, suc, ◌<◌, ◌^◌, List, [], ◌∷◌, length, drop, true, refl, sym, ap, ◌∙◌, subst, arith}
use Rattle.std.specs.Int.{w32, to_be_bytes, from_be_bytes}
use Rattle.std.proofs.lemmas.Nat.{be_bytes_4, from_be_bytes-to_be_bytes_4}
use Rattle.octets_core.specs.Numbers.{three_bytes}
use Rattle.octets_core.specs.Position.{from_three}
use Rattle.octets_core.specs.Reading.{octets, length_of_three}
use Rattle.octets_core.specs.declared.field.Field.{Field}
use Rattle.octets_core.proofs.Fields.{bytes_field-ok}
use Rattle.octets_core.proofs.Texts.{IsBytes, IsBytes-piece, IsRead, ends-read, bytes_field-read, Leaves, Takes, ◌>>-◌, whole-leaves, bytes_field-leaves, Takes-as}

pub octets-read : (name : Field) (before text : List ℕ) → IsRead (octets name (length text)) before text text
octets-read name before text = bytes_field-read _ _ (length text) (λ b. true) before text refl refl

pub octets-leaves : (name : Field) (width : ℕ) (bytes : List ℕ) (at : ℕ) → Leaves (octets name width) bytes at (λ x end. Takes bytes at x end × (length x ≡ width))
octets-leaves name width bytes at = record {
  each = λ x h. let f = (bytes_field-leaves _ _ width (λ b. true) bytes at).each x h in (f.takes, f.len);
}

record TakesOctets (width : ℕ) (bytes : List ℕ) (at : ℕ) (x : List ℕ) (end : ℕ) : Type 0 where
  takes : Takes bytes at x end
  len : length x ≡ width
  each : IsBytes x

bytes-leave : (name : Field) (width : ℕ) (bytes : List ℕ) → IsBytes bytes → (at : ℕ) → Leaves (octets name width) bytes at (TakesOctets width bytes at)
bytes-leave name width bytes fits at = record {
  each = λ x h.
      let f = (bytes_field-leaves _ _ width (λ b. true) bytes at).each x h in
      let is = bytes_field-ok _ _ width (λ b. true) bytes at x h in
      record { takes = f.takes; len = f.len; each = subst IsBytes is.value (IsBytes-piece width bytes at fits) };
}

three-again : (n : ℕ) → n < 2 ^ 24 → from_three (three_bytes n) ≡ n
three-again n lt =
    let same : 0 ∷ three_bytes n ≡ to_be_bytes w32 n = ap (λ (h : ℕ). h ∷ three_bytes n) (omega arith) in
    ap (from_be_bytes w32) same ∙ from_be_bytes-to_be_bytes_4 n (omega arith)

pub length_of_three-read : (name : Field) (before : List ℕ) (n : ℕ) → n < 2 ^ 24 → IsRead (length_of_three name) before n (three_bytes n)
unfolding length_of_three
length_of_three-read name before n lt =
    subst (λ (k : ℕ). IsRead (length_of_three name) before k (three_bytes n)) (three-again n lt) (ends-read from_three (bytes_field-read _ _ 3 (λ b. true) before (three_bytes n) refl refl))

zero_first : (bytes : List ℕ) → IsBytes bytes → IsBytes (0 ∷ bytes)
zero_first bytes fits zero = omega arith
zero_first bytes fits (suc i) = fits i

three-back : (bytes : List ℕ) → length bytes ≡ 3 → IsBytes bytes → three_bytes (from_three bytes) ≡ bytes
three-back bytes len fits = ap (drop 1) (be_bytes_4 (0 ∷ bytes) _ (omega (arith, len)) (zero_first bytes fits) refl)

three-few : (bytes : List ℕ) → length bytes ≡ 3 → IsBytes bytes → from_three bytes < 2 ^ 24
three-few [] len fits = absurd (omega arith)
three-few (a ∷ []) len fits = absurd (omega arith)
three-few (a ∷ b ∷ []) len fits = absurd (omega arith)
three-few (a ∷ b ∷ c ∷ []) len fits = omega (arith, fits 0, fits 1, fits 2)
three-few (a ∷ b ∷ c ∷ d ∷ bytes) len fits = absurd (omega arith)

pub length_of_three-leaves : (name : Field) (bytes : List ℕ) → IsBytes bytes → (at : ℕ) → Leaves (length_of_three name) bytes at (λ n end. Takes bytes at (three_bytes n) end × (n < 2 ^ 24))
unfolding length_of_three
length_of_three-leaves name bytes fits at =
    bytes-leave name 3 bytes fits at >>- λ three end a.
    whole-leaves (from_three three) bytes end _ (Takes-as three (three_bytes (from_three three)) (sym (three-back three a.len a.each)) a.takes, three-few three a.len a.each)
