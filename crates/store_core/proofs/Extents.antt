-- How many bytes a layout reads at most: bytes further behind change nothing.
use Rattle.std.proofs.Common.{◌≡◌, ℕ, zero, suc, ◌+◌, ◌*◌, ◌≤◌, ◌<◌, Bool, List, ◌∷◌, ◌++◌, length, take, drop, Result, Ok, Err, refl, sym, ap, ◌∙◌, arith, inl, inr, length-append}
use Rattle.std.specs.Int.{Width, byte_len}
use Rattle.std.specs.Str.{bytes_eq}
use Rattle.std.proofs.Math.Nat.{mul-le-mul_right}
use Rattle.std.proofs.lemmas.Bool.{cases_lt, le-ltb, lt-ltb}
use Rattle.std.proofs.lemmas.List.{take_all, take-append-drop, take-append-le, drop-append-le, length-take, length-drop}
use Rattle.octets_core.specs.Position.{piece}
use Rattle.octets_core.specs.Layout.{Layout, then_read, ◌>>=◌, whole, bytes_field, number_field, sum_field, repeated}
use Rattle.octets_core.specs.Reading.{fault_at, number, end}
use Rattle.octets_core.specs.declared.field.Field.{Field}
use Rattle.octets_core.specs.declared.fault.Why.TheVariants as why
use Rattle.octets_core.specs.declared.fault.LayoutFault.{LayoutFault}
use Rattle.octets_core.proofs.Fields.{then_read-ok, ok_is, bytes_field-ok, number_field-ok}

-- It reads so many bytes at most, and this holds of each value that it gives.
pub record ReadsAtMost {E A : Type 0} (most : ℕ) (P : A → Type 0) (layout : Layout E A) : Type 0 where
  pub same : (bytes more : List ℕ) (at : ℕ) → at + most ≤ length bytes → layout (bytes ++ more) at ≡ layout bytes at
  pub ends : (bytes : List ℕ) (at : ℕ) (x : A × ℕ) → layout bytes at ≡ Ok x → (x.1 ≤ at + most) × P x.0

abbrev pub Any : {A : Type 0} → A → Type 0
Any x = Unit {0}

-- it may read fewer
pub wider : {E A : Type 0} {P : A → Type 0} {layout : Layout E A} (few most : ℕ) → few ≤ most → ReadsAtMost few P layout → ReadsAtMost most P layout
wider few most le l = record {
  same = λ bytes more at room. l.same bytes more at (omega (arith, room, le));
  ends = λ bytes at x h. let e = l.ends bytes at x h in (omega (arith, e.0, le), e.1);
}

-- ---- fields

piece-more : (width : ℕ) (bytes more : List ℕ) (at : ℕ) → at + width ≤ length bytes → piece width (bytes ++ more) at ≡ piece width bytes at
piece-more width bytes more at room =
    ap (take width) (drop-append-le at bytes more (omega arith))
    ∙ take-append-le width (drop at bytes) more (omega (arith, length-drop at bytes))

module _ {E : Type 0} (short wrong : ℕ → E) where
  bytes-same : (width : ℕ) (test : List ℕ → Bool) (bytes more : List ℕ) (at : ℕ) → at + width ≤ length bytes
      → bytes_field short wrong width test (bytes ++ more) at ≡ bytes_field short wrong width test bytes at
  unfolding bytes_field
  bytes-same width test bytes more at room =
      let longer : at + width ≤ length (bytes ++ more) = omega (arith, length-append bytes more) in
      rw (le-ltb _ _ longer, le-ltb _ _ room, piece-more width bytes more at room) refl

  pub bytes_field-at_most : (width : ℕ) (test : List ℕ → Bool) → ReadsAtMost width (Any {A = List ℕ}) (bytes_field short wrong width test)
  bytes_field-at_most width test = record {
    same = bytes-same width test;
    ends = λ bytes at x h. let f = bytes_field-ok short wrong width test bytes at x h in (omega (arith, f.next), tt);
  }

  number-same : (w : Width) (low high : ℕ) (bytes more : List ℕ) (at : ℕ) → at + byte_len w ≤ length bytes
      → number_field short wrong w low high (bytes ++ more) at ≡ number_field short wrong w low high bytes at
  unfolding number_field
  number-same w low high bytes more at room =
      let longer : at + byte_len w ≤ length (bytes ++ more) = omega (arith, length-append bytes more) in
      rw (le-ltb _ _ longer, le-ltb _ _ room, piece-more (byte_len w) bytes more at room) refl

  pub number_field-at_most : (w : Width) (low high : ℕ) → ReadsAtMost (byte_len w) (λ (n : ℕ). n ≤ high) (number_field short wrong w low high)
  number_field-at_most w low high = record {
    same = number-same w low high;
    ends = λ bytes at x h. let f = number_field-ok short wrong w low high bytes at x h in (omega (arith, f.next), f.to_high);
  }

  -- the bytes before the field are the same, too
  sum-same : (width : ℕ) (sum : List ℕ → List ℕ) (bytes more : List ℕ) (at : ℕ) → at + width ≤ length bytes
      → sum_field short wrong width sum (bytes ++ more) at ≡ sum_field short wrong width sum bytes at
  unfolding sum_field
  sum-same width sum bytes more at room =
      ap (λ (front : List ℕ). bytes_field short wrong width (bytes_eq (sum front)) (bytes ++ more) at) (take-append-le at bytes more (omega arith))
      ∙ bytes-same width (bytes_eq (sum (take at bytes))) bytes more at room

  sum-ends : (width : ℕ) (sum : List ℕ → List ℕ) (bytes : List ℕ) (at : ℕ) (x : List ℕ × ℕ) → sum_field short wrong width sum bytes at ≡ Ok x → x.1 ≤ at + width
  unfolding sum_field
  sum-ends width sum bytes at x h = let f = bytes_field-ok short wrong width (bytes_eq (sum (take at bytes))) bytes at x h in omega (arith, f.next)

  pub sum_field-at_most : (width : ℕ) (sum : List ℕ → List ℕ) → ReadsAtMost width (Any {A = List ℕ}) (sum_field short wrong width sum)
  sum_field-at_most width sum = record {
    same = sum-same width sum;
    ends = λ bytes at x h. (sum-ends width sum bytes at x h, tt);
  }

pub number-at_most : (name : Field) (w : Width) (low high : ℕ) → ReadsAtMost (byte_len w) (λ (n : ℕ). n ≤ high) (number name w low high)
number-at_most name w low high = number_field-at_most (fault_at why.Short name) (fault_at why.Value name) w low high

pub bytes-at_most : (name : Field) (width : ℕ) (test : List ℕ → Bool)
    → ReadsAtMost width (Any {A = List ℕ}) (bytes_field (fault_at why.Short name) (fault_at why.Value name) width test)
bytes-at_most name width test = bytes_field-at_most (fault_at why.Short name) (fault_at why.Value name) width test

-- ---- several

pub whole-at_most : {E A : Type 0} (x : A) → ReadsAtMost 0 (Any {A = A}) (whole {E = E} x)
whole-at_most {E} {A} x = record {
  same = λ bytes more at room. refl;
  ends = λ bytes at y h. let is = ok_is {E = E} (x, at) y h in (omega (arith, ap (λ (z : A × ℕ). z.1) is), tt);
}

then-same : {E A B : Type 0} (n m : ℕ) (P : A → Type 0) (Q : B → Type 0) (r : Result (A × ℕ) E) (next : A → Layout E B) (bytes more : List ℕ) (at : ℕ)
    → ((x : A × ℕ) → r ≡ Ok x → (x.1 ≤ at + n) × P x.0) → ((x : A) → P x → ReadsAtMost m Q (next x)) → at + (n + m) ≤ length bytes
    → then_read r next (bytes ++ more) ≡ then_read r next bytes
then-same n m P Q (Ok x) next bytes more at first rest room =
    let f = first x refl in
    (rest x.0 f.1).same bytes more x.1 (omega (arith, f.0, room))
then-same n m P Q (Err e) next bytes more at first rest room = refl

infixl 10 ◌>>>◌
pub ◌>>>◌ : {E A B : Type 0} {n m : ℕ} {P : A → Type 0} {Q : B → Type 0} {first : Layout E A} {next : A → Layout E B}
    → ReadsAtMost n P first → ((x : A) → P x → ReadsAtMost m Q (next x)) → ReadsAtMost (n + m) Q (first >>= next)
◌>>>◌ {E} {A} {B} {n} {m} {P} {Q} {first} {next} one rest = record {
  same = λ bytes more at room.
      ap (λ (r : Result (A × ℕ) E). then_read r next (bytes ++ more)) (one.same bytes more at (omega (arith, room)))
      ∙ then-same n m P Q (first bytes at) next bytes more at (one.ends bytes at) rest room;
  ends = λ bytes at y h.
      let f = then_read-ok (first bytes at) next bytes y h in
      let a = one.ends bytes at f.0 f.1 in
      let b = (rest f.0.0 a.1).ends bytes f.0.1 y f.2 in
      (omega (arith, a.0, b.0), b.1);
}

pub repeated-at_most : {E S X : Type 0} (each : ℕ) (P : X → Type 0) (item : S → Layout E X) (next : S → X → S) → ((s : S) → ReadsAtMost each P (item s)) → (n : ℕ) (s : S)
    → ReadsAtMost (n * each) (Any {A = List X}) (repeated item next n s)
unfolding repeated
repeated-at_most each P item next one zero s = wider 0 (0 * each) (omega arith) (whole-at_most _)
repeated-at_most each P item next one (suc n) s =
    wider (each + (n * each + 0)) (suc n * each) (omega arith)
    (one s >>> λ x p. repeated-at_most each P item next one n (next s x) >>> λ others q. whole-at_most (x ∷ others))

-- so many, or fewer
pub several : {E S X : Type 0} (each : ℕ) (P : X → Type 0) (item : S → Layout E X) (next : S → X → S) → ((s : S) → ReadsAtMost each P (item s)) → (n high : ℕ) (s : S) → n ≤ high
    → ReadsAtMost (high * each) (Any {A = List X}) (repeated item next n s)
several each P item next one n high s le = wider (n * each) (high * each) (mul-le-mul_right each le) (repeated-at_most each P item next one n s)

-- ---- a whole file

ends-same : {A : Type 0} (most : ℕ) (r : Result (A × ℕ) LayoutFault) (bytes more : List ℕ) → most < length bytes → ((x : A × ℕ) → r ≡ Ok x → x.1 ≤ most)
    → then_read r (λ x. end >>= λ nothing. whole x) (bytes ++ more) ≡ then_read r (λ x. end >>= λ nothing. whole x) bytes
ends-same most (Ok x) bytes more long first =
    let le = first x refl in
    rw (lt-ltb x.1 (length (bytes ++ more)) (omega (arith, le, length-append bytes more)), lt-ltb x.1 (length bytes) (omega (arith, le))) refl
ends-same most (Err e) bytes more long first = refl

file-same : {A : Type 0} (most : ℕ) (P : A → Type 0) (layout : Layout LayoutFault A) → ReadsAtMost most P layout → (bytes more : List ℕ) → most < length bytes
    → (layout >>= λ x. end >>= λ nothing. whole x) (bytes ++ more) 0 ≡ (layout >>= λ x. end >>= λ nothing. whole x) bytes 0
file-same {A} most P layout at_most bytes more long =
    ap (λ (r : Result (A × ℕ) LayoutFault). then_read r (λ x. end >>= λ nothing. whole x) (bytes ++ more)) (at_most.same bytes more 0 (omega (arith, long)))
    ∙ ends-same most (layout bytes 0) bytes more long (λ x h. let e = (at_most.ends bytes 0 x h).0 in omega (arith, e))

-- One byte more than the layout reads at most is as good as all bytes.
pub front-same : {A : Type 0} (most : ℕ) (P : A → Type 0) (layout : Layout LayoutFault A) → ReadsAtMost most P layout → (file : List ℕ)
    → (layout >>= λ x. end >>= λ nothing. whole x) (take (most + 1) file) 0 ≡ (layout >>= λ x. end >>= λ nothing. whole x) file 0
front-same {A} most P layout at_most file = elim (cases_lt most (length file)) [
  | inl lt ↦
      let size : length (take (most + 1) file) ≡ most + 1 = omega (arith, length-take (most + 1) file, lt) in
      sym (file-same most P layout at_most (take (most + 1) file) (drop (most + 1) file) (omega (arith, size)))
      ∙ ap (λ (bytes : List ℕ). (layout >>= λ x. end >>= λ nothing. whole x) bytes 0) (take-append-drop (most + 1) file)
  | inr le ↦ ap (λ (bytes : List ℕ). (layout >>= λ x. end >>= λ nothing. whole x) bytes 0) (take_all (most + 1) file (omega (arith, le)))
]
