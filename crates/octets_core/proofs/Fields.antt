-- What a field that was read tells.
use Rattle.std.proofs.Common.{◌≡◌, ℕ, zero, suc, ◌+◌, ◌≤◌, Bool, true, false, cond, ltb, leb, ◌&&◌, List, [], ◌∷◌, length, Result, Ok, Err, refl, ap, subst}
use Rattle.std.specs.Int.{Width, byte_len, from_be_bytes}
use Rattle.std.proofs.lemmas.Bool.{ltb-false, leb-true}
use Rattle.octets_core.specs.Position.{piece}
use Rattle.octets_core.specs.Linked.{Linked}
use Rattle.octets_core.specs.Layout.{Layout, then_read, within, whole, ◌>>=◌, bytes_field, number_field, repeated, with_fault, mapped}

-- the value of a step that did not fail
pub then_read-ok : {E A B : Type 0} (r : Result (A × ℕ) E) (next : A → Layout E B) (bytes : List ℕ) (y : B × ℕ) → then_read r next bytes ≡ Ok y
    → (x : A × ℕ) × (r ≡ Ok x) × (next x.0 bytes x.1 ≡ Ok y)
then_read-ok (Ok x) next bytes y e = (x, refl, e)
then_read-ok (Err d) next bytes y e = absurd cc

-- what an Ok holds
pub ok_is : {E A : Type 0} (x y : A) → ◌≡◌ {A = Result A E} (Ok x) (Ok y) → x ≡ y
ok_is x y e = cc

-- two tests that let a value through
tests_ok : {E A : Type 0} (a b : Bool) (d e : E) (x y : A) → cond a (Err d) (cond b (Ok x) (Err e)) ≡ Ok y → (a ≡ false) × (b ≡ true) × (x ≡ y)
tests_ok true b d e x y h = absurd cc
tests_ok false true d e x y h = (refl, refl, cc)
tests_ok false false d e x y h = absurd cc

pub record IsField (width : ℕ) (test : List ℕ → Bool) (bytes : List ℕ) (at : ℕ) (x : List ℕ × ℕ) : Type 0 where
  pub room : at + width ≤ length bytes
  pub value : piece width bytes at ≡ x.0
  pub passed : test (piece width bytes at) ≡ true
  pub next : at + width ≡ x.1

pub bytes_field-ok : {E : Type 0} (short wrong : ℕ → E) (width : ℕ) (test : List ℕ → Bool) (bytes : List ℕ) (at : ℕ) (x : List ℕ × ℕ)
    → bytes_field short wrong width test bytes at ≡ Ok x → IsField width test bytes at x
unfolding bytes_field
bytes_field-ok short wrong width test bytes at x h =
    let t = tests_ok (ltb (length bytes) (at + width)) (test (piece width bytes at)) (short at) (wrong at) (piece width bytes at, at + width) x h in
    record { room = ltb-false _ _ t.0; value = ap (λ (p : List ℕ × ℕ). p.0) t.2; passed = t.1; next = ap (λ (p : List ℕ × ℕ). p.1) t.2 }

pub record IsNumberField (w : Width) (low high : ℕ) (bytes : List ℕ) (at : ℕ) (x : ℕ × ℕ) : Type 0 where
  pub room : at + byte_len w ≤ length bytes
  pub value : from_be_bytes w (piece (byte_len w) bytes at) ≡ x.0
  pub from_low : low ≤ x.0
  pub to_high : x.0 ≤ high
  pub next : at + byte_len w ≡ x.1

and_true : (a b : Bool) → (a && b) ≡ true → (a ≡ true) × (b ≡ true)
and_true true true h = (refl, refl)
and_true true false h = absurd cc
and_true false b h = absurd cc

pub number_field-ok : {E : Type 0} (short wrong : ℕ → E) (w : Width) (low high : ℕ) (bytes : List ℕ) (at : ℕ) (x : ℕ × ℕ)
    → number_field short wrong w low high bytes at ≡ Ok x → IsNumberField w low high bytes at x
unfolding number_field
number_field-ok short wrong w low high bytes at x h =
    let n : ℕ = from_be_bytes w (piece (byte_len w) bytes at) in
    let t = tests_ok (ltb (length bytes) (at + byte_len w)) (within low high n) (short at) (wrong at) (n, at + byte_len w) x h in
    let value : n ≡ x.0 = ap (λ (p : ℕ × ℕ). p.0) t.2 in
    let both = and_true (leb low n) (leb n high) t.1 in
    record {
      room = ltb-false _ _ t.0;
      value = value;
      from_low = subst (λ (k : ℕ). low ≤ k) value (leb-true low n both.0);
      to_high = subst (λ (k : ℕ). k ≤ high) value (leb-true n high both.1);
      next = ap (λ (p : ℕ × ℕ). p.1) t.2;
    }

-- what holds of each item that is read holds of the list, which has as many items as were asked for
pub repeated-ok : {E S X : Type 0} (item : S → Layout E X) (next : S → X → S) (P : S → X → Type 0)
    → ((s : S) (bytes : List ℕ) (at : ℕ) (x : X × ℕ) → item s bytes at ≡ Ok x → P s x.0)
    → (n : ℕ) (s : S) (bytes : List ℕ) (at : ℕ) (y : List X × ℕ) → repeated item next n s bytes at ≡ Ok y → Linked P next s y.0 × (length y.0 ≡ n)
unfolding repeated
repeated-ok {E} {S} {X} item next P each zero s bytes at y h =
    let is = ok_is {E = E} ([], at) y h in
    subst (λ (z : List X × ℕ). Linked P next s z.0 × (length z.0 ≡ 0)) is (tt, refl)
repeated-ok {E} {S} {X} item next P each (suc n) s bytes at y h =
    let a = then_read-ok (item s bytes at) (λ x. repeated item next n (next s x) >>= λ others. whole (x ∷ others)) bytes y h in
    let b = then_read-ok (repeated item next n (next s a.0.0) bytes a.0.1) (λ others. whole (a.0.0 ∷ others)) bytes y a.2 in
    let is = ok_is {E = E} (a.0.0 ∷ b.0.0, b.0.1) y b.2 in
    let rest = repeated-ok item next P each n (next s a.0.0) bytes a.0.1 b.0 b.1 in
    subst (λ (z : List X × ℕ). Linked P next s z.0 × (length z.0 ≡ suc n)) is ((each s bytes at a.0 a.1, rest.0), ap suc rest.1)

with_fault-ok : {E F A : Type 0} (wrap : E → F) (r : Result (A × ℕ) E) (x : A × ℕ) → with_fault wrap r ≡ Ok x → r ≡ Ok x
with_fault-ok {E} {F} {A} wrap (Ok y) x h = ap (λ (z : A × ℕ). Ok z) (ok_is {E = F} y x h)
with_fault-ok wrap (Err e) x h = absurd cc

-- a value does not depend on the type of faults
pub mapped-ok : {E F A : Type 0} (wrap : E → F) (layout : Layout E A) (bytes : List ℕ) (at : ℕ) (x : A × ℕ) → mapped wrap layout bytes at ≡ Ok x → layout bytes at ≡ Ok x
mapped-ok {E} {F} {A} wrap layout bytes at x h = with_fault-ok wrap (layout bytes at) x h
