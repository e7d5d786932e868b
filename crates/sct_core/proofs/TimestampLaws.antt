-- What is read as timestamps stands in the bytes, and what stands there is read.
use Rattle.std.proofs.Common.{◌≡◌, ◌≢◌, ℕ, List, [], ◌∷◌, ◌++◌, length, Bool, true, false, cond, nat_eq, Option, Some, None, refl, sym, ap, ◌∙◌, subst, arith, append-nil}
use Rattle.octets_core.specs.Walk.{ends, value_of, and_more, all_of}
use Rattle.octets_core.specs.Vectors.{bytes_field, number_field, vector, some_vector}
use Rattle.octets_core.proofs.Filling.{all_of-none, all_of-ends, all_of-more}
use Rattle.der_core.proofs.ItemLaws.{same_number, other_number}
use Rattle.der_core.proofs.WalkLaws.{step, given-step, ends-step, ends-read, value-step}
use Rattle.der_core.proofs.Steps.{whole-is}
use Rattle.log_core.specs.VectorGrammar.{IsVector}
use Rattle.log_core.proofs.VectorLaws.{join, bytes-read, bytes-taken, number-read, number-taken, vector-read, vector-taken, some_vector-read, some_vector-taken}
use Rattle.ident_core.specs.declared.range.Sighting.{Sighting}
use Rattle.sct_core.specs.Timestamps.{version_1, with_some, timestamp_in, timestamp}
use Rattle.sct_core.specs.Grammar.{IsVersion1, IsTimestamp, StandsTimestamp, AreTimestamps}
use Rattle.sct_core.proofs.ListLaws.{shrinks}

exact-read : (n : ℕ) (front rest : List ℕ) → length front ≡ n → bytes_field n (front ++ rest) ≡ Some (front, rest)
exact-read n front rest h =
    let P : ℕ → Type 0 = λ m. bytes_field m (front ++ rest) ≡ Some (front, rest) in
    subst P h (bytes-read front rest)

vector-end : (width : ℕ) (x bytes : List ℕ) → IsVector width x bytes → vector width bytes ≡ Some (x, [])
vector-end width x bytes h =
    let P : List ℕ → Type 0 = λ bs. vector width bs ≡ Some (x, []) in
    subst P (append-nil bytes) (vector-read width x bytes [] h)

version_1-read : (s : Sighting) (bytes : List ℕ) → IsVersion1 s bytes → version_1 bytes ≡ Some (s, [])
unfolding version_1
version_1-read s bytes h =
    let d : List ℕ = h.algorithms ++ h.signature in
    let c : List ℕ = h.extensions ++ d in
    let b : List ℕ = h.time ++ c in
    rw (
      h.same,
      exact-read 32 s.log b h.is_log,
      number-read 8 s.time h.time c h.is_time,
      vector-read 2 h.unread h.extensions d h.is_extensions,
      exact-read 2 h.algorithms h.signature h.is_algorithms,
      vector-end 2 h.signed h.signature h.is_signature,
      ends-read,
    ) refl

version_1-taken : (bytes : List ℕ) (x : Sighting × List ℕ) → version_1 bytes ≡ Some x → IsVersion1 x.0 bytes
unfolding version_1
version_1-taken bytes x h =
    let a = step (bytes_field 32 bytes) _ x h in
    let b = step (number_field 8 a.0.1) _ x a.2 in
    let c = step (vector 2 b.0.1) _ x b.2 in
    let d = step (bytes_field 2 c.0.1) _ x c.2 in
    let e = step (vector 2 d.0.1) _ x d.2 in
    let f = step (ends e.0.1) _ x e.2 in
    let made : Sighting = record { log = a.0.0; time = b.0.0 } in
    let same : made ≡ x.0 = whole-is made f.0.1 x f.2 in
    let fa = bytes-taken 32 bytes a.0 a.1 in
    let fb = number-taken 8 a.0.1 b.0 b.1 in
    let fc = vector-taken 2 b.0.1 c.0 c.1 in
    let fd = bytes-taken 2 c.0.1 d.0 d.1 in
    let fe = vector-taken 2 d.0.1 e.0 e.1 in
    let none = ends-step e.0.1 f.0 f.1 in
    let last : d.0.1 ≡ fe.front = fe.same ∙ ap (λ (r : List ℕ). fe.front ++ r) none.0 ∙ append-nil fe.front in
    let log : bytes ≡ a.0.0 ++ a.0.1 = fa.same ∙ ap (λ (r : List ℕ). r ++ a.0.1) fa.is.0 in
    let fourth = join c.0.1 fd.front d.0.1 fe.front fd.same last in
    let third = join b.0.1 fc.front c.0.1 (fd.front ++ fe.front) fc.same fourth in
    let second = join a.0.1 fb.front b.0.1 (fc.front ++ (fd.front ++ fe.front)) fb.same third in
    let P : Sighting → Type 0 = λ s. IsVersion1 s bytes in
    subst P same (record {
      time = fb.front;
      unread = c.0.0;
      extensions = fc.front;
      algorithms = fd.front;
      signed = e.0.0;
      signature = fe.front;
      is_log = sym (ap length fa.is.0) ∙ fa.is.1;
      is_time = fb.is;
      is_extensions = fc.is;
      is_algorithms = fd.is.1;
      is_signature = fe.is;
      same = join bytes a.0.0 a.0.1 (fb.front ++ (fc.front ++ (fd.front ++ fe.front))) log second;
    })

pub no_number : (a b : ℕ) → a ≢ b → (t : Bool) → nat_eq a b ≡ t → nat_eq a b ≡ false
no_number a b h true t = absurd (h (same_number a b t))
no_number a b h false t = t

timestamp_in-read : (x : Option Sighting) (bytes : List ℕ) → IsTimestamp x bytes → timestamp_in bytes ≡ Some x
timestamp_in-read (Some s) bytes h =
    let P : List ℕ → Type 0 = λ bs. timestamp_in bs ≡ Some (Some s) in
    subst P (sym h.1) (rw (version_1-read s h.0 h.2) refl)
timestamp_in-read None bytes h =
    let P : List ℕ → Type 0 = λ bs. timestamp_in bs ≡ Some None in
    subst P (sym h.2) (rw (no_number h.0 0 h.3 (nat_eq h.0 0) refl) refl)

with-taken : {A : Type 0} (r : Option A) (x : Option A) → with_some r ≡ Some x → (y : A) × (r ≡ Some y) × (Some y ≡ x)
with-taken None x h = cc
with-taken (Some y) x h = (y, refl, cc)

by-version : (version : ℕ) (rest : List ℕ) (x : Option Sighting) (b : Bool) → nat_eq version 0 ≡ b
    → cond b (with_some (value_of (version_1 rest))) (Some None) ≡ Some x → IsTimestamp x (version ∷ rest)
by-version version rest x false t h =
    let same : None ≡ x = cc in
    let P : Option Sighting → Type 0 = λ y. IsTimestamp y (version ∷ rest) in
    subst P same (version, rest, refl, other_number version 0 t)
by-version version rest x true t h =
    let w = with-taken (value_of (version_1 rest)) x h in
    let v = value-step (version_1 rest) w.0 w.1 in
    let P : Option Sighting → Type 0 = λ y. IsTimestamp y (version ∷ rest) in
    subst P w.2 (rest, ap (λ (n : ℕ). n ∷ rest) (same_number version 0 t), version_1-taken rest (w.0, v.0) v.1)

timestamp_in-taken : (x : Option Sighting) (bytes : List ℕ) → timestamp_in bytes ≡ Some x → IsTimestamp x bytes
timestamp_in-taken x [] h = cc
timestamp_in-taken x (version ∷ rest) h = by-version version rest x (nat_eq version 0) refl h

timestamp-read : (x : Option Sighting) (bytes rest : List ℕ) → StandsTimestamp x bytes rest → timestamp bytes ≡ Some (x, rest)
unfolding timestamp
timestamp-read x bytes rest h = rw (h.same, some_vector-read 2 h.contents h.front rest h.is_vector, timestamp_in-read x h.contents h.is) refl

timestamp-taken : (bytes : List ℕ) (x : Option Sighting × List ℕ) → timestamp bytes ≡ Some x → StandsTimestamp x.0 bytes x.1
unfolding timestamp
timestamp-taken bytes x h =
    let y = step (some_vector 2 bytes) _ x h in
    let f = some_vector-taken 2 bytes y.0 y.1 in
    let g = given-step (timestamp_in y.0.0) y.0.1 x y.2 in
    record { contents = y.0.0; front = f.front; is_vector = f.is; is = timestamp_in-taken x.0 y.0.0 g.0; same = join bytes f.front y.0.1 x.1 f.same g.1 }

pub all-read : (xs : List (Option Sighting)) (bytes : List ℕ) → AreTimestamps xs bytes → all_of timestamp bytes ≡ Some xs
all-read [] bytes h = all_of-ends timestamp bytes (ap length h)
all-read (x ∷ xs) bytes h =
    all_of-more timestamp shrinks bytes (x, h.0) (timestamp-read x bytes h.0 h.1)
    ∙ ap (and_more (Some x)) (all-read xs h.0 h.2)

none-more : {A : Type 0} (x : A) (r : Option (List A)) → and_more (Some x) r ≡ Some [] → ⊥
none-more x None h = cc
none-more x (Some xs) h = cc

more-taken : {A : Type 0} (x : A) (r : Option (List A)) (y : A) (ys : List A) → and_more (Some x) r ≡ Some (y ∷ ys) → (x ≡ y) × (r ≡ Some ys)
more-taken x None y ys h = cc
more-taken x (Some xs) y ys h = let same : (x ∷ xs) ≡ (y ∷ ys) = cc in (cc, cc)

none-left : (bytes : List ℕ) (r : Option (Option Sighting × List ℕ)) → timestamp bytes ≡ r → all_of timestamp bytes ≡ Some [] → bytes ≡ []
none-left [] r e h = refl
none-left (b ∷ bytes) None e h = let none = all_of-none timestamp (b ∷ bytes) (omega arith) e in cc
none-left (b ∷ bytes) (Some y) e h =
    let more = all_of-more timestamp shrinks (b ∷ bytes) y e in
    absurd (none-more y.0 (all_of timestamp y.1) (sym more ∙ h))

first-left : (bytes : List ℕ) (r : Option (Option Sighting × List ℕ)) (x : Option Sighting) (xs : List (Option Sighting)) → timestamp bytes ≡ r
    → all_of timestamp bytes ≡ Some (x ∷ xs) → (y : Option Sighting × List ℕ) × (timestamp bytes ≡ Some y)
first-left [] r x xs e h = let none = all_of-ends timestamp [] refl in cc
first-left (b ∷ bytes) None x xs e h = let none = all_of-none timestamp (b ∷ bytes) (omega arith) e in cc
first-left (b ∷ bytes) (Some y) x xs e h = (y, e)

pub all-taken : (xs : List (Option Sighting)) (bytes : List ℕ) → all_of timestamp bytes ≡ Some xs → AreTimestamps xs bytes
all-taken [] bytes h = none-left bytes (timestamp bytes) refl h
all-taken (x ∷ xs) bytes h =
    let y = first-left bytes (timestamp bytes) x xs refl h in
    let more = all_of-more timestamp shrinks bytes y.0 y.1 in
    let parts = more-taken y.0.0 (all_of timestamp y.0.1) x xs (sym more ∙ h) in
    let P : Option Sighting → Type 0 = λ z. StandsTimestamp z bytes y.0.1 in
    (y.0.1, subst P parts.0 (timestamp-taken bytes y.0 y.1), all-taken xs y.0.1 parts.1)
