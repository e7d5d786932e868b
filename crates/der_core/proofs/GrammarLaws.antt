-- What is read is in the grammar, and what is in the grammar is read.
use Rattle.std.proofs.Common.{◌≡◌, ◌≢◌, ℕ, zero, suc, ◌+◌, ◌-◌, ◌<◌, ◌≤◌, ◌⊎◌, inl, inr, List, [], ◌∷◌, ◌++◌, length, take, drop, map, Bool, true, false, ◌||◌}
use Rattle.std.proofs.Common.{cond, nat_lt, nat_eq, Ok, Err, refl, sym, ap, subst, ◌∙◌, arith, length-append, length-drop, append_assoc}
use Rattle.std.specs.Prelude.{bit_and}
use Rattle.std.proofs.lemmas.Bool.{le-ltb, ltb-false}
use Rattle.std.proofs.lemmas.Bool.Decides.{nat_tests}
use Rattle.std.proofs.lemmas.List.{take-append-le, take-append-drop, length-take}
use Rattle.std.proofs.Math.Seq.{take-add, take-append_seam, drop-append_seam}
use Rattle.octets_core.specs.Numbers.{number}
use Rattle.der_core.specs.Elements.{Der, Read, Item, long_length, length_from, length_at, contents_at, element_at, items}
use Rattle.der_core.specs.Grammar.{IsLongLength, IsLength, IsElement, AreElements}
use Rattle.der_core.proofs.ItemLaws.{passed, other_number, items-ok, items-err, items-none}

no_test : (a b : ℕ) → a ≢ b → nat_eq a b ≡ false
no_test a b h = grind (arith, nat_tests)

-- a long length is read, whatever follows
long_read : (n first : ℕ) (octets rest : List ℕ) → IsLongLength n first octets → length_from first (octets ++ rest) ≡ Ok (n, 1 + length octets)
long_read n first octets rest h =
    let count : first - 128 ≡ length octets = omega (arith, h.count) in
    let t1 : nat_lt first 128 ≡ false = le-ltb first 128 (omega (arith, h.count)) in
    let t2 : nat_eq first 128 ≡ false = no_test first 128 (λ e. omega (arith, h.count, h.some)) in
    let t3 : nat_lt 132 first ≡ false = le-ltb 132 first (omega (arith, h.count, h.few)) in
    let t4 : nat_lt (length (octets ++ rest)) (length octets) ≡ false = le-ltb _ _ (omega (arith, length-append octets rest)) in
    let front : take (length octets) (octets ++ rest) ≡ octets = take-append_seam octets rest in
    let one : take 1 (octets ++ rest) ≡ take 1 octets = take-append-le 1 octets rest h.some in
    let t5 : nat_eq (number (take 1 octets)) 0 ≡ false = no_test _ 0 h.fewest in
    let t6 : nat_lt (number octets) 128 ≡ false = le-ltb _ 128 (omega (arith, h.value, h.long)) in
    rw (t1, t2, t3, count, t4, one, front, t5, t6) (ap (λ (k : ℕ). Ok (k, 1 + length octets)) (sym h.value))

short_read : (n first : ℕ) (rest : List ℕ) → n ≡ first → n < 128 → length_from first rest ≡ Ok (n, 1)
short_read n first rest e h =
    let t : nat_lt first 128 ≡ true = grind (arith, nat_tests) in
    rw t (ap (λ (k : ℕ). Ok (k, 1)) (sym e))

pub length-read : (n : ℕ) (size rest : List ℕ) → IsLength n size → length_at (size ++ rest) ≡ Ok (n, length size)
unfolding length_at
length-read n [] rest h = absurd h
length-read n (first ∷ octets) rest (inl h) = rw h.0 (short_read n first rest h.1 h.2)
length-read n (first ∷ octets) rest (inr h) =
    let s : 1 + length octets ≡ suc (length octets) = omega arith in
    long_read n first octets rest h ∙ ap (λ (k : ℕ). Ok (n, k)) s

contents_read : (tag : ℕ) (size contents rest : List ℕ) → contents_at tag (size ++ (contents ++ rest)) (Ok (length contents, length size))
    ≡ Ok (record { tag = tag; contents = contents }, length (tag ∷ (size ++ contents)))
contents_read tag size contents rest =
    let t : nat_lt (length (size ++ (contents ++ rest))) (length size + length contents) ≡ false =
    le-ltb _ _ (omega (arith, length-append size (contents ++ rest), length-append contents rest)) in
    let s : 1 + (length size + length contents) ≡ suc (length (size ++ contents)) = omega (arith, length-append size contents) in
    let front : take (length contents) (contents ++ rest) ≡ contents = take-append_seam contents rest in
    let back : drop (length size) (size ++ (contents ++ rest)) ≡ contents ++ rest = drop-append_seam size (contents ++ rest) in
    rw (t, back, front, s) refl

-- what is an element is read, whatever follows
pub element-read : (e : Der) (front rest : List ℕ) → IsElement e front → element_at (front ++ rest) ≡ Ok (e, length front)
unfolding element_at
element-read e front rest h =
    let t : nat_eq (bit_and e.tag 31) 31 ≡ false = no_test _ 31 h.tag in
    let r : length_at (h.size ++ (e.contents ++ rest)) ≡ Ok (length e.contents, length h.size) = length-read (length e.contents) h.size (e.contents ++ rest) h.is_size in
    rw (h.same, append_assoc h.size e.contents rest, t, r) (contents_read e.tag h.size e.contents rest)

chosen : {A : Type 0} (b : Bool) (x y z : A) → cond b x y ≡ z → ((b ≡ true) × (x ≡ z)) ⊎ ((b ≡ false) × (y ≡ z))
chosen true x y z h = inl (refl, h)
chosen false x y z h = inr (refl, h)

both_false : (a b : Bool) → (a || b) ≡ false → (a ≡ false) × (b ≡ false)
both_false true b h = cc
both_false false b h = (refl, h)

take-take_less : (m n : ℕ) (xs : List ℕ) → m ≤ n → take m (take n xs) ≡ take m xs
take-take_less zero n xs h = refl
take-take_less (suc m) zero xs h = absurd (omega arith)
take-take_less (suc m) (suc n) [] h = refl
take-take_less (suc m) (suc n) (x ∷ xs) h = ap (λ (ys : List ℕ). x ∷ ys) (take-take_less m n xs (omega arith))

long_taken : (first : ℕ) (octets : List ℕ) (x : ℕ × ℕ) → 128 < first → first ≤ 132 → long_length (first - 128) octets ≡ Ok x
    → IsLongLength x.0 first (take (first - 128) octets) × (x.1 ≡ 1 + (first - 128)) × (first - 128 ≤ length octets)
long_taken first octets x low high e =
    let p = passed _ (nat_lt (length octets) (first - 128)) _ x e in
    let q = passed _ (nat_eq (number (take 1 octets)) 0 || nat_lt (number (take (first - 128) octets)) 128) _ x p.1 in
    let t : (nat_eq (number (take 1 octets)) 0 ≡ false) × (nat_lt (number (take (first - 128) octets)) 128 ≡ false) = both_false _ _ q.0 in
    let room : first - 128 ≤ length octets = ltb-false _ _ p.0 in
    let len : length (take (first - 128) octets) ≡ first - 128 = omega (arith, length-take (first - 128) octets) in
    let pair : ℕ × ℕ = (number (take (first - 128) octets), 1 + (first - 128)) in
    let same : pair ≡ x = cc in
    let value : x.0 ≡ number (take (first - 128) octets) = ap (λ (p : ℕ × ℕ). p.0) (sym same) in
    let used : x.1 ≡ 1 + (first - 128) = ap (λ (p : ℕ × ℕ). p.1) (sym same) in
    let one : take 1 (take (first - 128) octets) ≡ take 1 octets = take-take_less 1 (first - 128) octets (omega arith) in (
      record {
        count = omega arith;
        some = omega arith;
        few = omega arith;
        value = value;
        fewest = rw one (other_number _ 0 t.0);
        long = let l : 128 ≤ number (take (first - 128) octets) = ltb-false _ 128 t.1 in omega arith;
      },
      used,
      room,
    )

pub record TakesLength (bytes : List ℕ) (x : ℕ × ℕ) : Type 0 where
  pub is_length : IsLength x.0 (take x.1 bytes)
  pub room : x.1 ≤ length bytes

pub length-taken : (bytes : List ℕ) (x : ℕ × ℕ) → length_at bytes ≡ Ok x → TakesLength bytes x
unfolding length_at
length-taken [] x e = cc
length-taken (first ∷ octets) x e =
    elim (chosen (nat_lt first 128) _ _ (Ok x) e) [
      | inl h ↦
          let pair : ℕ × ℕ = (first, 1) in
          let same : pair ≡ x = cc in
          let P : ℕ × ℕ → Type 0 = λ p. TakesLength (first ∷ octets) p in
          subst P same (record { is_length = inl (refl, refl, grind (arith, nat_tests)); room = omega arith })
      | inr h ↦
          let p = passed _ (nat_eq first 128 || nat_lt 132 first) _ x h.1 in
          let t = both_false _ _ p.0 in
          let least : 128 ≤ first = ltb-false _ _ h.0 in
          let other : first ≢ 128 = other_number first 128 t.0 in
          let low : 128 < first = omega arith in
          let r = long_taken first octets x low (ltb-false _ _ t.1) p.1 in
          let used : x.1 ≡ suc (first - 128) = omega (arith, r.1) in
          record { is_length = rw used (inr r.0); room = omega (arith, r.1, r.2) }
    ]

contents_taken : (tag : ℕ) (bytes : List ℕ) (r : Read ℕ) (x : Der × ℕ) → bit_and tag 31 ≢ 31 → ((y : ℕ × ℕ) → r ≡ Ok y → TakesLength bytes y)
    → contents_at tag bytes r ≡ Ok x → IsElement x.0 (take x.1 (tag ∷ bytes))
contents_taken tag bytes (Err f) x t size e = cc
contents_taken tag bytes (Ok y) x t size e =
    let p = passed _ (nat_lt (length bytes) (y.1 + y.0)) _ x e in
    let room : y.1 + y.0 ≤ length bytes = ltb-false _ _ p.0 in
    let s = size y refl in
    let pair : Der × ℕ = (record { tag = tag; contents = take y.0 (drop y.1 bytes) }, 1 + (y.1 + y.0)) in
    let same : pair ≡ x = cc in
    let P : Der × ℕ → Type 0 = λ p. IsElement p.0 (take p.1 (tag ∷ bytes)) in
    let len : length (take y.0 (drop y.1 bytes)) ≡ y.0 = omega (arith, length-take y.0 (drop y.1 bytes), length-drop y.1 bytes) in
    let next : 1 + (y.1 + y.0) ≡ suc (y.1 + y.0) = omega arith in
    let whole : take (y.1 + y.0) bytes ≡ take y.1 bytes ++ take y.0 (drop y.1 bytes) = take-add y.1 y.0 bytes in
    subst P same (record {
      tag = t;
      size = take y.1 bytes;
      is_size = rw len s.is_length;
      same = rw (next, whole) refl;
    })

-- what is read is an element
pub element-taken : (bytes : List ℕ) (x : Der × ℕ) → element_at bytes ≡ Ok x → IsElement x.0 (take x.1 bytes)
unfolding element_at
element-taken [] x e = cc
element-taken (tag ∷ bytes) x e =
    let p = passed _ (nat_eq (bit_and tag 31) 31) _ x e in
    contents_taken tag bytes (length_at bytes) x (other_number _ 31 p.0) (λ y h. length-taken bytes y h) p.1

-- elements one after the other are what an iterator gives
pub items-read : (es : List Der) (bytes : List ℕ) → AreElements es bytes → items bytes ≡ map (λ e. Ok e) es
items-read [] bytes h = rw h (items-none [] refl)
items-read (e ∷ es) bytes h =
    let front = h.0 in
    let rest = h.1 in
    let read : element_at (front ++ rest) ≡ Ok (e, length front) = element-read e front rest h.2 in
    let back : drop (length front) (front ++ rest) ≡ rest = drop-append_seam front rest in
    rw h.3 (items-ok (front ++ rest) (e, length front) read ∙ ap (λ (xs : List ℕ). Ok e ∷ items xs) back ∙ ap (λ (xs : List Item). Ok e ∷ xs) (items-read es rest h.4))

-- bytes that begin with this element, and what an iterator gives of the others
pub record FirstItem (bytes : List ℕ) (e : Der) (more : List Item) : Type 0 where
  pub n : ℕ
  pub read : element_at bytes ≡ Ok (e, n)
  pub rest : items (drop n bytes) ≡ more

pub first_item : (bytes : List ℕ) (r : Read Der) (e : Der) (more : List Item) → 0 < length bytes → element_at bytes ≡ r → items bytes ≡ Ok e ∷ more → FirstItem bytes e more
first_item bytes (Err f) e more some read h = let all = items-err bytes f some read in cc
first_item bytes (Ok x) e more some read h =
    let all = items-ok bytes x read in
    let both : Ok x.0 ∷ items (drop x.1 bytes) ≡ Ok e ∷ more = sym all ∙ h in
    let head : x.0 ≡ e = cc in
    let rest : items (drop x.1 bytes) ≡ more = cc in
    record { n = x.1; read = read ∙ ap (λ (d : Der). Ok (d, x.1)) head; rest = rest }

pub no_item : (bytes : List ℕ) (r : Read Der) → 0 < length bytes → element_at bytes ≡ r → items bytes ≡ [] → ⊥
no_item bytes (Err f) some read h = let all = items-err bytes f some read in cc
no_item bytes (Ok x) some read h = let all = items-ok bytes x read in cc

-- and what an iterator gives with no fault are the elements, one after the other
pub items-taken : (es : List Der) (bytes : List ℕ) → items bytes ≡ map (λ e. Ok e) es → AreElements es bytes
items-taken [] [] h = refl
items-taken [] (b ∷ bytes) h = absurd (no_item (b ∷ bytes) (element_at (b ∷ bytes)) (omega arith) refl h)
items-taken (e ∷ es) [] h = let none = items-none [] refl in absurd (let no : [] ≡ Ok e ∷ map (λ e. Ok e) es = sym none ∙ h in cc)
items-taken (e ∷ es) (b ∷ bytes) h =
    let first = first_item (b ∷ bytes) (element_at (b ∷ bytes)) e (map (λ e. Ok e) es) (omega arith) refl h in (
      take first.n (b ∷ bytes),
      drop first.n (b ∷ bytes),
      element-taken (b ∷ bytes) (e, first.n) first.read,
      sym (take-append-drop first.n (b ∷ bytes)),
      items-taken es (drop first.n (b ∷ bytes)) first.rest,
    )
