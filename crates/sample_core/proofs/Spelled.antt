-- What the generator spells is DER.
use Rattle.std.proofs.Common.{◌≡◌, ◌≢◌, ℕ, ◌<◌, ◌≤◌, inl, inr, List, [], ◌∷◌, ◌++◌, length, Bool, true, false, cond, nat_lt, refl, sym, arith, append-nil}
use Rattle.std.specs.Prelude.{bit_and, take}
use Rattle.std.specs.Int.{w16, w32, to_be_bytes}
use Rattle.std.proofs.lemmas.Bool.{ltb-true, ltb-false}
use Rattle.octets_core.specs.Numbers.{number, three_bytes}
use Rattle.der_core.specs.Elements.{Der}
use Rattle.der_core.specs.Grammar.{IsLongLength, IsLength, IsElement, AreElements}
use Rattle.crl_core.specs.Grammar.{tagged}
use Rattle.sample_core.specs.Sample.{der_length, sequence}

-- ---- lengths

either : (P : List ℕ → Type 0) (b : Bool) (x y : List ℕ) → (b ≡ true → P x) → (b ≡ false → P y) → P (cond b x y)
either P true x y first second = first refl
either P false x y first second = second refl

one-octet : (n : ℕ) → 128 ≤ n → IsLongLength n 0x81 (n ∷ [])
one-octet n long = record {
  count = refl;
  some = omega arith;
  few = omega arith;
  value = omega arith;
  fewest = λ (e : number (take 1 (n ∷ [])) ≡ 0). omega arith;
  long = long;
}

two-octets : (n : ℕ) → 256 ≤ n → n < 65536 → IsLongLength n 0x82 (to_be_bytes w16 n)
two-octets n long short = record {
  count = refl;
  some = omega arith;
  few = omega arith;
  value = omega arith;
  fewest = λ (e : number (take 1 (to_be_bytes w16 n)) ≡ 0). omega arith;
  long = omega arith;
}

three-octets : (n : ℕ) → 65536 ≤ n → n < 16777216 → IsLongLength n 0x83 (three_bytes n)
three-octets n long short = record {
  count = refl;
  some = omega arith;
  few = omega arith;
  value = omega arith;
  fewest = λ (e : number (take 1 (three_bytes n)) ≡ 0). omega arith;
  long = omega arith;
}

four-octets : (n : ℕ) → 16777216 ≤ n → n < 4294967296 → IsLongLength n 0x84 (to_be_bytes w32 n)
four-octets n long short = record {
  count = refl;
  some = omega arith;
  few = omega arith;
  value = omega arith;
  fewest = λ (e : number (take 1 (to_be_bytes w32 n)) ≡ 0). omega arith;
  long = omega arith;
}

length-spelled : (n : ℕ) → n < 4294967296 → IsLength n (der_length n)
length-spelled n fits =
    either (IsLength n) (nat_lt n 128) _ _ (λ t. inl (refl, refl, ltb-true n 128 t)) (λ f1.
    either (IsLength n) (nat_lt n 256) _ _ (λ t. inr (one-octet n (ltb-false n 128 f1))) (λ f2.
    either (IsLength n) (nat_lt n 65536) _ _ (λ t. inr (two-octets n (ltb-false n 256 f2) (ltb-true n 65536 t))) (λ f3.
    either (IsLength n) (nat_lt n 16777216) _ _ (λ t. inr (three-octets n (ltb-false n 65536 f3) (ltb-true n 16777216 t))) (λ f4.
    inr (four-octets n (ltb-false n 16777216 f4) fits)))))

-- ---- elements

pub sequence-spelled : (contents : List ℕ) → length contents < 4294967296 → IsElement (tagged 0x30 contents) (sequence contents)
sequence-spelled contents fits = record {
  tag = λ e. omega (arith, e);
  size = der_length (length contents);
  is_size = length-spelled (length contents) fits;
  same = refl;
}

pub short-element : (tag n : ℕ) (contents : List ℕ) → bit_and tag 31 ≢ 31 → length contents ≡ n → n < 128 → IsElement (tagged tag contents) (tag ∷ n ∷ contents)
short-element tag n contents is_tag long short = record {
  tag = is_tag;
  size = n ∷ [];
  is_size = inl (refl, long, omega arith);
  same = refl;
}

pub element-and : (e : Der) (es : List Der) (front rest bytes : List ℕ) → IsElement e front → bytes ≡ front ++ rest → AreElements es rest → AreElements (e ∷ es) bytes
element-and e es front rest bytes first same others = (front, rest, first, same, others)

pub element-alone : (e : Der) (bytes : List ℕ) → IsElement e bytes → AreElements (e ∷ []) bytes
element-alone e bytes first = (bytes, [], first, sym (append-nil bytes), refl)
