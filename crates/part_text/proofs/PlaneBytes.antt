-- Columns as bytes: what is spelled so is read, and what is read is spelled so.
use Rattle.std.proofs.Common.{◌≡◌, ℕ, zero, suc, ◌+◌, ◌*◌, ◌/◌, ◌%◌, ◌^◌, ◌<◌, ◌↔◌, List, [], ◌∷◌, ◌++◌, length, get_or, take, drop, eqb, refl, sym, ap, subst, ◌∙◌, append_assoc, length-append, arith}
use Rattle.std.specs.Prelude.{map}
use Rattle.std.specs.Int.{w64, from_be_bytes, to_be_bytes}
use Rattle.std.specs.Simd.{first_chunks}
use Rattle.std.proofs.lemmas.List.{append-nil, take_at, drop_at, take-append-drop, length-take, length-drop, get_or-drop}
use Rattle.std.proofs.lemmas.Bool.{eqb-true, eq-eqb, ltb_from_iff}
use Rattle.std.proofs.Math.Nat.{div-lt_iff_lt-mul}
use Rattle.std.proofs.lemmas.Nat.{pow-add, shr_below, shr-shr, pow_pos}
use Rattle.octets_core.proofs.Texts.{IsBytes, IsBytes-piece, wide64}
use Rattle.equation_core.specs.Sizes.{columns_for, words_for}
use Rattle.ribbon_core.specs.PlaneWords.{number_by}
use Rattle.part_text.specs.PlaneBytes.{columns_of_bytes, bytes_of_columns, is_padded}

pub length-bytes : (n Z : ℕ) → length (bytes_of_columns n Z) ≡ 8 * n
unfolding bytes_of_columns
length-bytes zero Z = refl
length-bytes (suc n) Z = omega (arith, length-append (to_be_bytes w64 (Z % 2 ^ 64)) (bytes_of_columns n (Z / 2 ^ 64)), length-bytes n (Z / 2 ^ 64))

word_again : (Z : ℕ) → from_be_bytes w64 (to_be_bytes w64 (Z % 2 ^ 64)) ≡ Z % 2 ^ 64
word_again Z = wide64.again (Z % 2 ^ 64) (omega arith)

fewer_words : (n Z : ℕ) → Z < 2 ^ (64 * suc n) → Z / 2 ^ 64 < 2 ^ (64 * n)
fewer_words n Z lt =
    let e : 64 * suc n ≡ 64 * n + 64 = omega arith in
    shr_below Z (64 * n) 64 (rw e at lt)

pub columns-again : (n Z : ℕ) → Z < 2 ^ (64 * n) → columns_of_bytes n (bytes_of_columns n Z) ≡ Z
unfolding columns_of_bytes bytes_of_columns
columns-again zero Z lt = omega arith
columns-again (suc n) Z lt =
    let first : take 8 (to_be_bytes w64 (Z % 2 ^ 64) ++ bytes_of_columns n (Z / 2 ^ 64))
    ≡ to_be_bytes w64 (Z % 2 ^ 64) = take_at (to_be_bytes w64 (Z % 2 ^ 64)) (bytes_of_columns n (Z / 2 ^ 64)) 8 refl in
    let others : drop 8 (to_be_bytes w64 (Z % 2 ^ 64) ++ bytes_of_columns n (Z / 2 ^ 64))
    ≡ bytes_of_columns n (Z / 2 ^ 64) = drop_at (to_be_bytes w64 (Z % 2 ^ 64)) (bytes_of_columns n (Z / 2 ^ 64)) 8 refl in
    ap (λ (l : List ℕ). from_be_bytes w64 l + 2 ^ 64 * columns_of_bytes n (drop 8 (to_be_bytes w64 (Z % 2 ^ 64) ++ bytes_of_columns n (Z / 2 ^ 64)))) first
    ∙ ap (λ (l : List ℕ). from_be_bytes w64 (to_be_bytes w64 (Z % 2 ^ 64)) + 2 ^ 64 * columns_of_bytes n l) others
    ∙ ap (λ (x : ℕ). x + 2 ^ 64 * columns_of_bytes n (bytes_of_columns n (Z / 2 ^ 64))) (word_again Z)
    ∙ ap (λ (x : ℕ). Z % 2 ^ 64 + 2 ^ 64 * x) (columns-again n (Z / 2 ^ 64) (fewer_words n Z lt))
    ∙ omega arith

word-below : (bytes : List ℕ) → IsBytes bytes → from_be_bytes w64 bytes < 2 ^ 64
word-below bytes fits = omega (arith, fits 0, fits 1, fits 2, fits 3, fits 4, fits 5, fits 6, fits 7)

first-fits : (bytes : List ℕ) → IsBytes bytes → IsBytes (take 8 bytes)
first-fits bytes fits = IsBytes-piece 8 bytes 0 fits

others-fit : (bytes : List ℕ) → IsBytes bytes → IsBytes (drop 8 bytes)
others-fit bytes fits = λ i. rw get_or-drop (fits (8 + i))

low_word : (a r : ℕ) → a < 2 ^ 64 → (a + 2 ^ 64 * r) % 2 ^ 64 ≡ a
low_word a r lt = omega arith

high_words : (a r : ℕ) → a < 2 ^ 64 → (a + 2 ^ 64 * r) / 2 ^ 64 ≡ r
high_words a r lt = omega arith

pub bytes-back : (n : ℕ) (bytes : List ℕ) → length bytes ≡ 8 * n → IsBytes bytes → bytes_of_columns n (columns_of_bytes n bytes) ≡ bytes
unfolding columns_of_bytes bytes_of_columns
bytes-back zero [] len fits = refl
bytes-back zero (b ∷ bytes) len fits = absurd (omega arith)
bytes-back (suc n) bytes len fits =
    let x : ℕ = from_be_bytes w64 (take 8 bytes) in
    let r : ℕ = columns_of_bytes n (drop 8 bytes) in
    let below = word-below (take 8 bytes) (first-fits bytes fits) in
    let word : to_be_bytes w64 x ≡ take 8 bytes = wide64.back (take 8 bytes) (omega (arith, length-take 8 bytes)) (first-fits bytes fits) in
    let rest : bytes_of_columns n r ≡ drop 8 bytes = bytes-back n (drop 8 bytes) (omega (arith, length-drop 8 bytes)) (others-fit bytes fits) in
    ap (λ (k : ℕ). to_be_bytes w64 k ++ bytes_of_columns n ((x + 2 ^ 64 * r) / 2 ^ 64)) (low_word x r below)
    ∙ ap (λ (k : ℕ). to_be_bytes w64 x ++ bytes_of_columns n k) (high_words x r below)
    ∙ ap (λ (l : List ℕ). l ++ bytes_of_columns n r) word
    ∙ ap (λ (l : List ℕ). take 8 bytes ++ l) rest
    ∙ take-append-drop 8 bytes

word_more : (i Z : ℕ) → bytes_of_columns (suc i) Z ≡ bytes_of_columns i Z ++ to_be_bytes w64 (Z / 2 ^ (64 * i) % 2 ^ 64)
unfolding bytes_of_columns
word_more zero Z =
    let e : Z % 2 ^ 64 ≡ Z / 2 ^ (64 * 0) % 2 ^ 64 = omega arith in
    append-nil (to_be_bytes w64 (Z % 2 ^ 64)) ∙ ap (to_be_bytes w64) e
word_more (suc i) Z =
    let e : 64 + 64 * i ≡ 64 * suc i = omega arith in
    let s : Z / 2 ^ 64 / 2 ^ (64 * i) ≡ Z / 2 ^ (64 * suc i) = shr-shr Z 64 (64 * i) ∙ ap (λ (x : ℕ). Z / 2 ^ x) e in
    ap (λ (l : List ℕ). to_be_bytes w64 (Z % 2 ^ 64) ++ l) (word_more i (Z / 2 ^ 64))
    ∙ ap (λ (x : ℕ). to_be_bytes w64 (Z % 2 ^ 64) ++ (bytes_of_columns i (Z / 2 ^ 64) ++ to_be_bytes w64 (x % 2 ^ 64))) s
    ∙ sym (append_assoc (to_be_bytes w64 (Z % 2 ^ 64)) (bytes_of_columns i (Z / 2 ^ 64)) (to_be_bytes w64 (Z / 2 ^ (64 * suc i) % 2 ^ 64)))

-- one word more
pub bytes-more : (i Z : ℕ) → bytes_of_columns (i + 1) Z ≡ bytes_of_columns i Z ++ to_be_bytes w64 (Z / 2 ^ (64 * i) % 2 ^ 64)
bytes-more i Z = let e : i + 1 ≡ suc i = omega arith in ap (λ (k : ℕ). bytes_of_columns k Z) e ∙ word_more i Z

-- the words that bytes spell are those of the columns
pub number-spelled : (f : ℕ → ℕ) (n i : ℕ) (bytes : List ℕ) → ((k : ℕ) → k < n → f (i + k) ≡ get_or (map (from_be_bytes w64) (first_chunks 8 n bytes)) k 0) → number_by f i n ≡ columns_of_bytes n bytes
unfolding number_by columns_of_bytes
number-spelled f zero i bytes same = refl
number-spelled f (suc n) i bytes same =
    let z : i + 0 ≡ i = omega arith in
    let first : f i ≡ from_be_bytes w64 (take 8 bytes) = rw z at (same 0 (omega arith)) in
    let others : number_by f (suc i) n ≡ columns_of_bytes n (drop 8 bytes) = number-spelled f n (suc i) (drop 8 bytes) (λ k lt.
    let e : suc i + k ≡ i + suc k = omega arith in
    ap f e ∙ same (suc k) (omega arith)) in
    ap (λ (x : ℕ). x + 2 ^ 64 * number_by f (suc i) n) first ∙ ap (λ (x : ℕ). from_be_bytes w64 (take 8 bytes) + 2 ^ 64 * x) others

padding-of_last : (n r : ℕ) (bytes : List ℕ) → IsBytes bytes → (columns_of_bytes (suc n) bytes < 2 ^ (64 * n + r)) ↔ (from_be_bytes w64 (get_or (first_chunks 8 (suc n) bytes) n []) < 2 ^ r)
unfolding columns_of_bytes
padding-of_last zero r bytes fits =
    let e : 64 * 0 + r ≡ r = omega arith in
    let p : 2 ^ (64 * 0 + r) ≡ 2 ^ r = ap (λ (x : ℕ). 2 ^ x) e in
    (λ h. omega (arith, h, p), λ h. omega (arith, h, p))
padding-of_last (suc n) r bytes fits =
    let below = word-below (take 8 bytes) (first-fits bytes fits) in
    let more = padding-of_last n r (drop 8 bytes) (others-fit bytes fits) in
    let e : 64 * suc n + r ≡ 64 + (64 * n + r) = omega arith in
    let p : 2 ^ (64 * suc n + r) ≡ 2 ^ 64 * 2 ^ (64 * n + r) = ap (λ (x : ℕ). 2 ^ x) e ∙ pow-add 2 64 (64 * n + r) in
    (λ h. more.0 (omega (arith, h, p)), λ h. let lt = more.1 h in omega (arith, lt, p, below))

-- a test of the last word is the test of the padding
pub padded-by_last : (starts n columns last : ℕ) (plane : List ℕ) → IsBytes plane → suc n ≡ words_for starts → 64 * n + columns ≡ columns_for starts
    → last ≡ from_be_bytes w64 (get_or (first_chunks 8 (suc n) plane) n []) → eqb (last / 2 ^ columns) 0 ≡ is_padded starts plane
padded-by_last starts n columns last plane fits words all is =
    let p = padding-of_last n columns plane fits in
    let at : (last / 2 ^ columns < 1) ↔ (last < 1 * 2 ^ columns) = div-lt_iff_lt-mul (pow_pos columns) in
    ltb_from_iff (
      λ h.
          let z = eqb-true (last / 2 ^ columns) 0 h in
          let lt : last < 1 * 2 ^ columns = at.0 (omega (arith, z)) in
          let low : from_be_bytes w64 (get_or (first_chunks 8 (suc n) plane) n []) < 2 ^ columns = omega (arith, lt, is) in
          subst (λ (k : ℕ). columns_of_bytes k plane < 2 ^ columns_for starts) words (subst (λ (k : ℕ). columns_of_bytes (suc n) plane < 2 ^ k) all (p.1 low)),
      λ h.
          let few : columns_of_bytes (suc n) plane < 2 ^ (64 * n + columns) = subst (λ (k : ℕ). columns_of_bytes (suc n) plane < 2 ^ k) (sym all)
          (subst (λ (k : ℕ). columns_of_bytes k plane < 2 ^ columns_for starts) (sym words) h) in
          let low = p.0 few in
          let lt : last < 1 * 2 ^ columns = omega (arith, low, is) in
          let less : last / 2 ^ columns < 1 = at.1 lt in
          eq-eqb (last / 2 ^ columns) 0 (omega (arith, less)),
    )
