-- Back substitution: the columns from one on, as numbers, and as words.
use Rattle.std.proofs.Common.{◌≡◌, ℕ, zero, suc, ◌+◌, ◌-◌, ◌*◌, ◌/◌, ◌%◌, ◌^◌, ◌<◌, ◌≤◌, ◌≢◌, ◌⊎◌, inl, inr, refl, sym, ◌∙◌, arith, List, length, get_or, add-one, min}
use Rattle.std.specs.Int.{bit_at}
use Rattle.std.proofs.lemmas.Bool.{cases_lt}
use Rattle.ribbon_core.specs.Bands.{AreBanded, column_before, back, columns_from}
use Rattle.ribbon_core.specs.PlaneWords.{number_by, kept_word}
use Rattle.ribbon_core.proofs.Bands.{column_half, shift, div_one}

module _ (plane : ℕ) (cs ts : List ℕ) where
  pub columns_end : (p : ℕ) → length cs ≤ p → columns_from plane cs ts p ≡ 0
  unfolding back
  columns_end p le = let e : length cs - p ≡ 0 = omega arith in rw e refl

  pub columns_step : (p : ℕ) → p < length cs → columns_from plane cs ts p ≡ column_before (get_or cs p 0) (bit_at (get_or ts p 0) plane) (columns_from plane cs ts (p + 1))
  unfolding back
  columns_step p lt =
      let e : length cs - p ≡ suc (length cs - (p + 1)) = omega arith in
      rw (e, add-one) refl

-- a column of a plane and its pivot
pub band_pivots : (planes : ℕ) (cs ts : List ℕ) → AreBanded cs ts planes → (p : ℕ) → p < length cs → (get_or cs p 0 % 2 ≡ 1) ⊎ (get_or cs p 0 ≡ 0)
band_pivots planes cs ts bands p lt = elim (bands.pivots p lt) [ inl o ↦ inl o | inr e ↦ inr e.0 ]

module _ (plane : ℕ) (cs ts : List ℕ) (pivots : (p : ℕ) → p < length cs → (get_or cs p 0 % 2 ≡ 1) ⊎ (get_or cs p 0 ≡ 0)) where
  pub columns_half : (p : ℕ) → columns_from plane cs ts p / 2 ≡ columns_from plane cs ts (p + 1)
  columns_half p = elim (cases_lt p (length cs)) [
    | inl lt ↦ (rw (columns_step plane cs ts p lt) (column_half (get_or cs p 0) (bit_at (get_or ts p 0) plane) (columns_from plane cs ts (p + 1)) (pivots p lt)))
    | inr le ↦ (let e = columns_end plane cs ts p le in let f = columns_end plane cs ts (p + 1) (omega arith) in omega (arith, e, f))
  ]

  pub columns_shift : (j p : ℕ) → columns_from plane cs ts p / 2 ^ j ≡ columns_from plane cs ts (p + j)
  columns_shift zero p = let e : p + 0 ≡ p = omega arith in rw (e, div_one) refl
  columns_shift (suc j) p =
      let e : p + suc j ≡ (p + 1) + j = omega arith in
      rw (shift, columns_half p, e) (columns_shift j (p + 1))

  -- a word's columns and those above it
  pub columns_word : (p : ℕ) → columns_from plane cs ts p ≡ columns_from plane cs ts p % 2 ^ 64 + 2 ^ 64 * columns_from plane cs ts (p + 64)
  columns_word p = let e = columns_shift 64 p in omega (arith, e)

  -- the columns from the last one on, or from past it
  pub columns_min : (p : ℕ) → columns_from plane cs ts (min (length cs) p) ≡ columns_from plane cs ts p
  columns_min p = elim (cases_lt p (length cs)) [
    | inl lt ↦ (let e : min (length cs) p ≡ p = omega arith in rw e refl)
    | inr le ↦ (let e : min (length cs) p ≡ length cs = omega arith in rw e (columns_end plane cs ts (length cs) (omega arith) ∙ sym (columns_end plane cs ts p le)))
  ]

-- words that agree make one number
pub number_same : (f g : ℕ → ℕ) (i n : ℕ) → ((k : ℕ) → i ≤ k → k < i + n → f k ≡ g k) → number_by f i n ≡ number_by g i n
unfolding number_by
number_same f g i zero h = refl
number_same f g i (suc n) h =
    let e = h i (omega arith) (omega arith) in
    let r = number_same f g (suc i) n (λ k le lt. h k (omega arith) (omega arith)) in rw (e, r) refl

pub number_step : (f : ℕ → ℕ) (i n m : ℕ) → n ≡ m + 1 → number_by f i n ≡ f i + 2 ^ 64 * number_by f (i + 1) m
unfolding number_by
number_step f i n m e = let e' : n ≡ suc m = omega arith in let g : i + 1 ≡ suc i = omega arith in rw (e', g) refl

pub number_none : (f : ℕ → ℕ) (i n : ℕ) → n ≡ 0 → number_by f i n ≡ 0
unfolding number_by
number_none f i n e = rw e refl

-- the low word of the window is word i of the plane
pub word_written : (plane : ℕ) (cs ts : List ℕ) → ((p : ℕ) → p < length cs → (get_or cs p 0 % 2 ≡ 1) ⊎ (get_or cs p 0 ≡ 0))
    → (planes width i window : ℕ) (new old : List ℕ) → i < width → window ≡ columns_from plane cs ts (64 * i) % 2 ^ 128
    → kept_word new planes plane i ≡ window % 2 ^ 64
    → ((k : ℕ) → k ≢ i → kept_word new planes plane k ≡ kept_word old planes plane k)
    → number_by (kept_word old planes plane) (i + 1) (width - (i + 1)) ≡ columns_from plane cs ts (64 * (i + 1))
    → number_by (kept_word new planes plane) i (width - i) ≡ columns_from plane cs ts (64 * i)
word_written plane cs ts pivots planes width i window new old lt e written others h =
    let f : kept_word new planes plane i ≡ columns_from plane cs ts (64 * i) % 2 ^ 64 = omega (arith, written, e) in
    let g : 64 * (i + 1) ≡ 64 * i + 64 = omega arith in
    let n : width - i ≡ width - (i + 1) + 1 = omega arith in
    let s : number_by (kept_word new planes plane) (i + 1) (width - (i + 1)) ≡ number_by (kept_word old planes plane) (i + 1) (width - (i + 1))
    = number_same _ _ (i + 1) (width - (i + 1)) (λ k le k_lt. others k (omega arith)) in
    let s' = rw (h, g) at s in
    rw (number_step (kept_word new planes plane) i (width - i) (width - (i + 1)) n, s', f) (sym (columns_word plane cs ts pivots (64 * i)))
