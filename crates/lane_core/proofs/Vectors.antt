-- Vectors of four words, as the lists of their lanes.
use Rattle.std.proofs.Common.{◌≡◌, ℕ, zero, suc, ◌<◌, ◌-◌, ◌*◌, ◌/◌, ◌%◌, ◌^◌, List, [], ◌∷◌, length, map, slice_index, slice_index_or, bit_and, bit_or, bit_xor, refl, sym, ◌∙◌, arith}
use Rattle.std.specs.Simd.Lanes.{zip2}
use Rattle.std.proofs.lemmas.List.{length-map, get_or-map}
use Rattle.std.proofs.lemmas.Simd.{get_or-zip2, length-zip2}
use Rattle.std.specs.Int.{w32, bit_not, rotate_right}
use Rattle.sha2.specs.Sha256.{ch, maj}
use Rattle.lane_core.specs.Lanes.{lane}
use Rattle.lane_core.proofs.Majority.{majority}

-- what holds of each lane
pub each_lane : (P : ℕ → Type 0) → P 0 → P 1 → P 2 → P 3 → (j : ℕ) → j < 4 → P j
each_lane P a b c d zero h = a
each_lane P a b c d (suc zero) h = b
each_lane P a b c d (suc (suc zero)) h = c
each_lane P a b c d (suc (suc (suc zero))) h = d
each_lane P a b c d (suc (suc (suc (suc n)))) h = absurd (omega arith)

-- lane j of the vector of one word
pub lane_of_one : (k j : ℕ) → j < 4 → slice_index (k ∷ k ∷ k ∷ k ∷ []) j ≡ k
lane_of_one k = each_lane _ refl refl refl refl

-- lane j of what two vectors give
lane_of_two : (f : ℕ → ℕ → ℕ) (x y : List ℕ) (j : ℕ) → length x ≡ 4 → length y ≡ 4 → j < 4
    → slice_index (zip2 f x y) j ≡ f (slice_index x j) (slice_index y j)
lane_of_two f x y j lx ly h = get_or-zip2 f x y j 0 0 0 (omega arith) (omega arith)

long_two : (f : ℕ → ℕ → ℕ) (x y : List ℕ) → length x ≡ 4 → length y ≡ 4 → length (zip2 f x y) ≡ 4
long_two f x y lx ly = length-zip2 f x y (lx ∙ sym ly) ∙ lx

-- a shift of each lane
pub shifted : (x : List ℕ) (k j : ℕ) → length x ≡ 4 → j < 4
    → slice_index (zip2 (λ a n. a / 2 ^ n) x (k ∷ k ∷ k ∷ k ∷ [])) j ≡ slice_index x j / 2 ^ k
shifted x k j long h =
    rw (lane_of_two (λ a n. a / 2 ^ n) x (k ∷ k ∷ k ∷ k ∷ []) j long refl h, lane_of_one k j h) refl

shifted_left : (x : List ℕ) (k j : ℕ) → length x ≡ 4 → j < 4
    → slice_index (zip2 (λ a n. a * 2 ^ n % 2 ^ 32) x (k ∷ k ∷ k ∷ k ∷ [])) j ≡ slice_index x j * 2 ^ k % 2 ^ 32
shifted_left x k j long h =
    rw (lane_of_two (λ a n. a * 2 ^ n % 2 ^ 32) x (k ∷ k ∷ k ∷ k ∷ []) j long refl h, lane_of_one k j h) refl

-- two shifts of each lane and an or are a rotation
pub rotated : (x : List ℕ) (k j : ℕ) → 0 < k → k < 32 → length x ≡ 4 → j < 4
    → slice_index (zip2 bit_or (zip2 (λ a n. a / 2 ^ n) x (k ∷ k ∷ k ∷ k ∷ []))
    (zip2 (λ a n. a * 2 ^ n % 2 ^ 32) x ((32 - k) ∷ (32 - k) ∷ (32 - k) ∷ (32 - k) ∷ []))) j
    ≡ rotate_right w32 (slice_index x j) k
rotated x k j low high long h =
    let back : List ℕ = (32 - k) ∷ (32 - k) ∷ (32 - k) ∷ (32 - k) ∷ [] in
    let right : List ℕ = zip2 (λ a n. a / 2 ^ n) x (k ∷ k ∷ k ∷ k ∷ []) in
    let left : List ℕ = zip2 (λ a n. a * 2 ^ n % 2 ^ 32) x back in
    let lr : length right ≡ 4 = long_two (λ a n. a / 2 ^ n) x (k ∷ k ∷ k ∷ k ∷ []) long refl in
    let ll : length left ≡ 4 = long_two (λ a n. a * 2 ^ n % 2 ^ 32) x back long refl in
    let by : k % 32 ≡ k = omega arith in
    let rest : (32 - k) % 32 ≡ 32 - k = omega arith in
    rw (by, rest, lane_of_two bit_or right left j lr ll h, shifted x k j long h, shifted_left x (32 - k) j long h) refl

-- word k in lane j
pub lane_word : (j : ℕ) (x : List (List ℕ)) (k : ℕ) → slice_index (lane j x) k ≡ slice_index (slice_index_or x k []) j
lane_word j [] k = refl
lane_word j (v ∷ x) zero = refl
lane_word j (v ∷ x) (suc k) = lane_word j x k

module _ (x y z : List ℕ) (j : ℕ) (lx : length x ≡ 4) (ly : length y ≡ 4) (lz : length z ≡ 4) (h : j < 4) where
  -- three vectors under xor
  pub xor_three : slice_index (zip2 bit_xor (zip2 bit_xor x y) z) j
      ≡ bit_xor (bit_xor (slice_index x j) (slice_index y j)) (slice_index z j)
  xor_three =
      rw (lane_of_two bit_xor (zip2 bit_xor x y) z j (long_two bit_xor x y lx ly) lz h, lane_of_two bit_xor x y j lx ly h) refl

  -- Ch of each lane
  pub chosen : slice_index (zip2 bit_xor (zip2 bit_and x y) (zip2 bit_and (map (bit_not w32) x) z)) j
      ≡ ch (slice_index x j) (slice_index y j) (slice_index z j)
  chosen =
      let turned : List ℕ = map (bit_not w32) x in
      let lt : length turned ≡ 4 = length-map x (bit_not w32) ∙ lx in
      let at : slice_index turned j ≡ bit_not w32 (slice_index x j) = get_or-map (bit_not w32) x j 0 0 (omega arith) in
      rw (
        lane_of_two bit_xor (zip2 bit_and x y) (zip2 bit_and turned z) j (long_two bit_and x y lx ly) (long_two bit_and turned z lt lz) h,
        lane_of_two bit_and x y j lx ly h,
        lane_of_two bit_and turned z j lt lz h,
        at,
      ) refl

  -- Maj of each lane
  pub most : slice_index (zip2 bit_xor y (zip2 bit_and (zip2 bit_xor x y) (zip2 bit_xor y z))) j
      ≡ maj (slice_index x j) (slice_index y j) (slice_index z j)
  most =
      let xy : length (zip2 bit_xor x y) ≡ 4 = long_two bit_xor x y lx ly in
      let yz : length (zip2 bit_xor y z) ≡ 4 = long_two bit_xor y z ly lz in
      rw (
        lane_of_two bit_xor y (zip2 bit_and (zip2 bit_xor x y) (zip2 bit_xor y z)) j ly (long_two bit_and (zip2 bit_xor x y) (zip2 bit_xor y z) xy yz) h,
        lane_of_two bit_and (zip2 bit_xor x y) (zip2 bit_xor y z) j xy yz h,
        lane_of_two bit_xor x y j lx ly h,
        lane_of_two bit_xor y z j ly lz h,
      ) (majority (slice_index x j) (slice_index y j) (slice_index z j))
