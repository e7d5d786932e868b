-- A schedule that is made word after word.
use Rattle.std.proofs.Common.{◌≡◌, ◌∙◌, ℕ, ◌<◌, ◌≤◌, ◌+◌, ◌-◌, ◌*◌, inl, inr, List, length, slice_index, slice_set, sym, ap, arith, ◌++◌, []}
use Rattle.std.proofs.lemmas.List.{ext_get_or, get_or_append_left, get_or-set_same, get_or-set_other, length-append}
use Rattle.std.proofs.lemmas.Bool.{cases_lt}
use Rattle.sha2.specs.Sha256.{compress, next_word, schedule, word_at}
use Rattle.sha2.proofs.Schedule256.{length-schedule, slice_index-schedule_first, slice_index-schedule_next}
use Rattle.lane_core.specs.Lanes.{add_rounds, lane}
use Rattle.lane_core.proofs.Vectors.{lane_word}

module _ (b w : List ℕ) where
  -- the first t words are those of the block's schedule
  abbrev pub AreMade : ℕ → Type 0
  AreMade t = (k : ℕ) → k < t → slice_index w k ≡ slice_index (schedule b 48) k

  pub first_made : ((k : ℕ) → k < 16 → slice_index w k ≡ word_at b (4 * k)) → AreMade 16
  first_made words k below = words k below ∙ sym (slice_index-schedule_first b 48 k below)

  pub all_made : length w ≡ 64 → AreMade 64 → w ≡ schedule b 48
  all_made long made =
      ext_get_or 0 w (schedule b 48) (long ∙ sym (length-schedule b 48)) (λ k below. made k (omega arith))

  -- the next word is the schedule's
  next_made : (t : ℕ) → 16 ≤ t → t < 64 → AreMade t → next_word w t ≡ slice_index (schedule b 48) t
  next_made t low high made =
      rw (made (t - 2) (omega arith), made (t - 7) (omega arith), made (t - 15) (omega arith), made (t - 16) (omega arith))
      (sym (slice_index-schedule_next b 48 t low (omega arith)))

  pub one_made : (t x : ℕ) (after : List ℕ) → 16 ≤ t → t < 64 → length w ≡ 64 → after ≡ slice_set w t x → x ≡ next_word w t → AreMade t
      → (k : ℕ) → k < t + 1 → slice_index after k ≡ slice_index (schedule b 48) k
  one_made t x after low high long ea ex made k below = rw ea (elim (cases_lt k t) [
    | inl before ↦ get_or-set_other w t k x 0 (omega arith) ∙ made k before
    | inr last ↦
        let e : t ≡ k = omega arith in
        rw (← e) (get_or-set_same w t x 0 (omega arith) ∙ ex ∙ next_made t low high made)
  ])

-- the rounds of a block's schedule are the block's compression
pub compressed : (h w b after : List ℕ) → after ≡ add_rounds h w → w ≡ schedule b 48 → after ≡ compress h b
unfolding compress
compressed h w b after ea ew = ea ∙ ap (add_rounds h) ew

-- the words of a block in its lane of four
pub lane_begun : (j : ℕ) (x y : List (List ℕ)) (k : ℕ) → k < length x → slice_index (lane j (x ++ y)) k ≡ slice_index (lane j x) k
lane_begun j x y k below =
    lane_word j (x ++ y) k ∙ ap (λ (v : List ℕ). slice_index v j) (get_or_append_left x y [] k below) ∙ sym (lane_word j x k)

pub long_behind : (x y : List (List ℕ)) → length x ≡ 16 → length y ≡ 48 → length (x ++ y) ≡ 64
long_behind x y lx ly = omega (arith, length-append x y)
