use Rattle.std.proofs.Common.{◌≡◌, ◌∙◌, ℕ, List, length, slice_index, ap, arith, refl, rules}
use Rattle.std.proofs.lemmas.List.{length-map, map-set}
use Rattle.lane_core.specs.Lanes.{lane}
use Rattle.lane_core.proofs.Schedules.{AreMade, all_made, first_made, lane_begun, long_behind, one_made}
use Rattle.lane_core.proofs.schedule.schedules.Goals as goal

long_lane : (j : ℕ) (w : List (List ℕ)) → length w ≡ 64 → length (lane j w) ≡ 64
long_lane j w long = length-map w (λ (v : List ℕ). slice_index v j) ∙ long

pub words-init : goal.words-init
words-init c = (
  long_behind c.copy_from_slice.new.self _ (omega arith) refl,
  λ j lt b words. first_made b _ (λ k below.
      let same : c.copy_from_slice.new.self ≡ c.args.block.now = c.copy_from_slice.ensures.after in
      lane_begun j c.copy_from_slice.new.self _ k (omega (arith, ap (λ (l : List (List ℕ)). length l) same))
      ∙ ap (λ (l : List (List ℕ)). slice_index (lane j l) k) same ∙ words k below),
)

pub words-preserved : goal.words-preserved
words-preserved c = (
  search rules,
  λ j lt b words.
      let made : AreMade b (lane j c.words.w) c.words.t = c.words.invariant.1 j lt b words in
      one_made b (lane j c.words.w) c.words.t (slice_index c.next_word.result j) _ (omega arith) (omega arith)
      (long_lane j c.words.w c.words.invariant.0)
      (map-set (λ (v : List ℕ). slice_index v j) c.words.w c.words.t c.next_word.result)
      (c.next_word.ensures j lt) made,
)

pub returns : goal.returns
returns c j lt b words =
    let end : c.words.t ≡ 64 = omega arith in
    all_made b (lane j c.words.w) (long_lane j c.words.w c.words.invariant.0) (rw end at (c.words.invariant.1 j lt b words))
