use Rattle.std.proofs.Common.{◌≡◌, ◌∙◌, ◌+◌, ◌-◌, ℕ, List, [], take, drop, slice_index, slice_index_or, ap, arith}
use Rattle.sha2.specs.Sha256.{compress}
use Rattle.lane_core.specs.Lanes.{lane}
use Rattle.lane_core.proofs.Vectors.{each_lane, lane_word}
use Rattle.lane_core.proofs.states.after_block.Goals as goal

pub returns : goal.returns
returns c =
    let begun = c.args.at in
    let long : begun + 64 - begun ≡ 64 = omega arith in
    let message : ℕ → List ℕ = λ j. slice_index_or c.args.messages.now j [] in
    let block : ℕ → List ℕ = λ j. take (begun + 64 - begun) (drop begun (message j)) in
    let words = c.words_of-block.result in
    each_lane (λ (j : ℕ). lane j c.compress.new.state ≡ compress (lane j c.args.states.now) (take 64 (drop begun (message j))))
    (rw long at (c.compress.ensures 0 (omega arith) (block 0) (λ k below. lane_word 0 words k ∙ ap (λ (v : List ℕ). slice_index v 0) (c.words_of-block.ensures k below))))
    (rw long at (c.compress.ensures 1 (omega arith) (block 1) (λ k below. lane_word 1 words k ∙ ap (λ (v : List ℕ). slice_index v 1) (c.words_of-block.ensures k below))))
    (rw long at (c.compress.ensures 2 (omega arith) (block 2) (λ k below. lane_word 2 words k ∙ ap (λ (v : List ℕ). slice_index v 2) (c.words_of-block.ensures k below))))
    (rw long at (c.compress.ensures 3 (omega arith) (block 3) (λ k below. lane_word 3 words k ∙ ap (λ (v : List ℕ). slice_index v 3) (c.words_of-block.ensures k below))))
