use Rattle.std.proofs.Common.{◌≡◌, ℕ, ◌<◌, ◌^◌, ◌*◌, ◌/◌, ◌%◌, ◌+◌, sym, arith, rules}
use Rattle.ribbon_core.specs.PlaneWords.{kept_plane, kept_word, place}
use Rattle.ribbon_core.proofs.Words.{number_word}
use Rattle.ribbon_core.proofs.MaskedWords.{lane_of_two, lane_of_three, high_mask_below}
use Rattle.ribbon_core.proofs.reading.chosen_lanes.Goals as goal

pub returns-then-shift-eq0-clause-sums : goal.returns-then-shift-eq0-clause-sums
returns-then-shift-eq0-clause-sums g c width plane in_width lt few =
    let word : (j : ℕ) → j < width → kept_word c.args.words.now c.args.planes plane j ≡ kept_plane c.args.words.now c.args.planes width plane / 2 ^ (64 * j) % 2 ^ 64
    = λ j h. sym (number_word (kept_word c.args.words.now c.args.planes plane) (λ i. omega (arith, c.type_inv.words (place c.args.planes plane i))) width j h) in
    rw (c.xor_lanes-pair.ensures.each plane few, c.run_of-low.ensures.each plane few, c.run_of-middle.ensures.each plane few)
    (lane_of_two (kept_plane c.args.words.now c.args.planes width plane) c.args.start c.args.coeff (search rules) _ _ c.if-shift-eq0.true
    (word (c.args.start / 64) (omega arith)) (word (c.args.start / 64 + 1) (omega arith)))

pub overflow_cast-coeff : goal.overflow_cast-coeff
overflow_cast-coeff g c = record { fits = high_mask_below c.args.coeff (c.args.start % 64) (search rules) (omega arith) }

pub returns-clause-sums : goal.returns-clause-sums
returns-clause-sums g c width plane in_width lt few =
    let word : (j : ℕ) → j < width → kept_word c.args.words.now c.args.planes plane j ≡ kept_plane c.args.words.now c.args.planes width plane / 2 ^ (64 * j) % 2 ^ 64
    = λ j h. sym (number_word (kept_word c.args.words.now c.args.planes plane) (λ i. omega (arith, c.type_inv.words (place c.args.planes plane i))) width j h) in
    rw (
      c.xor_lanes.ensures.each plane few,
      c.xor_lanes-pair.ensures.each plane few,
      c.run_of-low.ensures.each plane few,
      c.run_of-middle.ensures.each plane few,
      c.run_of-high.ensures.each plane few,
    )
    (lane_of_three (kept_plane c.args.words.now c.args.planes width plane) c.args.start c.args.coeff (search rules) _ _ _
    (word (c.args.start / 64) (omega arith)) (word (c.args.start / 64 + 1) (omega arith)) (word (c.args.start / 64 + 2) (omega arith)))
