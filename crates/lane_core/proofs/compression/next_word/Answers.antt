use Rattle.std.proofs.Common.{◌≡◌, ◌%◌, ◌+◌, arith, refl}
use Rattle.lane_core.proofs.Vectors.{lane_word}
use Rattle.lane_core.proofs.compression.next_word.Goals as goal

pub returns-clause-value : goal.returns-clause-value
returns-clause-value c j h =
    let w = c.args.w.now in
    let at : c.args.place % 16 ≡ c.args.place = omega arith in
    rw (
      at,
      lane_word j w ((c.args.place + 14) % 16),
      lane_word j w ((c.args.place + 9) % 16),
      lane_word j w ((c.args.place + 1) % 16),
      lane_word j w c.args.place,
      c.add-word.ensures j h,
      c.add.ensures j h,
      c.add-far.ensures j h,
      c.small_sigma1.ensures j h,
      c.small_sigma0.ensures j h,
    ) refl
