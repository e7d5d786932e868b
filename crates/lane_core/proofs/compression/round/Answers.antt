use Rattle.std.proofs.Common.{refl}
use Rattle.lane_core.proofs.Vectors.{lane_of_one, lane_word}
use Rattle.lane_core.proofs.compression.round.Goals as goal

pub returns : goal.returns
returns c j h =
    rw (
      lane_word j c.args.v 0,
      lane_word j c.args.v 1,
      lane_word j c.args.v 2,
      lane_word j c.args.v 3,
      lane_word j c.args.v 4,
      lane_word j c.args.v 5,
      lane_word j c.args.v 6,
      lane_word j c.args.v 7,
      c.add-3.ensures j h,
      c.add-4.ensures j h,
      c.add-temp1.ensures j h,
      c.add-temp2.ensures j h,
      c.add-2.ensures j h,
      lane_of_one c.args.k j h,
      c.add-chosen.ensures j h,
      c.add.ensures j h,
      c.big_sigma1.ensures j h,
      c.ch.ensures j h,
      c.big_sigma0.ensures j h,
      c.maj.ensures j h,
    ) refl
