use Rattle.std.proofs.Common.{◌≡◌, ℕ, List, length, slice_index, refl, ◌*◌, ◌∙◌, arith}
use Rattle.std.proofs.lemmas.List.{length-map}
use Rattle.sha2.specs.Sha256.{compress, rounds, schedule}
use Rattle.sha2.proofs.Schedule256.{IsRoundsAt_at, IsWindow_first}
use Rattle.lane_core.specs.Lanes.{lane}
use Rattle.lane_core.proofs.Vectors.{lane_word}
use Rattle.lane_core.proofs.compression.compress.Goals as goal

pub schedule-init : goal.schedule-init
unfolding rounds
schedule-init c j lt b words =
    let w = lane j c.args.block.now in
    let h = lane j c.args.state.now in
    let long : length w ≡ 16 = length-map c.args.block.now (λ (v : List ℕ). slice_index v j) ∙ omega arith in
    let window = IsWindow_first b w long words in
    let one = c.first_four_steps-v.ensures j lt b h window refl in
    let two = c.first_four_steps-v-2.ensures j lt b h window one in
    let three = c.first_four_steps-v-3.ensures j lt b h window two in
    (window, c.first_four_steps-v-4.ensures j lt b h window three)

pub schedule-preserved : goal.schedule-preserved
schedule-preserved c j lt b words =
    let h = lane j c.args.state.now in
    let one = c.four_steps-v.ensures j lt b h (IsRoundsAt_at b h _ _ _ _ (omega arith) (c.schedule.invariant j lt b words)) in
    let two = c.four_steps-v-in-schedule.ensures j lt b h one in
    let three = c.four_steps-v-in-schedule-2.ensures j lt b h two in
    let four = c.four_steps-v-in-schedule-3.ensures j lt b h three in
    IsRoundsAt_at b h _ _ _ _ (omega arith) four

pub returns : goal.returns
unfolding compress
returns c j lt b words =
    let h = lane j c.args.state.now in
    let v = c.schedule.v in
    let end : 16 * c.schedule.turn ≡ 64 = omega (arith, c.schedule.auto.turn-end (omega arith)) in
    let done : lane j v ≡ rounds h (schedule b 48) 64 = rw end at (c.schedule.invariant j lt b words).1 in
    rw (
      ← done,
      c.add.ensures j lt,
      c.add-2.ensures j lt,
      c.add-3.ensures j lt,
      c.add-4.ensures j lt,
      c.add-5.ensures j lt,
      c.add-6.ensures j lt,
      c.add-7.ensures j lt,
      c.add-8.ensures j lt,
      lane_word j c.args.state.now 0,
      lane_word j c.args.state.now 1,
      lane_word j c.args.state.now 2,
      lane_word j c.args.state.now 3,
      lane_word j c.args.state.now 4,
      lane_word j c.args.state.now 5,
      lane_word j c.args.state.now 6,
      lane_word j c.args.state.now 7,
      lane_word j v 0,
      lane_word j v 1,
      lane_word j v 2,
      lane_word j v 3,
      lane_word j v 4,
      lane_word j v 5,
      lane_word j v 6,
      lane_word j v 7,
    ) refl
