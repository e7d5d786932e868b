use Rattle.std.proofs.Common.{◌≡◌, ◌*◌, ◌∙◌, ap, arith, refl}
use Rattle.sha2.specs.Sha256.{rounds}
use Rattle.lane_core.specs.Lanes.{lane}
use Rattle.lane_core.proofs.single.compress.Goals as goal

pub rounds-init : goal.rounds-init
unfolding rounds
rounds-init c = refl

pub rounds-preserved : goal.rounds-preserved
rounds-preserved c =
    let h = c.args.state.now in
    let after = rounds h (lane c.args.j c.args.w.now) in
    c.four_steps-v-in-rounds.ensures h (c.four_steps-v.ensures h c.rounds.invariant) ∙ ap after (omega arith)

pub returns : goal.returns
returns c =
    let end : 8 * c.rounds.turn ≡ 64 = omega arith in
    let done : c.rounds.v ≡ rounds c.args.state.now (lane c.args.j c.args.w.now) 64 = rw end at c.rounds.invariant in
    rw (← done) refl
