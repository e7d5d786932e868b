use Rattle.std.proofs.Common.{◌≡◌, ◌<◌, ◌+◌, ◌-◌, ◌/◌, ◌^◌, ℕ, length, refl, sym, ◌∙◌, arith}
use Rattle.card_core.proofs.Searching.{halved}
use Rattle.view_core.proofs.PlaceSearch.{lacks_others, lacks_less, lacks_greater, is_place, no_place}
use Rattle.view_core.proofs.places.place_of.Goals as goal

pub loop-low-init : goal.loop-low-init
loop-low-init g c =
    let n : ℕ = length c.args.places.now in
    let p : ℕ = c.args.probes.now in
    let one : 2 ^ (p - p) ≡ 1 = (let z : p - p ≡ 0 = omega arith in rw z refl) in
    record {
      steps = record { later = omega arith; order = c.bounds_of-low.ensures.order; within = c.bounds_of-low.ensures.within; room = rw one (omega arith); few = rw one (omega arith) };
      lacks = lacks_others c.args.bytes.now c.args.places.now c.args.buckets.now c.args.issuer.now c.bounds_of-low.result (λ i. omega (arith, c.type_inv.bytes i))
          c.bounds_of-low.ensures.value;
    }

pub returns-in-Equal-clause-place : goal.returns-in-Equal-clause-place
returns-in-Equal-clause-place g c =
    let middle : ℕ = c.loop-low.low + (c.loop-low.high - c.loop-low.low) / 2 in
    let lt : middle < length c.args.places.now = omega (arith, c.loop-low.invariant.steps.within, c.loop-low-test.true) in
    is_place c.args.bytes.now c.args.places.now c.args.buckets.now c.args.issuer.now c.loop-low.low c.loop-low.high c.loop-low.invariant.lacks middle lt
    (λ k len s. sym (c.order_at.ensures k len s) ∙ c.in-Equal.is)

pub returns-in-Equal-clause-few : goal.returns-in-Equal-clause-few
returns-in-Equal-clause-few g c =
    let h = halved (length c.args.places.now) c.args.probes.now c.loop-low.probes c.loop-low.low c.loop-low.high c.loop-low.low c.loop-low.low
    c.loop-low.invariant.steps c.loop-low-test.true (omega arith) (omega (arith, c.loop-low.invariant.steps.within, c.loop-low-test.true)) (omega arith) in
    rw c.tick.ensures h.few

pub loop-low-preserved-in-Less : goal.loop-low-preserved-in-Less
loop-low-preserved-in-Less g c =
    let middle : ℕ = c.loop-low.low + (c.loop-low.high - c.loop-low.low) / 2 in
    let lt : middle < length c.args.places.now = omega (arith, c.loop-low.invariant.steps.within, c.loop-low-test.true) in
    record {
      steps = rw c.tick.ensures (halved (length c.args.places.now) c.args.probes.now c.loop-low.probes c.loop-low.low c.loop-low.high (middle + 1)
          c.loop-low.high c.loop-low.invariant.steps c.loop-low-test.true
          (omega (arith, c.loop-low-test.true)) c.loop-low.invariant.steps.within (omega (arith, c.loop-low-test.true)));
      lacks = lacks_less c.args.bytes.now c.args.places.now c.args.buckets.now c.args.issuer.now c.loop-low.low c.loop-low.high c.loop-low.invariant.lacks middle lt
          (λ k len s. sym (c.order_at.ensures k len s) ∙ c.in-Less.is);
    }

pub loop-low-preserved : goal.loop-low-preserved
loop-low-preserved g c =
    let middle : ℕ = c.loop-low.low + (c.loop-low.high - c.loop-low.low) / 2 in
    let lt : middle < length c.args.places.now = omega (arith, c.loop-low.invariant.steps.within, c.loop-low-test.true) in
    record {
      steps = rw c.tick.ensures (halved (length c.args.places.now) c.args.probes.now c.loop-low.probes c.loop-low.low c.loop-low.high c.loop-low.low middle
          c.loop-low.invariant.steps c.loop-low-test.true
          (omega arith) (omega arith) (omega (arith, c.loop-low-test.true)));
      lacks = lacks_greater c.args.bytes.now c.args.places.now c.args.buckets.now c.args.issuer.now c.loop-low.low c.loop-low.high c.loop-low.invariant.lacks middle lt
          (λ k len s. sym (c.order_at.ensures k len s) ∙ c.in-Greater.is);
    }

pub returns-clause-place : goal.returns-clause-place
returns-clause-place g c =
    no_place c.args.bytes.now c.args.places.now c.args.buckets.now c.args.issuer.now c.loop-low.low c.loop-low.high c.loop-low-test.false c.loop-low.invariant.lacks
