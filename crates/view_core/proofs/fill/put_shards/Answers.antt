use Rattle.std.proofs.Common.{◌<◌, length, get_or, ap, arith}
use Rattle.card_core.specs.declared.leaf.Leaf.TheVariants.{Clean}
use Rattle.part_text.specs.PartText.{shard_leaf_text}
use Rattle.view_core.specs.declared.fill.Walk.{Walk}
use Rattle.view_core.proofs.Endings.{stands_next}
use Rattle.view_core.proofs.Filling.{place, places_indexed, went_none, went_more, went_all, placed}
use Rattle.view_core.proofs.fill.put_shards.Goals as goal

pub loop-init : goal.loop-init
loop-init c = record {
  value = λ leaves fits count s. went_none shard_leaf_text place c.args.index.now c.args.from leaves;
  went = record { within = c.requires.place; more = omega arith; few = omega arith };
}

pub returns-in_err-end-clause-value : goal.returns-in_err-end-clause-value
returns-in_err-end-clause-value c = λ leaves fits count s.
    let i = c.loop.counter in
    let lt : i < length leaves = omega (arith, count) in
    let went = c.loop.invariant.value leaves fits count s in
    let stands = stands_next shard_leaf_text c.args.store.now c.args.from.at leaves i Clean c.loop.walk.at lt went.at s in
    let walked = c.in_err-end.ensures.value (get_or leaves i Clean) (fits i Clean lt) stands in
    absurd (cc)

pub loop-preserved : goal.loop-preserved
loop-preserved c =
    let next = c.put_place-walk.ensures.walk in
    let went = c.loop.invariant.went in
    record {
      value = λ leaves fits count s.
          let i = c.loop.counter in
          let lt : i < length leaves = omega (arith, count) in
          let went = c.loop.invariant.value leaves fits count s in
          let x = get_or leaves i Clean in
          let stands = stands_next shard_leaf_text c.args.store.now c.args.from.at leaves i Clean c.loop.walk.at lt went.at s in
          let one = placed shard_leaf_text c.loop.index c.put_place-walk.new.index c.loop.walk c.put_place-walk.result x c.in_ok-end.end next
          (c.in_ok-end.ensures.value x (fits i Clean lt) stands) c.put_place-walk.ensures.wrote in
          went_more shard_leaf_text place c.args.index.now c.loop.index c.put_place-walk.new.index c.args.from c.loop.walk
          c.put_place-walk.result leaves i Clean lt went one;
      went = record {
        within = rw next c.in_ok-end.ensures.within;
        more = omega (arith, went.more, ap (λ (w : Walk). w.to) next);
        few = omega (arith, went.few, ap (λ (w : Walk). w.to) next);
      };
    }

pub returns-clause-value : goal.returns-clause-value
returns-clause-value c = λ leaves fits count s.
    went_all shard_leaf_text place c.args.index.now c.loop.index c.args.from c.loop.walk leaves c.loop.counter _ (omega (arith, count))
    (places_indexed shard_leaf_text c.args.from.at leaves)
    (c.loop.invariant.value leaves fits count s)

pub returns-clause-went : goal.returns-clause-went
returns-clause-went c =
    let went = c.loop.invariant.went in
    record { within = went.within; more = went.more; few = omega (arith, went.few) }
