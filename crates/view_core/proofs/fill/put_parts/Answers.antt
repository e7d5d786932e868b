use Rattle.std.proofs.Common.{◌<◌, ◌∙◌, length, get_or, refl, sym, ap, arith}
use Rattle.std.specs.List.{list_any}
use Rattle.std.proofs.lemmas.List.{take_all}
use Rattle.std.proofs.lemmas.List.Folds.{list_any_more}
use Rattle.part_text.specs.PartText.{spelling}
use Rattle.view_core.specs.Index.{has_shards}
use Rattle.view_core.proofs.Endings.{stands_next}
use Rattle.view_core.proofs.Filling.{part_words, parts_indexed, no_part, went_none, went_more, went_all}
use Rattle.view_core.proofs.fill.put_parts.Goals as goal

pub loop-init : goal.loop-init
loop-init c = record {
  value = λ parts fits count s. went_none spelling part_words c.args.index.now c.args.from parts;
  sharded = λ parts fits count s. refl;
  went = record { within = c.requires.place; more = omega arith; few = omega arith };
}

pub put_part-requires-clause-room : goal.put_part-requires-clause-room
put_part-requires-clause-room c = omega (arith, c.loop.invariant.went.few)

pub returns-in_err-walk-clause-there : goal.returns-in_err-walk-clause-there
returns-in_err-walk-clause-there c = λ parts fits count s.
    let i = c.loop.counter in
    let lt : i < length parts = omega (arith, count) in
    let went = c.loop.invariant.value parts fits count s in
    let stands = stands_next spelling c.args.store.now c.args.from.at parts i no_part c.loop.walk.at lt went.at s in
    let walked = c.in_err-walk.ensures.value (get_or parts i no_part) (fits i no_part lt) stands in
    absurd cc

pub loop-preserved : goal.loop-preserved
loop-preserved c = record {
  value = λ parts fits count s.
      let i = c.loop.counter in
      let lt : i < length parts = omega (arith, count) in
      let went = c.loop.invariant.value parts fits count s in
      let stands = stands_next spelling c.args.store.now c.args.from.at parts i no_part c.loop.walk.at lt went.at s in
      let walked = c.in_ok-walk.ensures.value (get_or parts i no_part) (fits i no_part lt) stands in
      went_more spelling part_words c.args.index.now c.loop.index c.put_part.new.index c.args.from c.loop.walk c.in_ok-walk.walk parts i
      no_part lt went walked;
  sharded = λ parts fits count s.
      let i = c.loop.counter in
      let lt : i < length parts = omega (arith, count) in
      let went = c.loop.invariant.value parts fits count s in
      let stands = stands_next spelling c.args.store.now c.args.from.at parts i no_part c.loop.walk.at lt went.at s in
      let before = c.loop.invariant.sharded parts fits count s in
      let one = c.is_sharded_at-sharded.ensures (get_or parts i no_part) (fits i no_part lt) stands in
      sym (list_any_more has_shards parts i no_part lt ∙ cc);
  went =
      let went = c.loop.invariant.went in
      let one = c.in_ok-walk.ensures.went in
      record { within = one.within; more = omega (arith, went.more, one.more); few = omega (arith, went.few, one.few) };
}

pub returns-clause-value : goal.returns-clause-value
returns-clause-value c = λ parts fits count s.
    went_all spelling part_words c.args.index.now c.loop.index c.args.from c.loop.walk parts c.loop.counter _ (omega (arith, count))
    (parts_indexed c.args.from.at parts)
    (c.loop.invariant.value parts fits count s)

pub returns-clause-sharded : goal.returns-clause-sharded
returns-clause-sharded c = λ parts fits count s.
    c.loop.invariant.sharded parts fits count s ∙ ap (list_any has_shards) (take_all c.loop.counter parts (omega (arith, count)))

pub returns-clause-went : goal.returns-clause-went
returns-clause-went c =
    let went = c.loop.invariant.went in
    record { within = went.within; more = went.more; few = omega (arith, went.few) }
