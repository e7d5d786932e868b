use Rattle.std.proofs.Common.{arith, refl}
use Rattle.view_core.proofs.Coverings.{none_kept, next_kept, all_kept}
use Rattle.view_core.proofs.Walks.{opened_words}
use Rattle.view_core.proofs.view.last_covered.Goals as goal

pub loop-part-init : goal.loop-part-init
loop-part-init c = record {
  kept = λ parts opened.
      let split = c.split_index.ensures _ _ _ (opened_words c.args.index.now parts opened.index) in
      none_kept c.args.store.now c.args.index.now c.split_index.result.0.now parts
      (λ i. omega (arith, c.type_inv.store i)) opened split.0;
  at = omega arith;
  count = omega arith;
}

pub loop-part-preserved : goal.loop-part-preserved
loop-part-preserved c = record {
  kept = λ parts opened.
      next_kept c.args.store.now c.loop-part.rest.now c.in-Some.others.now parts c.loop-part.newest c.in-Some.part
      (c.loop-part.invariant.kept parts opened) (record { are = c.in-Some.ensures.some; alike = c.in-Some.ensures.alike });
  at = c.in-Some.ensures.few.0;
  count = c.in-Some.ensures.few.1;
}

pub returns : goal.returns
returns c = λ parts opened.
    let covered = all_kept c.args.store.now c.loop-part.rest.now c.args.log.now parts c.loop-part.newest c.range_of.result
    (c.loop-part.invariant.kept parts opened) (c.in_default.ensures.none refl) c.range_of.ensures in
    grind (arith, covered, c.map.ensures.cases)
