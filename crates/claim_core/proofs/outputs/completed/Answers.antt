use Rattle.std.proofs.Common.{rules, sym, subst}
use Rattle.claim_core.specs.Work.{IsInPlace}
use Rattle.claim_core.proofs.Places.{next_left, push_in_place}
use Rattle.claim_core.proofs.outputs.completed.Goals as goal

pub output_at-requires-clause-slot : goal.output_at-requires-clause-slot
output_at-requires-clause-slot g c =
    let was = c.loop-place.invariant in
    let next = c.next.ensures in
    (next_left (g.W.Work.gives c.args.jobs.now) c.loop-place.place _ _ c.next.result _ _ was.left was.whole next.items next.len next.variant.1).1

pub loop-place-preserved : goal.loop-place-preserved
loop-place-preserved g c =
    let gives = g.W.Work.gives c.args.jobs.now in
    let was = c.loop-place.invariant in
    let next = c.next.ensures in
    let left = next_left gives c.loop-place.place _ _ c.next.result _ _ was.left was.whole next.items next.len next.variant.1 in
    let one = subst (λ n. gives n c.in_ok-output_at.field-0) (sym was.count) c.in_ok-output_at.ensures in
    record {
      whole = left.0;
      count = search rules;
      in_place = subst (IsInPlace gives) (sym c.in_ok-push.ensures.items) (push_in_place gives c.loop-place.outputs.items c.in_ok-output_at.field-0 was.in_place one);
      left = left.2;
    }
