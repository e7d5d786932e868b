use Rattle.std.proofs.Common.{◌≡◌, ◌∷◌, ◌++◌, [], List, All, length, sym, ap, ◌∙◌, append_assoc, arith}
use Rattle.std.specs.Vec.Iter.{into_iter_items}
use Rattle.std.proofs.lemmas.List.{append-nil, nil_from_length}
use Rattle.std.proofs.lemmas.List.Elements.{All-head, All-tail, All-push, All-weaker, All-same}
use Rattle.claim_core.specs.Work.{IsDone, HasOutput}
use Rattle.claim_core.proofs.Places.{put_in_place, put_keeps}
use Rattle.claim_core.proofs.outputs.by_places.Goals as goal

pub loop-one-preserved : goal.loop-one-preserved
loop-one-preserved g c =
    let size = g.W.Work.size c.args.jobs.now in
    let gives = g.W.Work.gives c.args.jobs.now in
    let was = c.loop-one.invariant in
    let one = c.in-Some.one in
    let new = c.put.new.slots.items in
    let steps : into_iter_items c.loop-one.one-iterator ≡ one ∷ into_iter_items c.next.new.self = c.in-Some.ensures.steps.0 in
    let all = rw steps at was.left in
    let put = put_in_place gives size c.loop-one.slots.items new one was.count was.in_place (All-head (IsDone size gives) _ _ all) c.put.ensures.rest in
    let short = ap length steps in
    let fewer = c.in-Some.ensures.steps.1 in
    let whole = was.whole in
    record {
      count = put.0;
      in_place = put.1;
      left = All-tail (IsDone size gives) _ _ all;
      whole = omega arith;
      order = append_assoc c.loop-one.yielded (one ∷ []) _ ∙ rw (← steps) was.order;
      kept = All-push (λ d. HasOutput new d.place) c.loop-one.yielded one
          (All-weaker (λ d. HasOutput c.loop-one.slots.items d.place) (λ d. HasOutput new d.place)
          (λ d. put_keeps c.loop-one.slots.items new one d.place c.put.ensures.rest c.put.ensures.there) c.loop-one.yielded was.kept)
          c.put.ensures.there;
    }

-- what holds of all that came holds of all, where nothing is left
all_came : {X : Type 0} (P : X → Type 0) (came left all : List X) → came ++ left ≡ all → length left ≡ 0 → All P came → All P all
all_came P came left all order empty held = All-same P all came (sym order ∙ ap (λ l. came ++ l) (nil_from_length left empty) ∙ append-nil came) held

pub returns-clause-kept : goal.returns-clause-kept
returns-clause-kept g c =
    let was = c.loop-one.invariant in
    all_came (λ d. HasOutput c.loop-one.slots.items d.place) c.loop-one.yielded _ c.args.done.items (was.order ∙ c.into_iter-one-iterator.ensures.into_iter_gives.0)
    (sym was.whole ∙ c.in-None.ensures.steps.0) was.kept
