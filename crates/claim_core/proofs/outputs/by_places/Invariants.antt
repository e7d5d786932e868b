use Rattle.std.proofs.Common.{◌≡◌, ◌++◌, length, All}
use Rattle.std.specs.Vec.Iter.{into_iter_items, into_iter_len}
use Rattle.claim_core.specs.Work.{IsDone, IsPartlyInPlace, HasOutput}
use Rattle.claim_core.proofs.outputs.by_places.Given as goal

abbrev pub invariant-loop-one : goal.invariant-loop-one
invariant-loop-one g l = record {
  count : length l.slots.items ≡ g.W.Work.size l.jobs;
  in_place : IsPartlyInPlace (g.W.Work.gives l.jobs) l.slots.items;
  left : All (IsDone (g.W.Work.size l.jobs) (g.W.Work.gives l.jobs)) (into_iter_items l.one-iterator);
  whole : into_iter_len l.one-iterator ≡ length (into_iter_items l.one-iterator);
  order : l.yielded ++ into_iter_items l.one-iterator ≡ into_iter_items l.initial.one-iterator;
  kept : All (λ d. HasOutput l.slots.items d.place) l.yielded;
}
