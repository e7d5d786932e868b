use Rattle.std.proofs.Common.{◌≡◌, ◌+◌, ℕ, length, Some}
use Rattle.std.specs.List.{slice_get}
use Rattle.std.specs.Vec.Iter.{into_iter_items, into_iter_len}
use Rattle.claim_core.specs.Work.{IsInPlace}
use Rattle.claim_core.proofs.outputs.completed.Given as goal

abbrev pub invariant-loop-place : goal.invariant-loop-place
invariant-loop-place g l = record {
  whole : into_iter_len l.left ≡ length (into_iter_items l.left);
  count : length l.outputs.items ≡ l.place;
  in_place : IsInPlace (g.W.Work.gives l.jobs) l.outputs.items;
  left : (k : ℕ) (y : _) → slice_get (into_iter_items l.left) k ≡ Some (Some y) → g.W.Work.gives l.jobs (l.place + k) y;
}
