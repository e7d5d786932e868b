-- How a run of calls of a disk goes on.
use Rattle.std.proofs.Common.{inl, inr, ⊎_elim, arith}
use Rattle.slot_core.specs.Disk.{DiskState, IsLawful, Images, Within, Elapses, Quiet}
use Rattle.slot_core.specs.Moments.{LeavesOnly}

-- before the first call
pub started : (old : DiskState) (P : Images) → IsLawful old → Within old.images P → LeavesOnly old old P
started old P lawful here = record {
  later = omega arith;
  each = λ i left. here i (lawful.now_alone i left);
  now = here;
  before = λ t i le left. inl left;
}

-- one call more
pub goes_on : (old mid new : DiskState) (P joining : Images) → LeavesOnly old mid P → Elapses mid new joining → Within joining P → Within new.images P → LeavesOnly old new P
goes_on old mid new P joining so_far time during here = record {
  later = omega (arith, so_far.later, time.later);
  each = λ i left. ⊎_elim (so_far.each i) (during i) (time.joins old.clock i so_far.later left);
  now = here;
  before = λ t i le left. ⊎_elim (so_far.before t i le) (λ joined. inr (during i joined)) (time.joins t i (omega (arith, le, so_far.later)) left);
}

-- one call more that adds no image
pub stays : (old mid new : DiskState) (P : Images) → LeavesOnly old mid P → Quiet mid new → LeavesOnly old new P
stays old mid new P so_far quiet = goes_on old mid new P _ so_far quiet.time (λ i none. absurd none) (λ i now. so_far.now i (quiet.images i now))

-- a run and then another
pub run_on : (old mid new : DiskState) (P Q : Images) → LeavesOnly old mid P → LeavesOnly mid new Q → Within Q P → LeavesOnly old new P
run_on old mid new P Q first second within = record {
  later = omega (arith, first.later, second.later);
  each = λ i left. ⊎_elim (first.each i) (within i) (second.before old.clock i first.later left);
  now = λ i now. within i (second.now i now);
  before = λ t i le left. ⊎_elim (first.before t i le) (λ q. inr (within i q)) (second.before t i (omega (arith, le, first.later)) left);
}
