-- Calls that add no image, in a row.
use Rattle.std.proofs.Common.{inl, refl, ⊎_elim, ◌∙◌, arith}
use Rattle.slot_core.specs.Disk.{DiskState, Quiet}

pub Quiet-none : (disk : DiskState) → Quiet disk disk
Quiet-none disk = record {
  same = refl;
  images = λ i now. now;
  time = record { later = omega arith; keeps = λ t i le past. past; joins = λ t i le now. inl now };
}

pub Quiet-then : (old mid new : DiskState) → Quiet old mid → Quiet mid new → Quiet old new
Quiet-then old mid new a b = record {
  same = b.same ∙ a.same;
  images = λ i now. a.images i (b.images i now);
  time = record {
    later = omega (arith, a.time.later, b.time.later);
    keeps = λ t i le past. b.time.keeps t i (omega (arith, le, a.time.later)) (a.time.keeps t i le past);
    joins = λ t i le now. ⊎_elim (λ mid. a.time.joins t i le mid) (λ no. absurd no) (b.time.joins t i (omega (arith, le, a.time.later)) now);
  };
}
