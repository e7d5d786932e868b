-- Disks of which nothing changes.
use Rattle.std.proofs.Common.{◌≡◌, inl, refl, sym, subst, ⊎_elim, ◌∙◌, arith}
use Rattle.slot_core.specs.Disk.{DiskState, Quiet}

-- a disk that wasn't called
pub uncalled : (disk : DiskState) → Quiet disk disk
uncalled disk = record {
  same = refl;
  images = λ i now. now;
  time = record { later = omega arith; keeps = λ t i le past. past; joins = λ t i le now. inl now };
}

-- one that is the same
pub same_disk : {D : Type 0} (state : D → DiskState) (old new : D) → new ≡ old → Quiet (state old) (state new)
same_disk {D} state old new is = subst (λ (d : D). Quiet (state old) (state d)) (sym is) (uncalled (state old))

-- two calls in a row that change nothing
pub both_quiet : (old mid new : DiskState) → Quiet old mid → Quiet mid new → Quiet old new
both_quiet old mid new a b = record {
  same = b.same ∙ a.same;
  images = λ i now. a.images i (b.images i now);
  time = record {
    later = omega (arith, a.time.later, b.time.later);
    keeps = λ t i le past. b.time.keeps t i (omega (arith, le, a.time.later)) (a.time.keeps t i le past);
    joins = λ t i le now. ⊎_elim (λ mid. a.time.joins t i le mid) (λ no. absurd no) (b.time.joins t i (omega (arith, le, a.time.later)) now);
  };
}
