use Rattle.std.proofs.Common.{ℕ, List, subst, ◌∙◌, arith}
use Rattle.slot_core.specs.Disk.{Written}
use Rattle.slot_core.specs.Fields.{WritesSlot}
use Rattle.slot_core.proofs.Tearing.{formatted}
use Rattle.slot_core.proofs.formatting.format.Goals as goal

pub returns-clause-ok : goal.returns-clause-ok
returns-clause-ok g c = record {
  some = λ before told.
      let one = c.in_ok-write_at.ensures.ok.some before told in
      let two = c.in_ok-write_at-2.ensures.ok.some one.0 one.1 in
      let three = c.in_ok-write_slot.ensures.ok.some two.0 two.1 in (
        three.0,
        c.sync.ensures.quiet.same ∙ three.1,
        formatted c.args.capacity c.args.store.now before one.0 two.0 three.0 c.requires.low c.requires.high (omega arith) one.2
            (subst (λ (s : List ℕ). Written 10 s one.0 two.0) c.to_be_bytes.ensures two.2)
            (subst (λ (at : ℕ). WritesSlot at c.args.store.now two.0 three.0) c.slot_at.ensures.at three.2),
      );
  none = λ nothing. c.sync.ensures.quiet.same ∙ c.in_ok-write_slot.ensures.ok.none (c.in_ok-write_at-2.ensures.ok.none (c.in_ok-write_at.ensures.ok.none nothing));
}
