use Rattle.std.proofs.Common.{◌≡◌, ◌++◌, map, take, drop, Bool}
use Rattle.ident_core.specs.declared.identity.Identity.{Identity}
use Rattle.ledger_core.specs.LedgerFields.{ids}
use Rattle.universe_core.specs.Members.{next_of}
use Rattle.universe_core.proofs.flagging.set_lasts.Given as goal

abbrev pub invariant-loop-i : goal.invariant-loop-i
invariant-loop-i l = record {
  items : (h : Identity → Bool) → l.revoked ≡ map (λ m. h m.id) l.initial.items
      → l.items ≡ map (λ m. next_of l.place (h m.id) m) (take l.i l.initial.items) ++ drop l.i l.initial.items;
  same : ids l.items ≡ ids l.initial.items;
}
