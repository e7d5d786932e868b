use Rattle.std.proofs.Common.{◌≡◌, length, All, None}
use Rattle.claim_core.proofs.outputs.blank.Given as goal

abbrev pub invariant-loop : goal.invariant-loop
invariant-loop g l = record {
  count : length l.slots.items ≡ l.counter;
  none : All (λ slot. slot ≡ None) l.slots.items;
}
