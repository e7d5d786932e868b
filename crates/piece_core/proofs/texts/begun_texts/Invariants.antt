use Rattle.std.proofs.Common.{◌≡◌, ◌≤◌, ◌<◌, ◌-◌, ℕ, length}
use Rattle.piece_core.specs.Texts.{text_at}
use Rattle.piece_core.proofs.texts.begun_texts.Given as goal

abbrev pub invariant-loop-alloc : goal.invariant-loop-alloc
invariant-loop-alloc l = record {
  few : length l.texts.items ≤ l.places;
  each : (p : ℕ) → p < length l.texts.items → text_at l.texts.items p ≡ l.begin;
}

abbrev pub decreases-loop-alloc : goal.decreases-loop-alloc
decreases-loop-alloc l = l.places - length l.texts.items
