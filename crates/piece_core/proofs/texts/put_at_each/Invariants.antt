use Rattle.std.proofs.Common.{◌≡◌, ◌≤◌, ◌<◌, ◌++◌, ◌-◌, ℕ, length}
use Rattle.piece_core.specs.Texts.{text_at}
use Rattle.piece_core.proofs.texts.put_at_each.Given as goal

-- the places before this one have more, and the others what they had
abbrev pub invariant-loop-place : goal.invariant-loop-place
invariant-loop-place l = record {
  count : length l.texts ≡ length l.initial.texts;
  done : (p : ℕ) → p < l.place → p < length l.initial.texts → text_at l.texts p ≡ text_at l.initial.texts p ++ l.more;
  left : (p : ℕ) → l.place ≤ p → p < length l.initial.texts → text_at l.texts p ≡ text_at l.initial.texts p;
}

abbrev pub decreases-loop-place : goal.decreases-loop-place
decreases-loop-place l = length l.initial.texts - l.place
