use Rattle.std.proofs.Common.{◌≡◌, ◌<◌, ◌*◌, ℕ, List, length, slice_index}
use Rattle.sha2.specs.Sha256.{word_at}
use Rattle.lane_core.specs.Lanes.{lane}
use Rattle.lane_core.proofs.Schedules.{AreMade}
use Rattle.lane_core.proofs.schedule.schedules.Given as goal

abbrev pub invariant-words : goal.invariant-words
invariant-words l = (length l.w ≡ 64) × ((j : ℕ) → j < 4 → (b : List ℕ)
    → ((k : ℕ) → k < 16 → slice_index (lane j l.block) k ≡ word_at b (4 * k)) → AreMade b (lane j l.w) l.t)
