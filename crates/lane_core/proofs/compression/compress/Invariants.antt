use Rattle.std.proofs.Common.{◌≡◌, ℕ, List, ◌<◌, ◌*◌, slice_index}
use Rattle.sha2.specs.Sha256.{IsRoundsAt, word_at}
use Rattle.lane_core.specs.Lanes.{lane}
use Rattle.lane_core.proofs.compression.compress.Given as goal

abbrev pub invariant-schedule : goal.invariant-schedule
invariant-schedule l =
    (j : ℕ) → j < 4 → (b : List ℕ) → ((k : ℕ) → k < 16 → slice_index (lane j l.block) k ≡ word_at b (4 * k))
    → IsRoundsAt b (lane j l.state) (lane j l.w) (lane j l.v) (16 * l.turn)
