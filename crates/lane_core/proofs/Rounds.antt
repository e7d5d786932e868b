-- Rounds one after the other.
use Rattle.std.proofs.Common.{◌≡◌, ℕ, ◌+◌, List, slice_index, refl}
use Rattle.sha2.specs.Sha256.{round, round_constants, rounds}
use Rattle.sha2.proofs.Schedule256.{rounds_next}

-- one more round
pub after_round : (h w v next : List ℕ) (t x : ℕ) → v ≡ rounds h w t → x ≡ slice_index w t
    → next ≡ round v (slice_index round_constants t) x → next ≡ rounds h w (t + 1)
after_round h w v next t x ev ex en = rw (en, rounds_next h w t, ← ev, ex) refl
