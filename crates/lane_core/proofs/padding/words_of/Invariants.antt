use Rattle.std.proofs.Common.{◌≡◌, ◌<◌, ◌*◌, ℕ, [], ◌∷◌, length, slice_index_or}
use Rattle.sha2.specs.Sha256.{word_at}
use Rattle.lane_core.proofs.padding.words_of.Given as goal

abbrev pub invariant-words : goal.invariant-words
invariant-words l = (length l.words ≡ 16) × ((k : ℕ) → k < l.k → slice_index_or l.words k []
    ≡ word_at l.a (4 * k) ∷ word_at l.b (4 * k) ∷ word_at l.c (4 * k) ∷ word_at l.d (4 * k) ∷ [])
