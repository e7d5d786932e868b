use Rattle.std.proofs.Common.{◌≡◌, ℕ, ◌%◌, ◌^◌, ◌<◌, ◌≢◌, get_or}
use Rattle.ribbon_core.specs.PlaneWords.{kept_word}
use Rattle.ribbon_core.proofs.substitution.write_words.Given as goal

abbrev pub invariant-loop-plane : goal.invariant-loop-plane
invariant-loop-plane l = record {
  written : (plane : ℕ) → plane < l.plane → kept_word l.words l.planes plane l.i ≡ get_or l.windows plane 0 % 2 ^ 64;
  others : (plane k : ℕ) → plane < l.planes → k ≢ l.i → kept_word l.words l.planes plane k ≡ kept_word l.fn.words l.planes plane k;
}
