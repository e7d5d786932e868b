use Rattle.std.proofs.Common.{◌≡◌, ◌≢◌, ℕ, ◌<◌}
use Rattle.std.specs.Prelude.{map}
use Rattle.ribbon_core.specs.PlaneWords.{kept_word, word_of}
use Rattle.ribbon_core.proofs.places.place_plane.Given as goal

abbrev pub invariant-loop-i : goal.invariant-loop-i
invariant-loop-i g l = record {
  placed : (k : ℕ) → k < l.i → kept_word l.words l.planes l.plane k ≡ word_of (map g.W.Word.spells l.text) l.width l.plane k;
  others : (q k : ℕ) → q < l.planes → q ≢ l.plane → kept_word l.words l.planes q k ≡ kept_word l.fn.words l.planes q k;
}
