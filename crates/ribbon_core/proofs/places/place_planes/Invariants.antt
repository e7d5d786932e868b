use Rattle.std.proofs.Common.{◌≡◌, ℕ, ◌<◌}
use Rattle.std.specs.Prelude.{map}
use Rattle.ribbon_core.specs.PlaneWords.{kept_word, word_of}
use Rattle.ribbon_core.proofs.places.place_planes.Given as goal

abbrev pub invariant-loop-plane : goal.invariant-loop-plane
invariant-loop-plane g l = record {
  placed : (plane i : ℕ) → plane < l.plane → i < l.width → kept_word l.words l.planes plane i ≡ word_of (map g.W.Word.spells l.text) l.width plane i;
}
