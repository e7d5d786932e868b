-- What the contract of `solve` says, over the fields of a system.
use Rattle.std.specs.List.{All}
use Rattle.std.proofs.lemmas.List.Elements.{All-from_get_or}
use Rattle.std.proofs.Common.{◌≡◌, ℕ, ◌<◌, ◌≤◌, ◌^◌, ◌+◌, ◌∙◌, arith, List, length, get_or}
use Rattle.std.proofs.lemmas.List.FromFn.{length-map-range_with_len, get_or-map-range_with_len, fill_by_all}
use Rattle.ribbon_core.specs.Equations.{Least}
use Rattle.ribbon_core.specs.Bands.{solution_from}
use Rattle.ribbon_core.specs.Kept.{kept_from, IsSystem}
use Rattle.ribbon_core.specs.PlaneWords.{ArePlanes, plane_of_words, columns_of, kept_length, kept_plane, kept_columns}
use Rattle.equation_core.specs.Sizes.{words_for}
use Rattle.equation_core.specs.declared.hash.TheConstants.{MAX_PLANES}
use Rattle.equation_core.specs.declared.sizes.TheConstants.{MAX_STARTS}
use Rattle.ribbon_core.proofs.KeptEquations.{kept_solves}
use Rattle.ribbon_core.proofs.Solution.{solution_solves, solution_le, solution_lt}
use Rattle.ribbon_core.proofs.LeastLaws.{least_from_le}

pub length-kept : (starts planes : ℕ) (words : List ℕ) → length (kept_columns starts planes words) ≡ planes
length-kept starts planes words = length-map-range_with_len (kept_plane words planes (words_for starts)) 0 planes

pub columns-at : (starts planes plane : ℕ) (words : List ℕ) → plane < planes → get_or (kept_columns starts planes words) plane 0 ≡ kept_plane words planes (words_for starts) plane
columns-at starts planes plane words lt = get_or-map-range_with_len (kept_plane words planes (words_for starts)) 0 planes plane plane 0 lt (omega arith)

module _ (starts planes : ℕ) (cs ts old words : List ℕ) (system : IsSystem starts planes cs ts old) (room : length words ≡ length old)
    (solved : (plane : ℕ) → plane < planes → kept_plane words planes (words_for starts) plane ≡ solution_from plane cs ts 0 (length cs)) where
  pub solved_planes : ArePlanes starts planes words
  solved_planes = record {
    some_starts = system.some_starts;
    few_starts = system.few_starts;
    some_planes = system.some_planes;
    few_planes = system.few_planes;
    room = room ∙ system.room;
    padding = λ plane lt. rw (solved plane lt, ← system.columns) (solution_lt plane planes cs ts system.bands);
  }

  pub solved_least : (plane : ℕ) → plane < planes → Least plane (kept_from 0 cs ts) (get_or (kept_columns starts planes words) plane 0)
  solved_least plane lt =
      rw (columns-at starts planes plane words lt, solved plane lt)
      (least_from_le plane (kept_from 0 cs ts) (solution_from plane cs ts 0 (length cs))
      ((kept_solves plane planes (solution_from plane cs ts 0 (length cs)) cs ts system.bands).1 (solution_solves plane planes cs ts system.bands))
      (λ Y s. solution_le plane planes cs ts system.bands Y ((kept_solves plane planes Y cs ts system.bands).0 s)))

-- the planes whose words were put at their places
module _ (starts planes : ℕ) (text words : List ℕ)
    (same : (plane : ℕ) → plane < planes → kept_plane words planes (words_for starts) plane ≡ plane_of_words text (words_for starts) plane) where
  pub placed_columns : kept_columns starts planes words ≡ columns_of starts planes text
  placed_columns = fill_by_all (plane_of_words text (words_for starts)) (kept_columns starts planes words) planes 0 (length-kept starts planes words)
      (λ plane lt. columns-at starts planes plane words lt ∙ same plane lt)

  pub placed_planes : 1 ≤ starts → starts ≤ MAX_STARTS → 1 ≤ planes → planes ≤ MAX_PLANES → length words ≡ kept_length planes (words_for starts)
      → ((plane : ℕ) → plane < planes → plane_of_words text (words_for starts) plane < 2 ^ (starts + 127)) → ArePlanes starts planes words
  placed_planes a b c d room padding = record {
    some_starts = a;
    few_starts = b;
    some_planes = c;
    few_planes = d;
    room = room;
    padding = λ plane lt. rw (same plane lt) (padding plane lt);
  }

pub columns_padded : (starts planes : ℕ) (words : List ℕ) → ArePlanes starts planes words → All (λ Z. Z < 2 ^ (starts + 127)) (kept_columns starts planes words)
columns_padded starts planes words p = All-from_get_or (λ Z. Z < 2 ^ (starts + 127)) (kept_columns starts planes words) 0
    (λ i lt. let n = length-kept starts planes words in let k : i < planes = omega (arith, n) in rw (columns-at starts planes i words k) (p.padding i k))
