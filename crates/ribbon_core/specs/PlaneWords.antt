-- Planes, and the words that hold their columns.
use Rattle.std.specs.Prelude.{◌≡◌, ℕ, zero, suc, ◌+◌, ◌-◌, ◌*◌, ◌^◌, ◌<◌, ◌≤◌, List, length, get_or, map}
use Rattle.std.specs.Int.{w64, from_be_bytes}
use Rattle.std.specs.List.{range_with_len}
use Rattle.std.specs.Simd.{first_chunks}
use Rattle.equation_core.specs.Sizes.{words_for}
use Rattle.equation_core.specs.declared.hash.TheConstants.{MAX_PLANES}
use Rattle.equation_core.specs.declared.sizes.TheConstants.{MAX_STARTS}

-- what a public contract sees of planes: of each the columns
pub record PlaneColumns : Type 0 where
  pub starts : ℕ
  pub columns : List ℕ

-- the number whose words of 64 bits f gives, the lowest first: n words from word i on
unfoldable pub number_by : (ℕ → ℕ) → ℕ → ℕ → ℕ
number_by f i zero = 0
number_by f i (suc n) = f i + 2 ^ 64 * number_by f (suc i) n

-- the first words that bytes spell, so many, of each the greatest byte first
abbrev pub words_spelled : ℕ → List ℕ → List ℕ
words_spelled n bytes = map (from_be_bytes w64) (first_chunks 8 n bytes)

-- word i of a plane, in a text of planes one after the other
abbrev pub word_of : List ℕ → ℕ → ℕ → ℕ → ℕ
word_of words width plane i = get_or words (plane * width + i) 0

-- the columns of a plane of such a text
abbrev pub plane_of_words : List ℕ → ℕ → ℕ → ℕ
plane_of_words words width plane = number_by (word_of words width plane) 0 width

-- the columns of each plane of such a text
abbrev pub columns_of : ℕ → ℕ → List ℕ → List ℕ
columns_of starts planes words = map (plane_of_words words (words_for starts)) (range_with_len 0 planes)

-- the place of word i of a plane, among the words that are kept: word i of all planes stand side by side
abbrev pub place : ℕ → ℕ → ℕ → ℕ
place planes plane i = i * planes + plane

-- word i of a plane, as it is kept
abbrev pub kept_word : List ℕ → ℕ → ℕ → ℕ → ℕ
kept_word words planes plane i = get_or words (place planes plane i) 0

-- the columns of a plane, as they are kept
abbrev pub kept_plane : List ℕ → ℕ → ℕ → ℕ → ℕ
kept_plane words planes width plane = number_by (kept_word words planes plane) 0 width

-- the columns of each plane, as they are kept
abbrev pub kept_columns : ℕ → ℕ → List ℕ → List ℕ
kept_columns starts planes words = map (kept_plane words planes (words_for starts)) (range_with_len 0 planes)

-- how many words are kept, so that the last run of planes can be loaded as whole lanes
abbrev pub kept_length : ℕ → ℕ → ℕ
kept_length planes width = planes * width + (MAX_PLANES - planes)

-- the fields of planes
pub record ArePlanes (starts planes : ℕ) (words : List ℕ) : Type 0 where
  pub some_starts : 1 ≤ starts
  pub few_starts : starts ≤ MAX_STARTS
  pub some_planes : 1 ≤ planes
  pub few_planes : planes ≤ MAX_PLANES
  pub room : length words ≡ kept_length planes (words_for starts)
  pub padding : (plane : ℕ) → plane < planes → kept_plane words planes (words_for starts) plane < 2 ^ (starts + 127)
