-- Planes that were read one after the other.
use Rattle.std.specs.Prelude.{◌≡◌, ℕ, ◌+◌, ◌*◌, ◌^◌, ◌<◌, ◌≤◌, List, length}
use Rattle.equation_core.specs.declared.hash.TheConstants.{MAX_PLANES}
use Rattle.equation_core.specs.declared.sizes.TheConstants.{MAX_STARTS}
use Rattle.equation_core.specs.Sizes.{columns_for, words_for}
use Rattle.ribbon_core.specs.PlaneWords.{columns_of, plane_of_words, words_spelled}

-- the words of so many planes, which these bytes spell
abbrev pub words_read : ℕ → ℕ → List ℕ → List ℕ
words_read starts count bytes = words_spelled (count * words_for starts) bytes

-- and their columns
abbrev pub columns_read : ℕ → ℕ → List ℕ → List ℕ
columns_read starts count bytes = columns_of starts count (words_read starts count bytes)

-- these are the bytes of so many planes, with their padding
pub record AreRead (starts count : ℕ) (bytes : List ℕ) : Type 0 where
  pub room : length bytes ≡ 8 * (count * words_for starts)
  pub padding : (plane : ℕ) → plane < count
      → plane_of_words (words_read starts count bytes) (words_for starts) plane < 2 ^ columns_for starts

-- these are all bytes of a stage's planes, one plane after the other
pub record AreStageBytes (starts planes : ℕ) (bytes : List ℕ) : Type 0 where
  pub some_starts : 1 ≤ starts
  pub few_starts : starts ≤ MAX_STARTS
  pub some_planes : 1 ≤ planes
  pub few_planes : planes ≤ MAX_PLANES
  pub room : length bytes ≡ 8 * (planes * words_for starts)
  pub padding : (plane : ℕ) → plane < planes → plane_of_words (words_read starts planes bytes) (words_for starts) plane < 2 ^ (starts + 127)
