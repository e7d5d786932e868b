-- What a walk over a store writes into an index that is lent.
use Rattle.std.specs.Prelude.{◌≡◌, ℕ, ◌+◌, ◌≤◌, List, ◌++◌, length, take, Option, Some}
use Rattle.view_core.specs.declared.fill.Walk.{Walk}

-- with room for them, these words stand from a place on, behind what stood before it
pub record Wrote (old new : List ℕ) (to : ℕ) (words : List ℕ) : Type 0 where
  pub same : length new ≡ length old
  pub are : to + length words ≤ length old → take (to + length words) new ≡ take to old ++ words

-- the walk went on behind so many bytes, and wrote these words
pub record Walked (old new : List ℕ) (from : Walk) (width : ℕ) (words : List ℕ) (result : Option Walk) : Type 0 where
  pub is : result ≡ Some record { at = from.at + width; to = from.to + length words }
  pub wrote : Wrote old new from.to words

-- it is within so many bytes, and counted at most so many words
pub record WentOn (len most : ℕ) (from walk : Walk) : Type 0 where
  pub within : walk.at ≤ len
  pub more : from.to ≤ walk.to
  pub few : walk.to ≤ from.to + most
