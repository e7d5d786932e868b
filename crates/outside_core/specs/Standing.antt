-- Where a feed stands: in which file, at which place, and which bytes it has read ahead.
use Rattle.std.specs.Prelude.{◌≡◌, ℕ, ◌-◌, ◌^◌, List, take, Option, Some, None}
use Rattle.std.specs.Option.{option_map}
use Rattle.std.specs.FinMap.{get}
use Rattle.std.specs.Borrow.{GName}
use Rattle.outside_core.specs.Files.{Files}
use Rattle.outside_core.specs.Feeding.{IsWindow}
use Rattle.outside_core.specs.declared.depot.Depot.{Ghosts}
use Rattle.outside_core.specs.declared.feed.Feed.{Feed}

-- the reference that it reads through, what its depot means, and the file's name
abbrev pub reference_of : {D : Type 0} → Feed D → GName
reference_of feed = feed.depot.ghost_name

abbrev pub depot_of : {D : Type 0} → Feed D → D
depot_of feed = feed.depot.now

abbrev pub name_of : {D : Type 0} → Feed D → List ℕ
name_of feed = feed.name.now

-- how many bytes were taken
abbrev pub place_of : {D : Type 0} → Feed D → ℕ
place_of feed = feed.at

-- the bytes that are read and aren't taken
abbrev pub buffered_of : {D : Type 0} → Feed D → List ℕ
buffered_of feed = feed.window

-- the bytes of a file as a feed gives them: all, or as many as can be numbered; none where they aren't told or held
abbrev pub file_in : Option Files → List ℕ → Option (List ℕ)
file_in None name = None
file_in (Some files) name = option_map (take (2 ^ 64 - 1)) (get files name)

-- The feed stands in these bytes: they are its file's, as it gives them, and what is buffered are the next of them.
pub record StandsIn {D : Type 0} (g : Ghosts D) (feed : Feed D) (file : List ℕ) : Type 0 where
  pub told : file_in (g.files (depot_of feed)) (name_of feed) ≡ Some file
  pub window : IsWindow file (place_of feed) (buffered_of feed)
