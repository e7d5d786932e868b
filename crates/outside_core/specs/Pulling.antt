-- What taking bytes from a feed leaves of it.
use Rattle.std.specs.Prelude.{◌≡◌, ◌≤◌, ℕ, List}
use Rattle.outside_core.specs.declared.depot.Depot.{Ghosts}
use Rattle.outside_core.specs.declared.feed.Feed.{Feed}
use Rattle.outside_core.specs.Effects.{OnlyReads}
use Rattle.outside_core.specs.Standing.{reference_of, depot_of, name_of, place_of, StandsIn}

-- the same file through the same reference, of a depot that was only read; it stands where it stood, or further
pub record Pulled {D : Type 0} (g : Ghosts D) (old new : Feed D) : Type 0 where
  pub same_reference : reference_of new ≡ reference_of old
  pub name : name_of new ≡ name_of old
  pub only_reads : OnlyReads g (depot_of old) (depot_of new)
  pub stands : (file : List ℕ) → StandsIn g old file → StandsIn g new file
  pub further : place_of old ≤ place_of new
