-- What a feed has buffered, and what filling leaves of it.
use Rattle.std.specs.Prelude.{◌≡◌, ℕ, ◌<◌, ◌-◌, ◌^◌, ◌⊎◌, List, length, Result, IfOk, OnOk, OnErr}
use Rattle.std.specs.Borrow.{Bor}
use Rattle.outside_core.specs.Reads.{ReadFailed}
use Rattle.outside_core.specs.Effects.{OnlyReads}
use Rattle.outside_core.specs.Feeding.{InOrder, Offers}
use Rattle.outside_core.specs.Standing.{reference_of, depot_of, name_of, place_of, buffered_of}
use Rattle.outside_core.specs.declared.depot.Depot.{Ghosts}
use Rattle.outside_core.specs.declared.depot.Failed.{Failed}
use Rattle.outside_core.specs.declared.feed.Feed.{Feed}

-- where files are told, what is buffered is the file's bytes in order
abbrev pub IsInOrder : {D : Type 0} → Ghosts D → Feed D → Type 0
IsInOrder g feed = InOrder (g.files (depot_of feed)) (name_of feed) (place_of feed) (buffered_of feed)

-- where files are told, these are the file's next bytes, and empty exactly where all are taken
abbrev pub OffersNext : {D : Type 0} → Ghosts D → Feed D → List ℕ → Type 0
OffersNext g feed bytes = Offers (g.files (depot_of feed)) (name_of feed) (place_of feed) bytes

-- what filling leaves of a feed, with this answer
pub record Filled {D : Type 0} (g : Ghosts D) (old new : Feed D)
    (result : Result (Bor (List ℕ)) Failed) : Type 0 where
  pub same_reference : reference_of new ≡ reference_of old
  pub name : name_of new ≡ name_of old
  pub at : place_of new ≡ place_of old
  pub in_order : IsInOrder g old → IsInOrder g new
  pub window : IfOk result (λ bytes. buffered_of new ≡ bytes.now)
  pub err : OnErr result (buffered_of new ≡ buffered_of old)
  pub kept : (0 < length (buffered_of old)) ⊎ (place_of old ≡ 2 ^ 64 - 1) → depot_of new ≡ depot_of old
  pub cause : OnErr result (ReadFailed g (name_of old) (depot_of old) (depot_of new))
  pub unblamed : OnOk result (g.failed_reads (depot_of new) ≡ g.failed_reads (depot_of old))
  pub only_reads : OnlyReads g (depot_of old) (depot_of new)
