-- What a disk means: its bytes as they read, and what a crash may leave of them.
use Rattle.std.specs.Prelude.{◌≡◌, ◌⊎◌, ℕ, ◌+◌, ◌<◌, ◌≤◌, List, length, take, drop, slice_index, Option, None, Some}
use Rattle.outside_core.specs.Files.{IsPiece, Rose}

-- a set of images: what a crash may leave
abbrev pub Images : Type 1
Images = List ℕ → Type 0

-- The bytes as they read, where they are told; what a crash now may leave; the time; what a crash at some moment since
-- a time might have left, during a call or between two; and how many calls have failed.
pub record DiskState : Type 1 where
  pub told : Option (List ℕ)
  pub images : Images
  pub clock : ℕ
  pub since : ℕ → Images
  pub faults : ℕ

-- a fault was counted
abbrev pub HasFailed : DiskState → DiskState → Type 0
HasFailed old new = Rose old.faults new.faults

-- What each disk keeps, whatever is called: the bytes as they read are an image of now; an image of now is one since
-- each time until now; and since now there is no other.
pub record IsLawful (disk : DiskState) : Type 0 where
  pub told_is_image : (bytes : List ℕ) → disk.told ≡ Some bytes → disk.images bytes
  pub now_counts : (t : ℕ) (image : List ℕ) → t ≤ disk.clock → disk.images image → disk.since t image
  pub now_alone : (image : List ℕ) → disk.since disk.clock image → disk.images image

-- the n bytes from a place on
abbrev pub piece : ℕ → ℕ → List ℕ → List ℕ
piece at n bytes = take n (drop at bytes)

-- the same bytes, but for a range of n and what lies past the old end: there any bytes may stand
pub record Torn (at n : ℕ) (old new : List ℕ) : Type 0 where
  pub no_shorter : length old ≤ length new
  pub elsewhere : (k : ℕ) → k < length old → (k < at) ⊎ (at + n ≤ k) → slice_index new k ≡ slice_index old k

-- the same, with these bytes in the range
pub record Written (at : ℕ) (bytes old new : List ℕ) : Type 0 where
  pub range : piece at (length bytes) new ≡ bytes
  pub torn : Torn at (length bytes) old new

-- where bytes are told, what a read that went well gives
abbrev pub GivesPiece : Option (List ℕ) → ℕ → List ℕ → ℕ → Type 0
GivesPiece told at buf n = (bytes : List ℕ) → told ≡ Some bytes → IsPiece bytes at buf n

-- bytes are told after a call as before it, and where they are, this holds of them
pub record Tells (R : List ℕ → List ℕ → Type 0) (old new : DiskState) : Type 0 where
  pub some : (before : List ℕ) → old.told ≡ Some before → (after : List ℕ) × (new.told ≡ Some after) × R before after
  pub none : old.told ≡ None → new.told ≡ None

-- whatever bytes they are
abbrev pub any_bytes : List ℕ → List ℕ → Type 0
any_bytes before after = Unit {0}

-- each is one of those
abbrev pub Within : Images → Images → Type 0
Within these those = (image : List ℕ) → these image → those image

-- an image of those after a step
abbrev pub After : (List ℕ → List ℕ → Type 0) → Images → Images
After step those image = (earlier : List ℕ) × those earlier × step earlier image

-- where bytes are told, a crash leaves what reads give
abbrev pub IsSynced : DiskState → Type 0
IsSynced disk = (bytes : List ℕ) → disk.told ≡ Some bytes → Within disk.images (λ image. image ≡ bytes)

-- Time goes on over a call: the images since an earlier time stay, and those that join them are these.
pub record Elapses (old new : DiskState) (joining : Images) : Type 0 where
  pub later : old.clock ≤ new.clock
  pub keeps : (t : ℕ) (image : List ℕ) → t ≤ old.clock → old.since t image → new.since t image
  pub joins : (t : ℕ) (image : List ℕ) → t ≤ old.clock → new.since t image → old.since t image ⊎ joining image

abbrev pub none : Images
none _ = ⊥

-- a call that changes nothing of what reads give and adds no image
pub record Quiet (old new : DiskState) : Type 0 where
  pub same : new.told ≡ old.told
  pub images : Within new.images old.images
  pub time : Elapses old new none

-- A crash in a call that wrote in a range of n, or after it, leaves an earlier image or one that is torn there.
pub record Tears (at n : ℕ) (old new : DiskState) : Type 0 where
  pub images : Within new.images (After (Torn at n) old.images)
  pub time : Elapses old new (After (Torn at n) old.images)
