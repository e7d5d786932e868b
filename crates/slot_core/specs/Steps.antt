-- What a disk in memory holds and what a crash may leave of it, from the record of its writes and syncs.
use Rattle.std.specs.Prelude.{◌≡◌, ℕ, ◌+◌, ◌-◌, ◌≤◌, List, [], ◌∷◌, ◌++◌, length, take, drop, replicate, Option, None, Some, refl}
use Rattle.std.specs.Coded.{Coded, code_by, coded×, coded_ℕ, coded_list, coded_option}
use Rattle.slot_core.specs.Disk.{Images, After, Torn, DiskState}

-- a write of these bytes at a place, or a sync
pub data Step : Type 0 where
  Write : ℕ → List ℕ → Step
  Sync : Step

abbrev pub spread : Step → Option (ℕ × List ℕ)
spread (Write at bytes) = Some (at, bytes)
spread Sync = None

abbrev pub gather : Option (ℕ × List ℕ) → Step
gather (Some p) = Write p.0 p.1
gather None = Sync

pub gathered : (step : Step) → gather (spread step) ≡ step
gathered (Write at bytes) = refl
gathered Sync = refl

abbrev pub step_code : Coded Step
step_code = code_by (Option (ℕ × List ℕ)) (coded_option (coded× coded_ℕ (coded_list coded_ℕ))) spread gather gathered

-- the bytes with these over them; zeros fill what lies between
abbrev pub overwritten : ℕ → List ℕ → List ℕ → List ℕ
overwritten at bytes old = take at old ++ replicate (at - length old) 0 ++ bytes ++ drop (at + length bytes) old

-- what reads give after these steps, the first of them first
abbrev pub content : List ℕ → List Step → List ℕ
content bytes [] = bytes
content bytes (Write at piece ∷ steps) = content (overwritten at piece bytes) steps
content bytes (Sync ∷ steps) = content bytes steps

-- What a crash may leave after these steps, where reads gave these bytes before them: each write since the last sync
-- may have any bytes in its range and past the end that it found.
abbrev pub images : List ℕ → Images → List Step → Images
images bytes before [] = before
images bytes before (Write at piece ∷ steps) = images (overwritten at piece bytes) (After (Torn at (length piece)) before) steps
images bytes before (Sync ∷ steps) = images bytes (λ image. image ≡ bytes) steps

-- the same from an empty disk on
abbrev pub images_of : List Step → Images
images_of steps = images [] (λ image. image ≡ []) steps

-- what a crash at some moment since so many steps might have left
abbrev pub images_since : List Step → ℕ → Images
images_since steps t image = (k : ℕ) × (t ≤ k) × (k ≤ length steps) × images_of (take k steps) image

-- what a disk means that made these steps and counted so many faults
abbrev pub recorded_state : List Step → ℕ → DiskState
recorded_state steps faults = record {
  told = Some (content [] steps);
  images = images_of steps;
  clock = length steps;
  since = images_since steps;
  faults = faults;
}
