-- The pieces of a job that is cut to places.
use Rattle.std.specs.Prelude.{◌≡◌, ℕ, ◌<◌, length}
use Rattle.job_core.specs.JobText.{JobContents, spelling}
use Rattle.place_core.specs.declared.place.By.{By}
use Rattle.piece_core.specs.declared.cutting.Pieces.{Pieces}
use Rattle.place_core.specs.Cuts.{at_place}
use Rattle.piece_core.specs.Cuts.{cut_contents}
use Rattle.piece_core.specs.Texts.{text_at}

-- each place's text is that of the job, cut to the place; and the job has so many entries and bytes
pub record AreOf (by : By) (n : ℕ) (j : JobContents) (pieces : Pieces) : Type 0 where
  pub count : length pieces.texts.items ≡ n
  pub each : (p : ℕ) → p < n → text_at pieces.texts.items p ≡ spelling (cut_contents (at_place by n p) j)
  pub entries : pieces.entries ≡ length j.entries
  pub bytes : pieces.bytes ≡ length (spelling j)
