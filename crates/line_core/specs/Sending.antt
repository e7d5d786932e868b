-- What writing a text to a sink does.
use Rattle.std.specs.Prelude.{◌≡◌, ℕ, ◌≤◌, List, Option, Result, OnOk, OnErr}
use Rattle.outside_core.specs.Files.{Rose}
use Rattle.outside_core.specs.Written.{followed_by, CutShort}
use Rattle.outside_core.specs.declared.depot.Failed.{Failed}

-- The text was written; or the sink failed, which its count shows, and a front of the text was written.
pub record Sends
    (old new : Option (List ℕ)) (before now : ℕ) (result : Result (Unit {0}) Failed) (text : List ℕ)
    : Type 0 where
  pub ok : OnOk result (new ≡ followed_by old text)
  pub err : OnErr result (CutShort old new text)
  pub cause : OnErr result (Rose before now)
  pub later : before ≤ now
