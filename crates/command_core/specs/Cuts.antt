-- Jobs that are cut to places: what `cut` makes.
use Rattle.std.specs.Prelude.{ℕ, ◌+◌, List, [], ◌∷◌, length, Option, Result, Ok}
use Rattle.std.specs.declared.vec.Vec.{Vec}
use Rattle.std.specs.Global.{Global}
use Rattle.job_core.specs.JobText.{JobContents, spelling}
use Rattle.place_core.specs.declared.place.By.{By}
use Rattle.place_core.specs.Cuts.{at_place}
use Rattle.piece_core.specs.Cuts.{cut_contents}
use Rattle.line_core.specs.Lines.{cut_line}
use Rattle.word_core.specs.declared.command.Cut.{Cut}
use Rattle.command_core.specs.Outcomes.{◌>>=◌, input}
use Rattle.command_core.specs.Longer.{head_in}
use Rattle.command_core.specs.ReplyFields.{OutputFields, Done, NamedFault}

-- the pieces of the job at the places from one on, among so many, as files of these names
abbrev pub pieces_from : By → (count p : ℕ) → List (List ℕ) → JobContents → List OutputFields
pieces_from by count p [] j = []
pieces_from by count p (name ∷ names) j =
    record { name = name; bytes = spelling (cut_contents (at_place by count p) j) }
    ∷ pieces_from by count (p + 1) names j

-- the job, cut to as many places as there are names, whose pieces are the files of these names
abbrev pub cut_done : By → List (List ℕ) → JobContents → Done
cut_done by names j = record {
  text = cut_line (length names) (length j.entries) (length (spelling j));
  outputs = pieces_from by (length names) 0 names j;
}

abbrev pub cut_makes : Cut → Option (List ℕ) → Result Done NamedFault
cut_makes c given = do
  j ← input c.job head_in given
  Ok (cut_done c.by c.pieces j)

-- files of these names, with these texts
abbrev pub files_of : List (List ℕ) → List (Vec ℕ Global) → List OutputFields
files_of [] texts = []
files_of (name ∷ names) [] = []
files_of (name ∷ names) (text ∷ texts) = record { name = name; bytes = text.items } ∷ files_of names texts
