-- How a reply is sent: the words of the private functions that send one, which know no command.
use Rattle.std.specs.Prelude.{◌≡◌, ℕ, ◌⊎◌, List, Option}
use Rattle.outside_core.specs.Files.{Files}
use Rattle.outside_core.specs.Written.{followed_by, CutShort}
use Rattle.outside_core.specs.declared.depot.Depot as depots
use Rattle.outside_core.specs.declared.sink.Sink as sinks
use Rattle.command_core.specs.ReplyFields.{ReplyFields}
use Rattle.command_core.specs.Statuses as status
use Rattle.command_core.specs.Replies.{write_fault}
use Rattle.command_core.specs.Runs.{IsTorn, with_outputs}
use Rattle.clubcard_top.specs.Calls.{Count, HasRisen}

-- What was printed before and after, where the sink tells it, the exit status that came, and the faults of printing.
pub record Printing : Type 0 where
  pub status : ℕ
  pub text_before : Option (List ℕ)
  pub text_after : Option (List ℕ)
  pub faults : Count

-- the printing to this sink, before it and after it, behind which the status came
abbrev pub printing : {K : Type 0} → sinks.Ghosts K → K → K → ℕ → Printing
printing k out out_after ended = record {
  status = ended;
  text_before = k.written out;
  text_after = k.written out_after;
  faults = record { before = k.faults out; after = k.faults out_after };
}

-- What the files hold before and after, where the depot tells it, and the faults of writing them.
pub record Writing : Type 0 where
  pub files_before : Option Files
  pub files_after : Option Files
  pub faults : Count

-- the writing to this depot, before it and after it
abbrev pub writing : {D : Type 0} → depots.Ghosts D → D → D → Writing
writing d depot depot_after = record {
  files_before = d.files depot;
  files_after = d.files depot_after;
  faults = record { before = d.write_faults depot; after = d.write_faults depot_after };
}

-- The reply's status came and its text was printed. Or printing failed, and a prefix of the text was printed.
abbrev pub IsPrinted : Printing → ReplyFields → Type 0
IsPrinted printing reply =
    ((printing.status ≡ reply.status) × (printing.text_after ≡ followed_by printing.text_before reply.text))
    ⊎ ((printing.status ≡ status.write_fault) × CutShort printing.text_before printing.text_after reply.text
    × HasRisen printing.faults)

-- The reply's outputs were written, and then it was printed. Or a write failed, and that was printed.
abbrev pub IsSent : Writing → Printing → ReplyFields → Type 0
IsSent writing printing reply =
    ((writing.files_after ≡ with_outputs writing.files_before reply.outputs) × IsPrinted printing reply)
    ⊎ (HasRisen writing.faults
    × ((name : List ℕ) × IsTorn writing.files_before writing.files_after reply.outputs name
    × IsPrinted printing (write_fault name)))
