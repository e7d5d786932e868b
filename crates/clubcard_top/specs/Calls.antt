-- A call of the program: what it was asked, what it found, what it left, and which faults of the outside were counted.
use Rattle.std.specs.Prelude.{◌≡◌, ℕ, List, map, string_bytes, Option, Some, Result, Ok, String}
use Rattle.std.specs.FinMap.{get}
use Rattle.outside_core.specs.Files.{Files, Rose}
use Rattle.outside_core.specs.Written.{followed_by}
use Rattle.outside_core.specs.declared.depot.Depot as depots
use Rattle.outside_core.specs.declared.sink.Sink as sinks
use Rattle.word_core.specs.declared.command.Command.{Command}
use Rattle.word_core.specs.Words.{command_of}
use Rattle.input_core.specs.declared.fault.FileFault.{FileFault}
use Rattle.outside_core.specs.Reads.{WhichFailed}
use Rattle.command_core.specs.ReplyFields.{OutputFields}
use Rattle.command_core.specs.Runs.{with_outputs}

-- how many faults of one kind had been counted, before the call and after it
pub record Count : Type 0 where
  pub before : ℕ
  pub after : ℕ

-- What the words asked for. What the files hold and what was printed, before the call and after it, where the depot and
-- the sink tell it: those in memory do, those of a system don't. The exit status. The faults of reading files, of
-- writing files and of printing. Which read failed and was counted: none, or the one of a name.
pub record Call : Type 1 where
  pub asked : Command
  pub files_before : Option Files
  pub files_after : Option Files
  pub text_before : Option (List ℕ)
  pub text_after : Option (List ℕ)
  pub status : ℕ
  pub read_faults : Count
  pub write_faults : Count
  pub sink_faults : Count
  pub failed : Option (List ℕ) → Type 0

-- the call that asked for this command, over this depot of files and this sink, before it and after it
abbrev pub call_of : {D K : Type 0} → depots.Ghosts D → sinks.Ghosts K → Command → D → D → K → K → ℕ → Call
call_of d k asked depot depot_after out out_after ended = record {
  asked = asked;
  files_before = d.files depot;
  files_after = d.files depot_after;
  text_before = k.written out;
  text_after = k.written out_after;
  status = ended;
  read_faults = record { before = d.read_faults depot; after = d.read_faults depot_after };
  write_faults = record { before = d.write_faults depot; after = d.write_faults depot_after };
  sink_faults = record { before = k.faults out; after = k.faults out_after };
  failed = WhichFailed d depot depot_after;
}

-- the call of these words
abbrev pub call_of_words : {A D K : Type 0} → depots.Ghosts D → sinks.Ghosts K → List (String A) → D → D → K → K → ℕ → Call
call_of_words d k words = call_of d k (command_of (map string_bytes words))

-- ---- what it found

-- what the files hold is told
abbrev pub FilesAreTold : Call → Type 0
FilesAreTold call = (files : Files) × (call.files_before ≡ Some files)

-- this holds of the files that the call found, which are told
abbrev pub Found : Call → (Files → Type 0) → Type 0
Found call P = (files : Files) × (call.files_before ≡ Some files) × P files

-- before the call, the file of this name held these bytes
abbrev pub Held : Call → List ℕ → List ℕ → Type 0
Held call name bytes = Found call (λ files. get files name ≡ Some bytes)

-- before the call, the file of this name held bytes that are read as this
abbrev pub Reads : {A : Type 0} → Call → List ℕ → (List ℕ → Result A FileFault) → A → Type 0
Reads call name read x = (bytes : List ℕ) × Held call name bytes × (read bytes ≡ Ok x)

-- ---- what it left

-- after the call, the file of this name holds these bytes
abbrev pub Holds : Call → List ℕ → List ℕ → Type 0
Holds call name bytes = (files : Files) × (call.files_after ≡ Some files) × (get files name ≡ Some bytes)

-- these outputs were written, one after the other, and no other file changed
abbrev pub Writes : Call → List OutputFields → Type 0
Writes call outputs = call.files_after ≡ with_outputs call.files_before outputs

abbrev pub ChangesNoFile : Call → Type 0
ChangesNoFile call = call.files_after ≡ call.files_before

-- this text was printed behind what had been printed before
abbrev pub Prints : Call → List ℕ → Type 0
Prints call text = call.text_after ≡ followed_by call.text_before text

-- ---- which faults were counted

-- a fault was counted, or the count had come to its last number, 2^64 - 1
abbrev pub HasRisen : Count → Type 0
HasRisen count = Rose count.before count.after

-- no read, no write and no printing failed
pub record NoFault (call : Call) : Type 0 where
  pub reads : (name : List ℕ) → call.failed (Some name) → ⊥
  pub writes : HasRisen call.write_faults → ⊥
  pub sink : HasRisen call.sink_faults → ⊥
