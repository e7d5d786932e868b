-- A call of `run_device`, and how it ends.
use Rattle.std.specs.Prelude.{◌≡◌, ◌⊎◌, ℕ, List, [], ◌∷◌, Option, Some, None, String, map, string_bytes}
use Rattle.outside_core.specs.Files.{Files, Rose}
use Rattle.outside_core.specs.Written.{followed_by, CutShort}
use Rattle.outside_core.specs.declared.depot.Depot as depots
use Rattle.outside_core.specs.declared.sink.Sink as sinks
use Rattle.outside_core.specs.Reads.{WhichFailed}
use Rattle.slot_core.specs.Disk.{DiskState, HasFailed, Quiet}
use Rattle.ident_core.specs.Among.{Among}
use Rattle.input_core.specs.declared.fault.FileFault.TheVariants as faults
use Rattle.line_core.specs.Statuses as status
use Rattle.word_core.specs.Devices.{device_command_of}
use Rattle.word_core.specs.declared.device.DeviceCommand.{DeviceCommand}
use Rattle.word_core.specs.declared.device.DeviceCommand.TheVariants as commands
use Rattle.reply_core.specs.Said.{Said}
use Rattle.reply_core.specs.Replies.{refusal}
use Rattle.device_top.specs.Comes.{Comes}
use Rattle.device_top.specs.Outcomes.{Outcome}
use Rattle.device_top.specs.Holding.{Answers, Leaves}

-- What was printed before and after, where the sink tells it, the exit status that came, and the faults of printing.
pub record Printing : Type 0 where
  pub status : ℕ
  pub text_before : Option (List ℕ)
  pub text_after : Option (List ℕ)
  pub faults_before : ℕ
  pub faults_after : ℕ

-- the printing to this sink, before it and after it, behind which the status came
abbrev pub printing : {K : Type 0} → sinks.Ghosts K → K → K → ℕ → Printing
printing k out out_after ended = record {
  status = ended;
  text_before = k.written out;
  text_after = k.written out_after;
  faults_before = k.faults out;
  faults_after = k.faults out_after;
}

-- printing failed behind a prefix of the line
abbrev pub WasCut : Printing → List ℕ → Type 0
WasCut p text =
    (p.status ≡ status.write_fault) × CutShort p.text_before p.text_after text × Rose p.faults_before p.faults_after

-- the status came and the line was printed, or printing failed
abbrev pub IsPrinted : Printing → Said → Type 0
IsPrinted p said =
    ((p.status ≡ said.status) × (p.text_after ≡ followed_by p.text_before said.text)) ⊎ WasCut p said.text

-- What the words asked for; what the disk means before the call and after it; the files, where the depot tells them,
-- and which reads of them failed; and the printing.
pub record DeviceCall : Type 1 where
  pub asked : DeviceCommand
  pub before : DiskState
  pub after : DiskState
  pub files : Option Files
  pub failed : Option (List ℕ) → Type 0
  pub printed : Printing

-- the call that asked for this command
abbrev pub call_of : {P K : Type 0} → depots.Ghosts P → sinks.Ghosts K → DeviceCommand → DiskState → DiskState → P
    → P → K → K → ℕ → DeviceCall
call_of p k asked before after depot depot_after out out_after ended = record {
  asked = asked;
  before = before;
  after = after;
  files = p.files depot;
  failed = WhichFailed p depot depot_after;
  printed = printing k out out_after ended;
}

-- the call of these words
abbrev pub call : {A P K : Type 0} → depots.Ghosts P → sinks.Ghosts K → List (String A) → DiskState → DiskState → P
    → P → K → K → ℕ → DeviceCall
call p k words = call_of p k (device_command_of (map string_bytes words))

-- how a call may end
abbrev pub all_statuses : List ℕ
all_statuses =
    status.done ∷ status.usage ∷ status.bad_layout ∷ status.chain ∷ status.read_fault ∷ status.write_fault
    ∷ status.disk_fault ∷ status.bad_device ∷ status.too_long ∷ status.no_memory ∷ []

-- the name of the file that the command reads, if it reads one
abbrev pub file_of : DeviceCommand → List (List ℕ)
file_of commands.Usage = []
file_of (commands.Format f) = f.store ∷ []
file_of (commands.Install i) = i.part ∷ []
file_of (commands.Query q) = []

-- the name of its device, if it has one
abbrev pub device_of : DeviceCommand → List (List ℕ)
device_of commands.Usage = []
device_of (commands.Format f) = f.device ∷ []
device_of (commands.Install i) = i.device ∷ []
device_of (commands.Query q) = q.store ∷ []

-- Memory was wanted: nothing is printed, and nothing changes of the disk.
abbrev pub WantedMemory : DeviceCall → Type 0
WantedMemory call =
    (call.printed.status ≡ status.no_memory) × (call.printed.text_after ≡ call.printed.text_before)
    × Quiet call.before call.after

-- it comes of the command, over what was told
abbrev pub HasComeOf : DeviceCall → Outcome → Type 0
HasComeOf call o = Comes call.asked call.files call.failed call.before.told o

-- no read of a file failed; or one of a file of these names did, and that is what is said
abbrev pub SaysWhich : (Option (List ℕ) → Type 0) → List (List ℕ) → Said → Type 0
SaysWhich failed names said =
    failed None
    ⊎ ((name : List ℕ) × Among names name × (said ≡ refusal name faults.Unread) × failed (Some name))

-- How a call ends: memory was wanted, or what comes of the command is done and said, also of which read failed.
abbrev pub Ends : DeviceCall → Type 0
Ends call =
    WantedMemory call
    ⊎ ((said : Said) × IsPrinted call.printed said × SaysWhich call.failed (file_of call.asked) said
    × Answers (HasComeOf call) (device_of call.asked) call.before call.after said)

abbrev pub Prints : DeviceCall → List ℕ → Type 0
Prints call text = call.printed.text_after ≡ followed_by call.printed.text_before text

-- this was said and done
pub record Gives (call : DeviceCall) (o : Outcome) : Type 0 where
  pub status : call.printed.status ≡ o.said.status
  pub prints : Prints call o.said.text
  pub leaves : Leaves o.deed call.before call.after

-- ---- for certain

abbrev pub none_failed : Option (List ℕ) → Type 0
none_failed which = ⊥

-- the disk and the files are told, and this comes of the command where each read goes well
pub record IsDue (call : DeviceCall) (o : Outcome) : Type 0 where
  pub device : List ℕ
  pub files : Files
  pub told : call.before.told ≡ Some device
  pub files_told : call.files ≡ Some files
  pub comes : Comes call.asked (Some files) none_failed (Some device) o

-- printing didn't fail
abbrev pub NotCut : DeviceCall → Type 0
NotCut call = Rose call.printed.faults_before call.printed.faults_after → ⊥

-- no read of a file failed, nor a call of the disk, nor printing
pub record NoFault (call : DeviceCall) : Type 0 where
  pub reads : (name : List ℕ) → call.failed (Some name) → ⊥
  pub disk : HasFailed call.before call.after → ⊥
  pub sink : NotCut call
