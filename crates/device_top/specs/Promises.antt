-- What `run_device` promises of a call.
use Rattle.std.specs.Prelude.{◌≡◌, ◌≢◌, ◌⊎◌, ◌≤◌, ℕ, List}
use Rattle.std.specs.Prelude.{length, map, slice_index, not, Some, None, Ok}
use Rattle.ident_core.specs.declared.range.Sighting.{Sighting}
use Rattle.outside_core.specs.Reads.{CouldNotRead}
use Rattle.part_text.specs.SealedFields.{SealedFields}
use Rattle.card_core.specs.Verdict.{verdict}
use Rattle.slot_core.specs.Disk.{HasFailed, Quiet}
use Rattle.slot_core.specs.Device.{IsDevice, picks_second}
use Rattle.ident_core.specs.Among.{Among}
use Rattle.universe_core.specs.History.{seen, sightings}
use Rattle.publication_core.specs.Histories.{History, members, IsHistory, parts_of, releases_of, store_bytes}
use Rattle.publication_core.specs.Truth.{truth}
use Rattle.input_core.specs.Readings.{store_in}
use Rattle.input_core.specs.Inputs.{IsRead}
use Rattle.input_core.specs.declared.fault.FileFault.TheVariants as faults
use Rattle.line_core.specs.Statuses as status
use Rattle.word_core.specs.declared.command.Query.{Query}
use Rattle.word_core.specs.declared.device.{Format.Format, InstallPart.InstallPart}
use Rattle.word_core.specs.declared.device.DeviceCommand.{DeviceCommand}
use Rattle.word_core.specs.declared.device.DeviceCommand.TheVariants as commands
use Rattle.reply_core.specs.Said.{Said}
use Rattle.reply_core.specs.Replies.{disk_fault, refusal, usage}
use Rattle.line_core.specs.Lines.{verdict_line}
use Rattle.device_top.specs.Outcomes.{Outcome, keeps, stored}
use Rattle.device_top.specs.Appended.{Grows, new_parts, new_text}
use Rattle.device_top.specs.Holding.{Answers, Rests}
use Rattle.device_top.specs.Calls.{DeviceCall, Prints, WantedMemory, WasCut, Gives, HasComeOf, Ends, IsDue}
use Rattle.device_top.specs.Calls.{NotCut, NoFault, file_of, device_of, all_statuses}
use Rattle.device_top.specs.Crashes.{Survives}

-- the call did what this command is for
abbrev pub Did : DeviceCall → DeviceCommand → Type 0
Did call asked = (call.asked ≡ asked) × (call.printed.status ≡ status.done)

-- STORE gave these bytes, which are a store; the disk now is a device of that capacity with gate 0, whose first slot
-- holds them, and a crash leaves the same.
pub record Formatted (call : DeviceCall) (f : Format) : Type 0 where
  pub bytes : List ℕ
  pub parts : List SealedFields
  pub is_read : IsRead call.files call.failed f.store (Some bytes)
  pub is_store : store_in bytes ≡ Ok parts
  pub prints : Prints call (stored parts).text
  pub rests : Rests call.after (λ after. IsDevice f.capacity bytes after × (slice_index after 0 ≡ 0))

-- The device held a store, which grows by the part in PART; the disk now is a device of the same capacity, whose other
-- slot is picked and holds the store with the part, and a crash leaves the same.
pub record Installed (call : DeviceCall) (device : List ℕ) (i : InstallPart) : Type 0 where
  pub capacity : ℕ
  pub held : List ℕ
  pub is_device : IsDevice capacity held device
  pub grows : Grows call.files call.failed i.part held
  pub prints : Prints call (stored (new_parts grows)).text
  pub rests : Rests call.after (λ after. IsDevice capacity (new_text grows) after
      × (picks_second after ≡ not (picks_second device)))

-- The device held this store, and what its parts say was printed.
pub record Answered (call : DeviceCall) (device : List ℕ) (q : Query) : Type 0 where
  pub capacity : ℕ
  pub held : List ℕ
  pub parts : List SealedFields
  pub is_device : IsDevice capacity held device
  pub is_store : store_in held ≡ Ok parts
  pub prints : Prints call (verdict_line (verdict (map (λ s. s.part) parts) q.id q.sightings))

-- Each success over a disk whose bytes are told: they were this device.
pub record Promises (call : DeviceCall) (device : List ℕ) : Type 0 where
  pub format : (f : Format) → Did call (commands.Format f) → Formatted call f
  pub install : (i : InstallPart) → Did call (commands.Install i) → Installed call device i
  pub query : (q : Query) → Did call (commands.Query q) → Answered call device q
  -- where the slot holds the bytes of a history's store, asked with accepted sightings of the certificate alone
  pub truth : (q : Query) (h : History) (capacity : ℕ) → IsHistory h
      → 1 ≤ members h → IsDevice capacity (store_bytes (parts_of h)) device → 1 ≤ length q.sightings
      → ((s : Sighting) → Among q.sightings s → Among (sightings q.id (seen (releases_of h))) s)
      → Did call (commands.Query q) → Prints call (verdict_line (truth (releases_of h) q.id))

-- What each other status says, over any disk and files, told or not.
pub record Refusals (call : DeviceCall) : Type 0 where
  -- no fault of the outside, nor want of memory: what is said comes of the command, of what was told
  pub given : call.printed.status ≢ status.write_fault → call.printed.status ≢ status.disk_fault
      → call.printed.status ≢ status.no_memory → (o : Outcome) × HasComeOf call o × Gives call o
  -- words that are no command
  pub bad_words : call.printed.status ≡ status.usage → (call.asked ≡ commands.Usage) × Prints call usage.text
  pub no_command : call.asked ≡ commands.Usage → NotCut call → Gives call (keeps usage) ⊎ WantedMemory call
  -- STORE or PART, whose read failed and was counted, and no other; or files are told, it isn't held, and none failed
  pub read_fault : call.printed.status ≡ status.read_fault → (name : List ℕ) × Among (file_of call.asked) name
      × CouldNotRead call.files call.failed name × Prints call (refusal name faults.Unread).text
  -- where no file is said to be unread, no read failed
  pub no_read_fault : call.printed.status ≢ status.read_fault → call.printed.status ≢ status.write_fault
      → call.printed.status ≢ status.no_memory → call.failed None
  -- printing failed behind a prefix of what was to be said, and the disk is as that leaves it
  pub write_fault : call.printed.status ≡ status.write_fault → (said : Said) × WasCut call.printed said.text
      × Answers (HasComeOf call) (device_of call.asked) call.before call.after said
  -- a fault of the disk was counted, and the command has a device
  pub disk_fault : call.printed.status ≡ status.disk_fault → (name : List ℕ) × Among (device_of call.asked) name
      × HasFailed call.before call.after × Prints call (disk_fault name).text
  pub no_memory : call.printed.status ≡ status.no_memory → WantedMemory call
  -- with each other status than these nothing changes of the disk, also of what a crash may leave
  pub unchanged : call.printed.status ≢ status.done → call.printed.status ≢ status.write_fault
      → call.printed.status ≢ status.disk_fault → Quiet call.before call.after

-- What a crash may leave at a moment of an install, whatever it ends with.
pub record Crashes (call : DeviceCall) : Type 0 where
  pub install : (i : InstallPart) → call.asked ≡ commands.Install i
      → Survives call.files call.failed i.part call.before call.after

-- How each call ends, told or not. The promises follow from it.
pub record Ending (call : DeviceCall) : Type 0 where
  pub ends : Ends call
  pub statuses : Among all_statuses call.printed.status
  -- over a disk and files that are told: what comes of the command where no read fails is said and done
  pub complete : (o : Outcome) → IsDue call o → NoFault call → Gives call o ⊎ WantedMemory call
