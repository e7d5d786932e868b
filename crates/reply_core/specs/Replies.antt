-- What is said of a command that was done, of a file, of a device and of a store that it holds (docs/FORMATS.md, "Lines
-- and statuses").
use Rattle.std.specs.Prelude.{ℕ, List, [], codes}
use Rattle.store_core.specs.declared.chain.Refusal.{Refusal}
use Rattle.store_core.specs.declared.chain.Refusal.TheVariants as refusals
use Rattle.slot_core.specs.declared.fault.SlotFault.{SlotFault}
use Rattle.slot_core.specs.declared.fault.SlotFault.TheVariants as slots
use Rattle.input_core.specs.declared.fault.FileFault.{FileFault}
use Rattle.input_core.specs.declared.fault.FileFault.TheVariants as faults
use Rattle.line_core.specs.Lines.{line, line_about, layout_line, crl_line, limit_line}
use Rattle.line_core.specs.Lines.{parent_line, epoch_line, coverage_line, seeds_line, cert_line, page_line, disagreement_line}
use Rattle.line_core.specs.Devices.{device_line, full_line}
use Rattle.line_core.specs.Statuses as status
use Rattle.reply_core.specs.Said.{Said}

abbrev pub says : ℕ → List ℕ → Said
says ended text = record { status = ended; text = text }

abbrev pub done : List ℕ → Said
done text = says status.done text

abbrev pub usage : Said
usage = says status.usage (line (codes "usage"))

-- a file can't be read
abbrev pub read_fault : List ℕ → Said
read_fault name = says status.read_fault (line_about (codes "read-fault") name)

-- a file can't be written
abbrev pub write_fault : List ℕ → Said
write_fault name = says status.write_fault (line_about (codes "write-fault") name)

-- nothing is written
abbrev pub no_memory : Said
no_memory = says status.no_memory []

-- a chain doesn't take the part, or the job, of the file of this name
abbrev pub chain_text : List ℕ → Refusal → List ℕ
chain_text name refusals.NotDelta = line_about (codes "chain not-delta") name
chain_text name (refusals.WrongParent held given) = parent_line held given name
chain_text name (refusals.OldEpoch held given) = epoch_line held given name
chain_text name (refusals.CoverageShrinks log) = coverage_line log name
chain_text name refusals.Full = line_about (codes "chain full") name

-- what is wrong with the file of this name, or with the store in the device of this name
abbrev pub refusal : List ℕ → FileFault → Said
refusal name faults.Unread = read_fault name
refusal name (faults.Layout f) = says status.bad_layout (layout_line f name)
refusal name faults.NotSnapshot = says status.chain (line_about (codes "chain not-snapshot") name)
refusal name (faults.Chain why) = says status.chain (chain_text name why)
refusal name (faults.BadCrl place fault) = says status.bad_crl (crl_line place fault name)
refusal name (faults.OtherEpoch held given) = says status.chain (epoch_line held given name)
refusal name (faults.TooMany thing limit) = says status.too_many (limit_line thing limit name)
refusal name (faults.Seeds issuer stage) = says status.seeds (seeds_line issuer stage)
refusal name (faults.BadCert fault) = says status.bad_cert (cert_line fault name)
refusal name (faults.BadPage fault) = says status.bad_page (page_line fault name)
refusal name (faults.Disagrees job entry held truth) = says status.disagrees (disagreement_line job entry held truth)
refusal name faults.NoMemory = no_memory

-- the disk of the device of this name failed
abbrev pub disk_fault : List ℕ → Said
disk_fault name = says status.disk_fault (line_about (codes "disk-fault") name)

-- the field of the device of this name that stands there is short or fails
abbrev pub bad_device : ℕ → List ℕ → Said
bad_device at name = says status.bad_device (device_line at name)

-- there are more bytes than a slot of the device of this name holds
abbrev pub too_long : ℕ → List ℕ → Said
too_long capacity name = says status.too_long (full_line capacity name)

-- what is wrong with the device of this name
abbrev pub slot_refusal : List ℕ → SlotFault → Said
slot_refusal name (slots.BadDevice at) = bad_device at name
slot_refusal name (slots.TooLong capacity) = too_long capacity name
slot_refusal name slots.DiskFault = disk_fault name
slot_refusal name slots.NoMemory = no_memory
