-- What the bytes of each kind of file are read as.
use Rattle.std.specs.Prelude.{ℕ, List, Option, Some, None, Result, Ok, Err}
use Rattle.octets_core.specs.Reading.{value_of}
use Rattle.input_core.specs.Queries.{Query}
use Rattle.input_core.specs.QueryReading.{queries_in as queries_of}
use Rattle.job_core.specs.declared.bounds.TheConstants.Limits as limits
use Rattle.job_core.specs.JobFields.{JobFields}
use Rattle.job_core.specs.JobMeaning.{job_of}
use Rattle.ledger_core.specs.LedgerFields.{LedgerFields}
use Rattle.ledger_core.specs.LedgerReading.{ledger_of_bytes}
use Rattle.part_text.specs.SealedFields.{SealedFields}
use Rattle.store_core.specs.StoreLayout.{store}
use Rattle.input_core.specs.declared.fault.FileFault.{FileFault}
use Rattle.input_core.specs.declared.fault.FileFault.TheVariants as faults
use Rattle.input_core.specs.Faults.{of_queries, of_job, of_ledger, of_store}
use Rattle.input_core.specs.PartFile.{part_file}

abbrev pub faulted : {A E : Type 0} → (E → FileFault) → Result A E → Result A FileFault
faulted fault (Ok x) = Ok x
faulted fault (Err e) = Err (fault e)

abbrev pub queries_in : List ℕ → Result (List Query) FileFault
queries_in bytes = faulted of_queries (queries_of bytes)

abbrev pub job_in : List ℕ → Result JobFields FileFault
job_in bytes = faulted of_job (job_of limits.PUBLISHED bytes)

abbrev pub ledger_in : List ℕ → Result LedgerFields FileFault
ledger_in bytes = faulted of_ledger (ledger_of_bytes bytes)

-- the part, and how many bytes it has
abbrev pub part_in : List ℕ → Result (SealedFields × ℕ) FileFault
part_in bytes = part_file bytes 0

abbrev pub store_in : List ℕ → Result (List SealedFields) FileFault
store_in bytes = faulted of_store (value_of (store bytes 0))

-- an input that can't be read, or that holds these bytes
abbrev pub input_as : {A : Type 0} → (List ℕ → Result A FileFault) → Option (List ℕ) → Result A FileFault
input_as read None = Err faults.Unread
input_as read (Some bytes) = read bytes
