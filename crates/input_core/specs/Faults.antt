-- What is wrong with a file, from what is wrong with what it holds.
use Rattle.input_core.specs.declared.fault.QueriesFault.{QueriesFault}
use Rattle.input_core.specs.declared.fault.QueriesFault.TheVariants as queries
use Rattle.job_core.specs.declared.fault.JobFault.{JobFault}
use Rattle.job_core.specs.declared.fault.JobFault.TheVariants as job
use Rattle.ledger_core.specs.declared.fault.LedgerFault.{LedgerFault}
use Rattle.ledger_core.specs.declared.fault.LedgerFault.TheVariants as ledger
use Rattle.gather_core.specs.declared.fault.PageFault.{PageFault}
use Rattle.gather_core.specs.declared.fault.PageFault.TheVariants as page
use Rattle.part_text.specs.declared.fault.PartFault.{PartFault}
use Rattle.part_text.specs.declared.fault.PartFault.TheVariants as part
use Rattle.store_core.specs.declared.fault.StoreFault.{StoreFault}
use Rattle.store_core.specs.declared.fault.StoreFault.TheVariants as store
use Rattle.input_core.specs.declared.fault.FileFault.{FileFault}
use Rattle.input_core.specs.declared.fault.FileFault.TheVariants as faults
use Rattle.input_core.specs.declared.scanning.ScanFault.{ScanFault}
use Rattle.input_core.specs.declared.scanning.ScanFault.TheVariants as scan
use Rattle.input_core.specs.declared.input.InputFault.{InputFault}
use Rattle.input_core.specs.declared.input.InputFault.TheVariants as input

abbrev pub of_scan : ScanFault → FileFault
of_scan scan.Unread = faults.Unread
of_scan (scan.Layout f) = faults.Layout f

abbrev pub of_input : InputFault → FileFault
of_input input.Failed = faults.Unread
of_input input.NoMemory = faults.NoMemory

abbrev pub of_queries : QueriesFault → FileFault
of_queries (queries.Layout f) = faults.Layout f
of_queries queries.NoMemory = faults.NoMemory

abbrev pub of_job : JobFault → FileFault
of_job (job.Layout f) = faults.Layout f
of_job (job.TooMany what limit) = faults.TooMany what limit
of_job job.ReadFault = faults.Unread
of_job job.NoMemory = faults.NoMemory

abbrev pub of_ledger : LedgerFault → FileFault
of_ledger (ledger.Layout f) = faults.Layout f
of_ledger ledger.NoMemory = faults.NoMemory

abbrev pub of_part : PartFault → FileFault
of_part (part.Layout f) = faults.Layout f
of_part part.NoMemory = faults.NoMemory

abbrev pub of_store : StoreFault → FileFault
of_store (store.Layout f) = faults.Layout f
of_store store.NotSnapshot = faults.NotSnapshot
of_store (store.Refused why) = faults.Chain why
of_store store.NoMemory = faults.NoMemory

abbrev pub of_page : PageFault → FileFault
of_page page.NoMemory = faults.NoMemory
of_page fault = faults.BadPage fault
