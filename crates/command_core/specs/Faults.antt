-- What is wrong with the file of a job, from what is wrong with publishing it; and with that of a ledger, from what is
-- wrong with rebasing it.
use Rattle.universe_core.specs.declared.fault.AdmitFault.{AdmitFault}
use Rattle.universe_core.specs.declared.fault.AdmitFault.TheVariants as admit
use Rattle.store_core.specs.declared.chain.Refusal.TheVariants as refusals
use Rattle.publication_core.specs.declared.fault.PublishFault.{PublishFault}
use Rattle.publication_core.specs.declared.fault.PublishFault.TheVariants as publish
use Rattle.publication_core.specs.declared.base_fault.BaseFault.{BaseFault}
use Rattle.publication_core.specs.declared.base_fault.BaseFault.TheVariants as bases
use Rattle.input_core.specs.declared.fault.FileFault.{FileFault}
use Rattle.input_core.specs.declared.fault.FileFault.TheVariants as faults

-- a job that isn't admitted breaks the chain as a part would
abbrev pub of_admission : AdmitFault → FileFault
of_admission (admit.BadCrl place fault) = faults.BadCrl place fault
of_admission (admit.OldEpoch held given) = faults.Chain (refusals.OldEpoch held given)
of_admission (admit.CoverageShrinks log) = faults.Chain (refusals.CoverageShrinks log)
of_admission admit.ChainFull = faults.Chain refusals.Full
of_admission (admit.TooMany what limit) = faults.TooMany what limit
of_admission admit.NoMemory = faults.NoMemory

abbrev pub of_publishing : PublishFault → FileFault
of_publishing (publish.Admission fault) = of_admission fault
of_publishing (publish.SeedsExhausted issuer stage) = faults.Seeds issuer stage
of_publishing publish.NoMemory = faults.NoMemory

abbrev pub of_rebasing : BaseFault → FileFault
of_rebasing (bases.TooMany what limit) = faults.TooMany what limit
of_rebasing (bases.SeedsExhausted issuer stage) = faults.Seeds issuer stage
of_rebasing bases.NoMemory = faults.NoMemory
