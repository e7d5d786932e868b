-- Why a ledger isn't rebased, from why its part isn't built.
use Rattle.builder_core.specs.declared.fault.BuildFault.{BuildFault}
use Rattle.builder_core.specs.declared.fault.BuildFault.TheVariants as build
use Rattle.publication_core.specs.declared.base_fault.BaseFault.{BaseFault}
use Rattle.publication_core.specs.declared.base_fault.BaseFault.TheVariants.{SeedsExhausted, NoMemory}

abbrev pub of_building : BuildFault → BaseFault
of_building (build.SeedsExhausted issuer stage) = SeedsExhausted issuer stage
of_building build.NoMemory = NoMemory
