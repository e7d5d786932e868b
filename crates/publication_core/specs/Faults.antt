-- Why nothing is published, from why a job isn't admitted or its part isn't built.
use Rattle.universe_core.specs.declared.fault.AdmitFault.{AdmitFault}
use Rattle.universe_core.specs.declared.fault.AdmitFault.TheVariants as admit
use Rattle.builder_core.specs.declared.fault.BuildFault.{BuildFault}
use Rattle.builder_core.specs.declared.fault.BuildFault.TheVariants as build
use Rattle.publication_core.specs.declared.fault.PublishFault.{PublishFault}
use Rattle.publication_core.specs.declared.fault.PublishFault.TheVariants.{Admission, SeedsExhausted, NoMemory}

abbrev pub of_admission : AdmitFault → PublishFault
of_admission admit.NoMemory = NoMemory
of_admission fault = Admission fault

abbrev pub of_building : BuildFault → PublishFault
of_building (build.SeedsExhausted issuer stage) = SeedsExhausted issuer stage
of_building build.NoMemory = NoMemory
