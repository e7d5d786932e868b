-- Why jobs aren't admitted, as an audit says it.
use Rattle.std.specs.Prelude.{ℕ, List}
use Rattle.job_core.specs.JobFields.{JobFields}
use Rattle.universe_core.specs.declared.fault.AdmitFault.{AdmitFault}
use Rattle.universe_core.specs.declared.fault.AdmitFault.TheVariants as admission
use Rattle.audit_core.specs.declared.fault.AuditFault.{AuditFault}
use Rattle.audit_core.specs.declared.fault.AuditFault.TheVariants as faults
use Rattle.audit_core.specs.Auditing.{IsRefused}

-- the fault is one that jobs which can be audited may have
abbrev pub IsCause : AdmitFault → Type 0
IsCause (admission.BadCrl place fault) = ⊥
IsCause (admission.OldEpoch held given) = Unit {0}
IsCause (admission.CoverageShrinks log) = Unit {0}
IsCause admission.ChainFull = ⊥
IsCause (admission.TooMany what limit) = ⊥
IsCause admission.NoMemory = Unit {0}

-- the fault of admission of the job at place j, as one of an audit
abbrev pub as_audit_fault : ℕ → AdmitFault → AuditFault
as_audit_fault j (admission.BadCrl place fault) = faults.NoMemory
as_audit_fault j (admission.OldEpoch held given) = faults.OldEpoch j held given
as_audit_fault j (admission.CoverageShrinks log) = faults.CoverageShrinks j log
as_audit_fault j admission.ChainFull = faults.NoMemory
as_audit_fault j (admission.TooMany what limit) = faults.NoMemory
as_audit_fault j admission.NoMemory = faults.NoMemory

-- the fault says which of the jobs is the first that isn't admitted, and why, unless memory is wanted
abbrev pub IsRefusal : List JobFields → AuditFault → Type 0
IsRefusal jobs (faults.OldEpoch j held given) = IsRefused jobs j (admission.OldEpoch held given)
IsRefusal jobs (faults.CoverageShrinks j log) = IsRefused jobs j (admission.CoverageShrinks log)
IsRefusal jobs (faults.Disagrees j n held listed) = ⊥
IsRefusal jobs faults.NoMemory = Unit {0}
