-- Where a fault stands.
use Rattle.std.specs.Prelude.{ℕ}
use Rattle.job_core.specs.declared.fault.JobFault.{JobFault}
use Rattle.job_core.specs.declared.fault.JobFault.TheVariants as faults

-- the offset of the field, if the fault is one of a field
abbrev pub offset_in_job : JobFault → ℕ
offset_in_job (faults.Layout f) = f.at
offset_in_job (faults.TooMany thing limit) = 0
offset_in_job faults.ReadFault = 0
offset_in_job faults.NoMemory = 0
