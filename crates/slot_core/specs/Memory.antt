-- What contracts see of a disk in memory, and what its calls leave.
use Rattle.std.specs.Prelude.{ℕ, Bool, false, List, [], ◌∷◌, ◌++◌, cond, Option, None, Some, nat_le, refl}
use Rattle.std.specs.Coded.{Coded, code_by, coded×, coded_ℕ, coded_list, coded_option}
use Rattle.outside_core.specs.Calls.{one_more}
use Rattle.slot_core.specs.Disk.{DiskState}
use Rattle.slot_core.specs.Steps.{Step, step_code, recorded_state}

-- its writes and syncs in their order, how many calls were made, from which number on they stop, and how many failed
pub record MemoryView : Type 0 where
  pub steps : List Step
  pub made : ℕ
  pub stop : Option ℕ
  pub faults : ℕ

abbrev pub memory_code : Coded MemoryView
memory_code =
    code_by (List Step × (ℕ × (Option ℕ × ℕ))) (coded× (coded_list step_code) (coded× coded_ℕ (coded× (coded_option coded_ℕ) coded_ℕ)))
    (λ d. (d.steps, (d.made, (d.stop, d.faults)))) (λ p. record { steps = p.0; made = p.1.0; stop = p.1.1.0; faults = p.1.1.1 }) (λ _. refl)

abbrev pub new_disk : MemoryView
new_disk = record { steps = []; made = 0; stop = None; faults = 0 }

-- calls stop from this number on, and so many were made: whether the next call stops
abbrev pub stops : Option ℕ → ℕ → Bool
stops None made = false
stops (Some number) made = nat_le number made

abbrev pub is_stopped : MemoryView → Bool
is_stopped disk = stops disk.stop disk.made

-- after one more call
abbrev pub one_made : MemoryView → MemoryView
one_made disk = record disk { made = one_more disk.made }

-- after one more fault
abbrev pub one_failed : MemoryView → MemoryView
one_failed disk = record disk { faults = one_more disk.faults }

-- after one more call, which failed or didn't
abbrev pub after_call : Bool → MemoryView → MemoryView
after_call failed disk = cond failed (one_failed (one_made disk)) (one_made disk)

-- the same of a call that makes this step, and none where it failed
abbrev pub after_step : Step → Bool → MemoryView → MemoryView
after_step step failed disk =
    cond failed (one_failed (one_made disk)) (record disk { made = one_more disk.made; steps = disk.steps ++ step ∷ [] })

-- what a disk in memory means
abbrev pub state_of : MemoryView → DiskState
state_of disk = recorded_state disk.steps disk.faults
