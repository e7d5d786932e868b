-- What is lent, as the values that it stands for.
use Rattle.std.specs.Prelude.{ℕ, ◌+◌, List, length, take, drop, nat_lt, ◌||◌, if◌then◌else◌, Result, Ok, Err}
use Rattle.ident_core.specs.declared.bounds.TheConstants.{MAX_SERIAL}
use Rattle.ident_core.specs.declared.range.Sighting.{Sighting}
use Rattle.lending_core.specs.declared.fault.LentFault.{LentFault}
use Rattle.lending_core.specs.declared.fault.LentFault.TheVariants as faults
use Rattle.lending_core.specs.declared.lent.LentQuery.{LentQuery}
use Rattle.lending_core.specs.declared.lent.LentSighting.{LentSighting}

abbrev pub sighting_of : LentSighting → Sighting
sighting_of s = record { log = s.log; time = s.time }

-- a serial has 1 to 32 octets
abbrev pub serial_of : List ℕ → Result (List ℕ) LentFault
serial_of octets = if nat_lt (length octets) 1 || nat_lt MAX_SERIAL (length octets) then Err faults.BadSerial else Ok octets

-- so many of the octets that a query has room for
abbrev pub serial_in : LentQuery → Result (List ℕ) LentFault
serial_in q = if nat_lt MAX_SERIAL q.serial_len then Err faults.BadSerial else serial_of (take q.serial_len q.serial)

-- so many sightings from a place on, if all of them are there
abbrev pub slice_in : {T : Type 0} → LentQuery → List T → Result (List T) LentFault
slice_in q all =
    if nat_lt (length all) (q.first_sighting + q.sightings) then Err faults.BadSightings
    else Ok (take q.sightings (drop q.first_sighting all))
