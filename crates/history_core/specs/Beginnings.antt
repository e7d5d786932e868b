-- What a first job sees.
use Rattle.std.specs.Prelude.{Bool, false, ◌&&◌, Option, Some, None}
use Rattle.std.specs.List.{list_any}
use Rattle.ident_core.specs.declared.identity.Identity.{Identity}
use Rattle.ident_core.specs.Order.{is_same}
use Rattle.ident_core.specs.Coverage.{covers}
use Rattle.universe_core.specs.Jobs.{Entry, JobFacts}

-- whether an entry is of the identity, and the job covers its sighting
abbrev pub is_entry_of : JobFacts → Identity → Option Entry → Bool
is_entry_of job x None = false
is_entry_of job x (Some e) = covers job.ranges e.sighting && is_same x e.id

-- whether the job has a covered entry of the identity
abbrev pub sees : JobFacts → Identity → Bool
sees job x = list_any (is_entry_of job x) job.entries
