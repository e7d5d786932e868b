-- The two jobs of the example, computed.
use Rattle.std.proofs.Common.{◌≡◌, [], ◌∷◌, Some, None, pos, refl}
use Rattle.ident_core.specs.Sets.{set_with}
use Rattle.universe_core.specs.Jobs.{enrolled, lists}
use Rattle.universe_core.specs.History.{past_of, releases, shown, class_by, sightings, accepted_with, universe, is_revoked, revoked, accepted_by}
use Rattle.universe_core.specs.History.{seen, is_listed, already_revoked_by, comes_late_behind, birth}
use Rattle.universe_core.specs.Counting.{counts}
use Rattle.universe_core.specs.Dates.{greatest, dates, until}
use Rattle.universe_core.specs.Ledgers.{ledger_of, next_ledger, past_in, item_of, parts_before, last_place, last}
use Rattle.history_core.specs.Example.{certificate, second_job, after_first}

pub second_counts : counts (past_of after_first) second_job ≡ record { issuers = 1; universe = 3; revoked = 1; unread = 1; uncovered = 1; unenrolled = 0; late = 1; accepted = 2 }
unfolding counts releases set_with enrolled lists past_of shown class_by sightings accepted_with universe is_revoked revoked accepted_by seen birth is_listed already_revoked_by comes_late_behind
second_counts = refl

pub second_items : (next_ledger (ledger_of after_first) second_job []).items
    ≡ record { id = certificate 5; birth = 0; last = Some 1; until = Some (pos 30) } ∷ record { id = certificate 6; birth = 0; last = None; until = Some (pos 20) }
    ∷ record { id = certificate 8; birth = 1; last = None; until = None } ∷ []
unfolding releases set_with enrolled lists past_of shown class_by sightings accepted_with universe is_revoked revoked accepted_by seen is_listed
    already_revoked_by comes_late_behind birth ledger_of past_in item_of parts_before last_place last greatest dates until
second_items = refl
