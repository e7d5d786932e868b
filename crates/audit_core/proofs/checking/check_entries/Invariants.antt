use Rattle.std.proofs.Common.{◌≡◌, ◌<◌, ◌*◌, ◌/◌, ◌%◌, map, take}
use Rattle.std.specs.Prelude.{count_by}
use Rattle.ledger_core.specs.LedgerFields.{part_fields}
use Rattle.audit_core.specs.Checking.{listing, AreFine, is_told}
use Rattle.audit_core.specs.Fours.{agreements_from}
use Rattle.audit_core.proofs.checking.check_entries.Given as goal

abbrev pub invariant-loop-place : goal.invariant-loop-place
invariant-loop-place l = record {
  accepted : l.accepted ≡ count_by (is_told (listing l.ledger (part_fields l.part))) (take l.place l.entries);
  fine : AreFine (map (λ s. s.part) l.store) (listing l.ledger (part_fields l.part)) l.entries l.place;
  known : 0 < l.place % 4 → l.four ≡ agreements_from (map (λ s. s.part) l.store) (listing l.ledger (part_fields l.part)) l.entries (4 * (l.place / 4));
}
