-- The serials that a CRL lists, and the run of its issuer among ascending members.
use Rattle.std.specs.Prelude.{◌≡◌, ℕ, ◌≤◌, ◌-◌, List, length, map, take, drop, false}
use Rattle.ledger_core.specs.LedgerFields.{ids}
use Rattle.ledger_core.specs.declared.fields.LedgerItem.{LedgerItem}
use Rattle.ident_core.specs.Sets.{has_key}
use Rattle.universe_core.specs.Groups.{members_of}
use Rattle.universe_core.specs.Placing.{IsKeyOf}
use Rattle.universe_core.specs.declared.listing.Listed.{Listed}
use Rattle.universe_core.specs.declared.marking.Run.{Run}

abbrev pub serials_of : List LedgerItem → List (List ℕ)
serials_of members = map (λ m. m.id.serial) members

abbrev pub listed_in : List Listed → List (List ℕ)
listed_in listed = map (λ l. l.serial.now) listed

abbrev pub IsListed : Listed → Type 0
IsListed l = IsKeyOf l.serial.now l.key

-- the run holds the members of the issuer
pub record IsRunOf (issuer : List ℕ) (members : List LedgerItem) (run : Run) : Type 0 where
  pub order : run.start ≤ run.end
  pub within : run.end ≤ length members
  pub own : take (run.end - run.start) (drop run.start (ids members)) ≡ members_of issuer (ids members)

-- where the window doesn't have the serial, the run doesn't
pub record IsWindow (serial : List ℕ) (run : List LedgerItem) (window : Run) : Type 0 where
  pub order : window.start ≤ window.end
  pub within : window.end ≤ length run
  pub none : has_key (serials_of (take (window.end - window.start) (drop window.start run))) serial ≡ false
      → has_key (serials_of run) serial ≡ false
