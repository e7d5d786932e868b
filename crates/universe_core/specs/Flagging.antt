-- Which members are revoked.
use Rattle.std.specs.Prelude.{◌≡◌, ◌&&◌, ◌||◌, ℕ, List, Bool, not, map, length, is_some}
use Rattle.std.specs.List.{count_by}
use Rattle.ident_core.specs.declared.identity.Identity.{Identity}
use Rattle.ledger_core.specs.declared.fields.LedgerItem.{LedgerItem}
use Rattle.ident_core.specs.Sets.{has_key}

-- A flag beside each member, where its issuer is enrolled, it was listed or is, and it isn't settled; and how many are
-- of the universe.
pub record AreFlags (issuers : List (List ℕ)) (members : List LedgerItem) (settled listed flags : List Bool) (count : ℕ) : Type 0 where
  pub revoked : (s g : Identity → Bool) → settled ≡ map (λ m. s m.id) members → listed ≡ map (λ m. g m.id) members
      → flags ≡ map (λ m. has_key issuers m.id.issuer && ((is_some m.last || g m.id) && not (s m.id))) members
  pub beside : length flags ≡ length members
  pub universe : count ≡ count_by (λ m. has_key issuers m.id.issuer) members
