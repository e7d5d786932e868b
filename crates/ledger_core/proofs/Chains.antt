-- A chain with one part more.
use Rattle.std.proofs.Common.{ℕ, ◌≤◌, ◌<◌, List, [], ◌∷◌, ◌++◌, Option, Some, None, arith}
use Rattle.std.specs.Prelude.{IfSome}
use Rattle.octets_core.specs.Linked.{Linked}
use Rattle.ledger_core.specs.declared.fields.LedgerItem.{LedgerItem}
use Rattle.ledger_core.specs.LedgerFields.{LedgerPartFields, IsPartAfter, IsItemOf}

-- the last of some parts, or what stands before them
abbrev pub newest_after : Option LedgerPartFields → List LedgerPartFields → Option LedgerPartFields
newest_after previous [] = previous
newest_after previous (p ∷ ps) = newest_after (Some p) ps

pub parts-append : (previous : Option LedgerPartFields) (ps : List LedgerPartFields) (p : LedgerPartFields) → Linked IsPartAfter (λ previous p. Some p) previous ps
    → IsPartAfter (newest_after previous ps) p → Linked IsPartAfter (λ previous p. Some p) previous (ps ++ p ∷ [])
parts-append previous [] p h one = (one, tt)
parts-append previous (q ∷ ps) p h one = (h.0, parts-append (Some q) ps p h.1 one)

place-more : (n m low : ℕ) (last : Option ℕ) → n ≤ m → IfSome last (λ r. (low ≤ r) × (r < n)) → IfSome last (λ r. (low ≤ r) × (r < m))
place-more n m low None le h = tt
place-more n m low (Some r) le h = (h.0, omega (arith, h.1))

-- the places of a chain are places of a longer one
pub IsItemOf-more : (n m : ℕ) (x : LedgerItem) → n ≤ m → IsItemOf n x → IsItemOf m x
IsItemOf-more n m x le h = record { birth = omega (arith, h.birth); last = place-more n m x.birth x.last le h.last }
