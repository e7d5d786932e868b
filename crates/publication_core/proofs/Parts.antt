-- The parts of a ledger: their issuers, and the newest one.
use Rattle.std.specs.List.{filter, flat_map}
use Rattle.std.proofs.Common.{◌≡◌, ℕ, zero, suc, ◌+◌, List, [], ◌∷◌, map, length, get_or, Option, Some, sym, ap, subst, arith}
use Rattle.octets_core.specs.Linked.{Linked}
use Rattle.ident_core.specs.Coverage.{RangesFit}
use Rattle.ledger_core.specs.LedgerFields.{LedgerPartFields, IsPartAfter, part_fields, newest}
use Rattle.ledger_core.specs.declared.fields.LedgerPart.{LedgerPart}
use Rattle.ident_core.proofs.Elements.{some_item}
use Rattle.place_core.specs.Cuts.{Cut}

-- the issuers of each that are taken, one part after the other
abbrev pub issuers_each : Cut → List LedgerPart → List (List ℕ)
issuers_each cut ps = flat_map (λ (p : LedgerPartFields). filter (cut.takes) p.issuers) (map part_fields ps)

-- the last of the parts is the newest
pub newest_at : (ps : List LedgerPart) (p : LedgerPart) (i : ℕ) → i + 1 ≡ length ps → p ≡ get_or ps i p → newest (map part_fields ps) ≡ Some (part_fields p)
newest_at [] p i h e = absurd (omega arith)
newest_at (q ∷ []) p zero h e = ap (λ z. Some (part_fields z)) (sym e)
newest_at (q ∷ []) p (suc i) h e = absurd (omega arith)
newest_at (q ∷ r ∷ ps) p zero h e = absurd (omega arith)
newest_at (q ∷ r ∷ ps) p (suc i) h e = newest_at (r ∷ ps) p i (omega arith) e

-- its ranges fit, as those of each part do
pub newest_fits : (previous : Option LedgerPartFields) (ps : List LedgerPartFields) (p : LedgerPartFields) → Linked IsPartAfter (λ before q. Some q) previous ps
    → newest ps ≡ Some p → RangesFit p.ranges
newest_fits previous [] p l h = absurd cc
newest_fits previous (q ∷ []) p l h = subst (λ (z : LedgerPartFields). RangesFit z.ranges) (some_item q p h) l.0.ranges
newest_fits previous (q ∷ r ∷ ps) p l h = newest_fits (Some q) (r ∷ ps) p l.1 h
