-- The parts of a ledger are small: their counts fit their fields.
use Rattle.std.proofs.Common.{◌≡◌, ℕ, zero, suc, ◌<◌, List, [], ◌∷◌, length, get_or, map, Option, Some, None, sym, subst, arith}
use Rattle.std.specs.Prelude.{All}
use Rattle.octets_core.specs.Linked.{Linked}
use Rattle.ledger_core.specs.declared.fields.LedgerPart.{LedgerPart}
use Rattle.ledger_core.specs.LedgerFields.{LedgerPartFields, LedgerFields, IsPartAfter, IsLedger, part_fields}
use Rattle.ledger_core.specs.Fitting.{IsSmall}

abbrev IsSmallPart : LedgerPart → Type 0
IsSmallPart p = IsSmall (part_fields p)

small : (previous : Option LedgerPartFields) (ps : List LedgerPart) → Linked IsPartAfter (λ previous p. Some p) previous (map part_fields ps) → All IsSmallPart ps
small previous [] h k d lt = absurd (omega arith)
small previous (p ∷ ps) h zero d lt = (h.0.ranges.few, h.0.few_issuers)
small previous (p ∷ ps) h (suc k) d lt = small (Some (part_fields p)) ps h.1 k d (omega arith)

pub parts-small : (l : LedgerFields) (ps : List LedgerPart) → map part_fields ps ≡ l.parts → IsLedger l → All (λ p. IsSmall (part_fields p)) ps
parts-small l ps is h = small None ps (subst (λ (qs : List LedgerPartFields). Linked IsPartAfter (λ previous p. Some p) None qs) (sym is) h.parts)

-- what holds of each holds of the one at a place
pub at-place : {X : Type 0} (P : X → Type 0) (xs : List X) (i : ℕ) (x : X) → i < length xs → x ≡ get_or xs i x → All P xs → P x
at-place P xs i x lt is all = subst P (sym is) (all i x lt)
