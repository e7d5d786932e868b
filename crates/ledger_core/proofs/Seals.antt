-- What a seal changes, and what it keeps.
use Rattle.std.proofs.Common.{◌≡◌, ℕ, zero, suc, ◌-◌, List, [], ◌∷◌, ◌++◌, length, get_or, set, map, Option, Some, None, refl, ap, ◌∙◌, arith}
use Rattle.octets_core.specs.Linked.{Linked}
use Rattle.ledger_core.specs.declared.fields.LedgerPart.{LedgerPart}
use Rattle.ledger_core.specs.declared.fields.LedgerItem.{LedgerItem}
use Rattle.ledger_core.specs.LedgerFields.{LedgerPartFields, LedgerFields, part_fields, ledger_fields, Continues, IsPartAfter, IsLedger, with_trailer, sealed_parts, sealed_with}

abbrev with_code_trailer : LedgerPart → List ℕ → LedgerPart
with_code_trailer p trailer = record p { trailer = trailer }

-- the newest part is behind all others
pub sealed-append : (ps : List LedgerPartFields) (p : LedgerPartFields) (trailer : List ℕ) → sealed_parts (ps ++ p ∷ []) trailer ≡ ps ++ with_trailer p trailer ∷ []
sealed-append [] p trailer = refl
sealed-append (q ∷ []) p trailer = refl
sealed-append (q ∷ r ∷ ps) p trailer = ap (λ (l : List LedgerPartFields). q ∷ l) (sealed-append (r ∷ ps) p trailer)

pub length-sealed : (ps : List LedgerPartFields) (trailer : List ℕ) → length (sealed_parts ps trailer) ≡ length ps
length-sealed [] trailer = refl
length-sealed (p ∷ []) trailer = refl
length-sealed (p ∷ q ∷ ps) trailer = ap suc (length-sealed (q ∷ ps) trailer)

Continues-sealed : (previous : Option LedgerPartFields) (p : LedgerPartFields) (trailer : List ℕ) → Continues previous p → Continues previous (with_trailer p trailer)
Continues-sealed None p trailer h = tt
Continues-sealed (Some previous) p trailer h = h

IsPartAfter-sealed : (previous : Option LedgerPartFields) (p : LedgerPartFields) (trailer : List ℕ) → IsPartAfter previous p → IsPartAfter previous (with_trailer p trailer)
IsPartAfter-sealed previous p trailer h = record { continues = Continues-sealed previous p trailer h.continues; ranges = h.ranges; few_issuers = h.few_issuers; issuers_ascend = h.issuers_ascend }

parts-sealed : (previous : Option LedgerPartFields) (ps : List LedgerPartFields) (trailer : List ℕ) → Linked IsPartAfter (λ previous p. Some p) previous ps
    → Linked IsPartAfter (λ previous p. Some p) previous (sealed_parts ps trailer)
parts-sealed previous [] trailer h = tt
parts-sealed previous (p ∷ []) trailer h = (IsPartAfter-sealed previous p trailer h.0, tt)
parts-sealed previous (p ∷ q ∷ ps) trailer h = (h.0, parts-sealed (Some p) (q ∷ ps) trailer h.1)

-- the facts of a ledger hold for any last trailer
pub IsLedger-sealed : (l : LedgerFields) (trailer : List ℕ) → IsLedger l → IsLedger (sealed_with l trailer)
IsLedger-sealed l trailer h =
    let len = length-sealed l.parts trailer in
    record {
      some_parts = rw len h.some_parts;
      few_parts = rw len h.few_parts;
      parts = parts-sealed None l.parts trailer h.parts;
      few_items = h.few_items;
      items_ascend = h.items_ascend;
      items = rw len h.items;
    }

-- a trailer that is set at the last place
pub set-sealed : (ps : List LedgerPart) (n : ℕ) (p : LedgerPart) (trailer : List ℕ) → n ≡ length ps - 1 → p ≡ get_or ps n p
    → map part_fields (set ps n (with_code_trailer p trailer)) ≡ sealed_parts (map part_fields ps) trailer
set-sealed [] n p trailer last is = refl
set-sealed (q ∷ []) zero p trailer last is = ap (λ (x : LedgerPart). with_trailer (part_fields x) trailer ∷ []) is
set-sealed (q ∷ []) (suc n) p trailer last is = absurd (omega arith)
set-sealed (q ∷ r ∷ ps) zero p trailer last is = absurd (omega arith)
set-sealed (q ∷ r ∷ ps) (suc n) p trailer last is = ap (λ (l : List LedgerPartFields). part_fields q ∷ l) (set-sealed (r ∷ ps) n p trailer (omega arith) is)

-- the same of a whole ledger
pub seal-is : (ps : List LedgerPart) (items : List LedgerItem) (n : ℕ) (p : LedgerPart) (l : LedgerFields) (trailer : List ℕ) → ledger_fields ps items ≡ l → n ≡ length ps - 1 → p ≡ get_or ps n p
    → ledger_fields (set ps n (with_code_trailer p trailer)) items ≡ sealed_with l trailer
seal-is ps items n p l trailer view last is =
    ap (λ (parts : List LedgerPartFields). record { parts = parts; items = items }) (set-sealed ps n p trailer last is) ∙ ap (λ (k : LedgerFields). sealed_with k trailer) view
