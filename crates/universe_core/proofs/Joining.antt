-- The flags of members, a half of them beside the other.
use Rattle.std.specs.List.{count_by}
use Rattle.std.specs.Prelude.{is_some}
use Rattle.std.proofs.Common.{◌≡◌, ℕ, ◌+◌, ◌++◌, ◌&&◌, ◌||◌, List, Bool, not, map, length, take, drop, cond, sym, ap, ◌∙◌, arith}
use Rattle.std.proofs.lemmas.List.{take-map, drop-map, take-append-drop, map-append, length-append}
use Rattle.std.proofs.lemmas.List.Sums.{sum_by-append}
use Rattle.ledger_core.specs.declared.fields.LedgerItem.{LedgerItem}
use Rattle.ident_core.specs.Sets.{has_key}
use Rattle.universe_core.specs.Flagging.{AreFlags}

module _ (issuers : List (List ℕ)) (members : List LedgerItem) where
  -- the flags of the members before a place, and of those from it on
  pub joined_flags : (settled listed : List Bool) (k : ℕ) (first rest : List LedgerItem) (first_settled rest_settled first_listed rest_listed f g flags : List Bool) (u v w : ℕ)
      → first ≡ take k members → rest ≡ drop k members → first_settled ≡ take k settled → rest_settled ≡ drop k settled
      → first_listed ≡ take k listed → rest_listed ≡ drop k listed
      → AreFlags issuers first first_settled first_listed f u → AreFlags issuers rest rest_settled rest_listed g v
      → flags ≡ f ++ g → w ≡ u + v → AreFlags issuers members settled listed flags w
  joined_flags settled listed k first rest first_settled rest_settled first_listed rest_listed f g flags u v w mf mr sf sr lf lr a b e n =
      let whole : first ++ rest ≡ members = ap (λ z. z ++ rest) mf ∙ ap (λ z. take k members ++ z) mr ∙ take-append-drop k members in
      record {
        revoked = λ s h es el.
            let flag = λ (m : LedgerItem). has_key issuers m.id.issuer && ((is_some m.last || h m.id) && not (s m.id)) in
            let settles = λ (m : LedgerItem). s m.id in
            let lists = λ (m : LedgerItem). h m.id in
            let front : f ≡ map flag first = a.revoked s h
            (sf ∙ ap (take k) es ∙ take-map settles k members ∙ ap (map settles) (sym mf))
            (lf ∙ ap (take k) el ∙ take-map lists k members ∙ ap (map lists) (sym mf)) in
            let back : g ≡ map flag rest = b.revoked s h
            (sr ∙ ap (drop k) es ∙ drop-map settles k members ∙ ap (map settles) (sym mr))
            (lr ∙ ap (drop k) el ∙ drop-map lists k members ∙ ap (map lists) (sym mr)) in
            e ∙ ap (λ z. z ++ g) front ∙ ap (λ z. map flag first ++ z) back ∙ sym (map-append flag first rest) ∙ ap (map flag) whole;
        beside = omega (arith, ap length e, length-append f g, a.beside, b.beside, ap length whole, length-append first rest);
        universe = n ∙ ap (λ z. z + v) a.universe ∙ ap (λ z. count_by (λ m. has_key issuers m.id.issuer) first + z) b.universe
            ∙ sym (sum_by-append (λ m. cond (has_key issuers m.id.issuer) 1 0) first rest) ∙ ap (λ ms. count_by (λ m. has_key issuers m.id.issuer) ms) whole;
      }
