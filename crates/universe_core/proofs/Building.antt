-- What accepted identities make.
use Rattle.std.proofs.Common.{◌≡◌, ℕ, List, [], ◌∷◌, map, length, Bool, refl, sym, ap, ◌∙◌}
use Rattle.ident_core.specs.declared.identity.Identity.{Identity}
use Rattle.job_core.specs.declared.meaning.JobCrl.{JobCrl}
use Rattle.ledger_core.specs.declared.fields.LedgerItem.{LedgerItem}
use Rattle.ledger_core.specs.LedgerFields.{LedgerFields, ids}
use Rattle.ident_core.specs.Sets.{has}
use Rattle.universe_core.specs.Jobs.{JobFacts, enrolled}
use Rattle.universe_core.specs.History.{accepted_with, revoked}
use Rattle.universe_core.specs.Ledgers.{past_in, next_item}
use Rattle.universe_core.specs.Groups.{GroupFields, groups}
use Rattle.universe_core.specs.Members.{AreMembers, AreOf, members_in, next_of, group_with}
use Rattle.universe_core.specs.Step.{groups_after}
use Rattle.universe_core.proofs.Revoking.{items_are, of_items}

module _ (ledger : LedgerFields) (job : JobFacts) (items : List LedgerItem) (settled : List Bool) (ms : AreMembers (members_in ledger job) items settled) where
  pub ids_in : ids items ≡ accepted_with (past_in ledger) job
  ids_in = of_items ledger job items settled ms (λ (i : LedgerItem). i.id) ∙ map_self (accepted_with (past_in ledger) job)
    where
      map_self : (xs : List Identity) → map (λ x. x) xs ≡ xs
      map_self [] = refl
      map_self (x ∷ xs) = ap (λ z. x ∷ z) (map_self xs)

  pub groups_in : (issuers : List (List ℕ)) (xs : List Identity) (flags : List Bool) (out : List GroupFields) → issuers ≡ enrolled job → xs ≡ ids items
      → flags ≡ map (has (revoked (past_in ledger) job)) (accepted_with (past_in ledger) job)
      → ((h : Identity → Bool) → flags ≡ map h xs → out ≡ map (group_with h xs) issuers) → out ≡ groups_after ledger job
  unfolding groups
  groups_in issuers xs flags out k i f g =
      let x = i ∙ ids_in in
      g (has (revoked (past_in ledger) job)) (f ∙ ap (map (has (revoked (past_in ledger) job))) (sym x))
      ∙ ap (λ z. map (group_with (has (revoked (past_in ledger) job)) z) issuers) x ∙ ap (map (group_with (has (revoked (past_in ledger) job)) (accepted_with (past_in ledger) job))) k

  pub items_in : (flags : List Bool) (place : ℕ) (out : List LedgerItem) → flags ≡ map (has (revoked (past_in ledger) job)) (accepted_with (past_in ledger) job) → place ≡ length ledger.parts
      → ((h : Identity → Bool) → flags ≡ map (λ d. h d.id) items → out ≡ map (λ d. next_of place (h d.id) d) items)
      → out ≡ map (next_item (past_in ledger) ledger job) (accepted_with (past_in ledger) job)
  items_in flags place out f p g =
      g (has (revoked (past_in ledger) job)) (f ∙ sym (of_items ledger job items settled ms (λ (d : LedgerItem). has (revoked (past_in ledger) job) d.id)))
      ∙ ap (λ z. map (λ d. next_of z (has (revoked (past_in ledger) job) d.id) d) items) p
      ∙ items_are ledger job items settled ms

-- the same, of items and flags as slices show them
pub shown_of : {ledger : LedgerFields} {job : JobFacts} {crls : List JobCrl} {issuers : List (List ℕ)} {items seen : List LedgerItem} {settled shown : List Bool}
    → AreOf ledger job crls issuers items settled → seen ≡ items → shown ≡ settled → AreOf ledger job crls issuers seen shown
shown_of of e s = record { crls = of.crls; issuers = of.issuers; members = record { items = e ∙ of.members.items; settled = s ∙ of.members.settled } }
