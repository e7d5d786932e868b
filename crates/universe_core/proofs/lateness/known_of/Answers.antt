use Rattle.std.specs.List.{find}
use Rattle.std.specs.Prelude.{is_some}
use Rattle.std.proofs.Common.{◌≡◌, ◌∙◌, List, ap, sym, subst, length, map, take, None}
use Rattle.ident_core.specs.declared.identity.Identity.{Identity}
use Rattle.ident_core.specs.Order.{is_same}
use Rattle.ledger_core.specs.declared.fields.LedgerItem.{LedgerItem}
use Rattle.ledger_core.specs.LedgerFields.{AreParts, LedgerFields, part_fields}
use Rattle.universe_core.specs.Ledgers.{past_in, item_of, birth_or, last_or_none, covered_and_enrolled_by}
use Rattle.universe_core.proofs.Continuing.{shows}
use Rattle.universe_core.proofs.Members.{lacked_is}
use Rattle.universe_core.proofs.Searchable.{parts_searchable}
use Rattle.universe_core.proofs.lateness.known_of.Goals as goal

listed_is : (ledger : LedgerFields) (items : List LedgerItem) (x : Identity) → items ≡ ledger.items
    → (past_in ledger).listed_before x ≡ is_some (last_or_none (find (λ (i : LedgerItem). is_same x i.id) items))
unfolding past_in item_of
listed_is ledger items x i = ap (λ l. is_some (last_or_none (find (λ (j : LedgerItem). is_same x j.id) l))) (sym i)

pub is_late-requires : goal.is_late-requires
is_late-requires c = parts_searchable None c.parts-parts.result.now (subst AreParts (sym c.parts-parts.ensures.value) c.parts-parts.ensures.facts.parts)

pub returns-clause-late : goal.returns-clause-late
returns-clause-late c =
    let e = c.args.entry.now in
    let parts = c.parts-parts.result.now in
    c.is_late.ensures
    ∙ ap (λ n. covered_and_enrolled_by (take n (map part_fields parts)) e.id e.sighting) (c.birth_of-birth.ensures ∙ ap (birth_or (length parts)) c.item_of-item.ensures)
    ∙ sym (lacked_is parts c.items.result.now e.id e.sighting)
    ∙ ap (λ l. (past_in l).comes_late e.id e.sighting) (shows c.args.ledger.now parts c.items.result.now c.parts-parts.ensures.value c.items.ensures.value)

pub returns-clause-listed : goal.returns-clause-listed
returns-clause-listed c =
    c.is_some.ensures ∙ ap is_some (c.last_of.ensures ∙ ap last_or_none c.item_of-item.ensures)
    ∙ sym (listed_is c.args.ledger.now c.items.result.now c.args.entry.now.id c.items.ensures.value)
