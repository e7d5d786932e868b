use Rattle.std.proofs.Common.{◌∙◌, ap, sym}
use Rattle.std.specs.Prelude.{is_some}
use Rattle.ledger_core.specs.LedgerFields.{part_fields}
use Rattle.universe_core.specs.Ledgers.{past_in}
use Rattle.audit_core.specs.Checking.{is_seen, listing_by}
use Rattle.audit_core.proofs.Telling.{late_none, timely_some}
use Rattle.audit_core.proofs.listing.listing.Goals as goal

pub returns-then-known : goal.returns-then-known
returns-then-known c =
    let e = c.args.entry.now in
    late_none (is_seen (part_fields c.args.part.now) e) ((past_in c.args.ledger.now).comes_late e.id e.sighting) ((past_in c.args.ledger.now).listed_before e.id)
    (sym c.known_of-known.ensures.late ∙ c.if-known.true)

pub returns : goal.returns
returns c =
    let e = c.args.entry.now in
    let seen = is_seen (part_fields c.args.part.now) e in
    let late = (past_in c.args.ledger.now).comes_late e.id e.sighting in
    timely_some seen late c.known_of-known.result.listed (sym c.range_seeing.ensures ∙ ap is_some c.in-Some.is)
    (sym c.known_of-known.ensures.late ∙ c.if-known.false)
    ∙ ap (listing_by seen late) c.known_of-known.ensures.listed
