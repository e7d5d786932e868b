use Rattle.std.specs.Prelude.{is_some}
use Rattle.std.specs.Option.{option_map}
use Rattle.std.proofs.Common.{ap, sym, ◌∙◌, None}
use Rattle.std.proofs.lemmas.List.{get_or_read}
use Rattle.ident_core.specs.Coverage.{covers}
use Rattle.ledger_core.specs.LedgerFields.{LedgerFields}
use Rattle.universe_core.specs.History.{class_of as class_told}
use Rattle.universe_core.specs.Jobs.{facts_of_job, enrolled}
use Rattle.universe_core.specs.Ledgers.{ledger_or_none, past_in}
use Rattle.universe_core.proofs.Classes.{none_late, told_unread, told_uncovered, told_unenrolled, told_late, told_accepted}
use Rattle.universe_core.proofs.Enrolled.{enrolled_test}
use Rattle.universe_core.proofs.classing.class_of.Goals as goal

pub returns-in_default : goal.returns-in_default
returns-in_default c =
    let past = past_in (ledger_or_none (option_map {U = LedgerFields} (λ l. l.now) c.args.ledger)) in
    let at = get_or_read c.args.job.now.entries.items c.args.entry c.index.result.now c.requires.within c.index.ensures None in
    told_unread c.args.job.now.ranges.items (enrolled (facts_of_job c.args.job.now)) past
    ∙ ap (class_told past (facts_of_job c.args.job.now)) (sym c.in_default.is ∙ at)

pub returns-in_default-place_covering : goal.returns-in_default-place_covering
returns-in_default-place_covering c =
    let past = past_in (ledger_or_none (option_map {U = LedgerFields} (λ l. l.now) c.args.ledger)) in
    let at = get_or_read c.args.job.now.entries.items c.args.entry c.index.result.now c.requires.within c.index.ensures None in
    told_uncovered c.args.job.now.ranges.items (enrolled (facts_of_job c.args.job.now)) past c.in-Some.entry
    (ap (λ rs. covers rs c.in-Some.entry.sighting) (sym c.deref.ensures.value) ∙ sym c.place_covering.ensures.covers ∙ ap is_some c.in_default-place_covering.is)
    ∙ ap (class_told past (facts_of_job c.args.job.now)) (sym c.in-Some.is ∙ at)

pub returns-then-not-is_enrolled : goal.returns-then-not-is_enrolled
returns-then-not-is_enrolled c =
    let past = past_in (ledger_or_none (option_map {U = LedgerFields} (λ l. l.now) c.args.ledger)) in
    let at = get_or_read c.args.job.now.entries.items c.args.entry c.index.result.now c.requires.within c.index.ensures None in
    told_unenrolled c.args.job.now.ranges.items (enrolled (facts_of_job c.args.job.now)) past c.in-Some.entry
    (ap (λ rs. covers rs c.in-Some.entry.sighting) (sym c.deref.ensures.value) ∙ sym c.place_covering.ensures.covers ∙ ap is_some c.in-Some-place_covering.is)
    (enrolled_test (facts_of_job c.args.job.now) c.in-Some.entry.id.issuer ∙ sym c.is_enrolled.ensures ∙ c.if-not-is_enrolled.true)
    ∙ ap (class_told past (facts_of_job c.args.job.now)) (sym c.in-Some.is ∙ at)

pub returns-then-known_of : goal.returns-then-known_of
returns-then-known_of c =
    let past = past_in (ledger_or_none (option_map {U = LedgerFields} (λ l. l.now) c.args.ledger)) in
    let entry = c.in-Some.entry in
    let at = get_or_read c.args.job.now.entries.items c.args.entry c.index.result.now c.requires.within c.index.ensures None in
    told_late c.args.job.now.ranges.items (enrolled (facts_of_job c.args.job.now)) past entry
    (ap (λ rs. covers rs entry.sighting) (sym c.deref.ensures.value) ∙ sym c.place_covering.ensures.covers ∙ ap is_some c.in-Some-place_covering.is)
    (enrolled_test (facts_of_job c.args.job.now) entry.id.issuer ∙ sym c.is_enrolled.ensures ∙ c.if-not-is_enrolled.false)
    (ap (λ o. (past_in (ledger_or_none (option_map {U = LedgerFields} (λ l. l.now) o))).comes_late entry.id entry.sighting) c.in-Some-ledger.is ∙ sym c.known_of.ensures.late ∙ c.if-known_of.true)
    ∙ ap (class_told past (facts_of_job c.args.job.now)) (sym c.in-Some.is ∙ at)

pub returns-else-known_of : goal.returns-else-known_of
returns-else-known_of c =
    let past = past_in (ledger_or_none (option_map {U = LedgerFields} (λ l. l.now) c.args.ledger)) in
    let entry = c.in-Some.entry in
    let at = get_or_read c.args.job.now.entries.items c.args.entry c.index.result.now c.requires.within c.index.ensures None in
    told_accepted c.args.job.now.ranges.items (enrolled (facts_of_job c.args.job.now)) past entry
    (ap (λ rs. covers rs entry.sighting) (sym c.deref.ensures.value) ∙ sym c.place_covering.ensures.covers ∙ ap is_some c.in-Some-place_covering.is)
    (enrolled_test (facts_of_job c.args.job.now) entry.id.issuer ∙ sym c.is_enrolled.ensures ∙ c.if-not-is_enrolled.false)
    (ap (λ o. (past_in (ledger_or_none (option_map {U = LedgerFields} (λ l. l.now) o))).comes_late entry.id entry.sighting) c.in-Some-ledger.is ∙ sym c.known_of.ensures.late ∙ c.if-known_of.false)
    ∙ ap (class_told past (facts_of_job c.args.job.now)) (sym c.in-Some.is ∙ at)

pub returns-in_default-ledger : goal.returns-in_default-ledger
returns-in_default-ledger c =
    let past = past_in (ledger_or_none (option_map {U = LedgerFields} (λ l. l.now) c.args.ledger)) in
    let entry = c.in-Some.entry in
    let at = get_or_read c.args.job.now.entries.items c.args.entry c.index.result.now c.requires.within c.index.ensures None in
    told_accepted c.args.job.now.ranges.items (enrolled (facts_of_job c.args.job.now)) past entry
    (ap (λ rs. covers rs entry.sighting) (sym c.deref.ensures.value) ∙ sym c.place_covering.ensures.covers ∙ ap is_some c.in-Some-place_covering.is)
    (enrolled_test (facts_of_job c.args.job.now) entry.id.issuer ∙ sym c.is_enrolled.ensures ∙ c.if-not-is_enrolled.false)
    (ap (λ o. (past_in (ledger_or_none (option_map {U = LedgerFields} (λ l. l.now) o))).comes_late entry.id entry.sighting) c.in_default-ledger.is ∙ none_late entry.id entry.sighting)
    ∙ ap (class_told past (facts_of_job c.args.job.now)) (sym c.in-Some.is ∙ at)
