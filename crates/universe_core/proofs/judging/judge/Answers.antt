use Rattle.std.proofs.Common.{◌≡◌, ◌∙◌, ◌||◌, length, sym, ap}
use Rattle.std.specs.Prelude.{is_some, nat_lt, count_by, filter, fold}
use Rattle.std.specs.Option.{option_flatten}
use Rattle.std.specs.List.{list_any}
use Rattle.std.proofs.lemmas.Bool.{or_left}
use Rattle.std.proofs.lemmas.List.{length-map}
use Rattle.universe_core.specs.Judging.{is_late_by, is_late_beside, is_timely, is_member_of, dates_of, with_date}
use Rattle.universe_core.specs.Ledgers.{birth_or}
use Rattle.universe_core.specs.Reading.{entry_fields, entries_of}
use Rattle.universe_core.proofs.Greatest.{greatest_found}
use Rattle.universe_core.proofs.Members.{some_other, dates_kept, judged_is}
use Rattle.universe_core.proofs.Tallies.{count_by-map}
use Rattle.universe_core.proofs.judging.judge.Goals as goal
use Rattle.universe_core.proofs.judging.judge.Goals.{then-is_some, else-is_some}

pub returns-clause-member : goal.returns-clause-member
returns-clause-member c =
    let parts = c.args.context.now.parts.now in
    let old = c.args.old.now in
    let fields = entry_fields c.args.context.now.issuers.now c.args.context.now.ranges.now in
    let run = entries_of c.args.context.now.issuers.now c.args.context.now.ranges.now c.args.run.now in
    let any = list_any (is_timely parts (birth_or (length parts) old)) run in
    let late = c.facts_of-facts.ensures.late ∙ sym (count_by-map (is_late_by parts c.birth_of-birth.result) fields c.args.run.now)
    ∙ ap (λ n. count_by (is_late_by parts n) run) c.birth_of-birth.ensures in
    let accepted : c.if-is_some.accepted ≡ is_member_of parts old run = elim c.if-is_some.branch [
      | then-is_some w ↦ w.accepted-is ∙ w.if-is_some.true ∙ sym (or_left (is_some old) any (sym c.is_some.ensures ∙ w.if-is_some.true))
      | else-is_some w ↦ w.accepted-is ∙ ap (λ n. nat_lt n (length c.args.run.now)) late ∙ ap (nat_lt (count_by (is_late_beside parts old) run)) (sym (length-map c.args.run.now fields))
          ∙ some_other (is_late_beside parts old) run ∙ sym (ap (λ b. b || any) (sym c.is_some.ensures ∙ w.if-is_some.false))
    ] in
    let test = is_timely parts c.birth_of-birth.result in
    let told = dates_of (filter test run) in
    let until = c.flatten-until.ensures ∙ ap option_flatten (c.facts_of-facts.ensures.date ∙ ap (fold with_date c.date_of-date.result) (dates_kept fields test c.args.run.now)
    ∙ ap (λ o. fold with_date o told) c.date_of-date.ensures) ∙ greatest_found old told in
    c.then_some.ensures
    ∙ judged_is parts c.args.id.now old run c.if-is_some.accepted c.birth_of-birth.result c.last_of-last.result c.facts_of-facts.result.settled
    c.flatten-until.result accepted c.birth_of-birth.ensures c.last_of-last.ensures c.facts_of-facts.ensures.settled until

pub returns-clause-late : goal.returns-clause-late
returns-clause-late c =
    let parts = c.args.context.now.parts.now in
    let fields = entry_fields c.args.context.now.issuers.now c.args.context.now.ranges.now in
    let run = entries_of c.args.context.now.issuers.now c.args.context.now.ranges.now c.args.run.now in
    c.facts_of-facts.ensures.late ∙ sym (count_by-map (is_late_by parts c.birth_of-birth.result) fields c.args.run.now)
    ∙ ap (λ n. count_by (is_late_by parts n) run) c.birth_of-birth.ensures
