use Rattle.std.proofs.Common.{◌≡◌, ◌+◌, ◌<◌, ◌∙◌, ap, sym, subst, map, length, get_or, None, Some, refl, arith}
use Rattle.std.specs.List.{slice_get}
use Rattle.std.proofs.lemmas.List.{get_or_default}
use Rattle.std.proofs.lemmas.Option.{slice_get-get_or}
use Rattle.std.proofs.lemmas.List.Sums.{count_by_more_yes, count_by_more_no}
use Rattle.ledger_core.specs.LedgerFields.{part_fields}
use Rattle.audit_core.specs.Checking.{listing, agreement_of, IsFine, is_told}
use Rattle.audit_core.specs.Fours.{agreements_from}
use Rattle.audit_core.specs.declared.checking.Agreement.TheVariants.{Skipped}
use Rattle.audit_core.proofs.Checks.{fine_more, skipped_untold, agrees_told}
use Rattle.audit_core.proofs.Fours.{one_of_four}
use Rattle.audit_core.proofs.checking.check_entries.Goals as goal
use Rattle.audit_core.proofs.checking.check_entries.Goals.{in-Skipped, in-Agrees}

pub loop-place-preserved : goal.loop-place-preserved
loop-place-preserved c =
    let tells = listing c.args.ledger.now (part_fields c.args.part.now) in
    let parts = map (λ s. s.part) c.args.store.now in
    let entries = c.args.entries.now in
    let i = c.loop-place.place in
    let lt : i < length entries = omega (arith, c.loop-place-test.true) in
    let o = get_or entries i None in
    let at : slice_get entries i ≡ Some o = slice_get-get_or entries i None lt in
    let read : get_or entries i o ≡ o = sym (get_or_default entries i None o lt) in
    let asked : c.agreement_in.result ≡ agreement_of parts tells o = c.agreement_in.ensures ∙ one_of_four parts tells entries i c.four_with-four.result Skipped c.four_with-four.ensures in
    elim c.match-agreement_in.branch [
      | in-Skipped w ↦ record {
        accepted = w.accepted-is ∙ c.loop-place.invariant.accepted
            ∙ sym (count_by_more_no (is_told tells) entries i o lt (ap (is_told tells) read ∙ skipped_untold parts tells o (sym asked ∙ w.in-Skipped.is)));
        fine = fine_more parts tells entries i o at (subst IsFine (sym w.in-Skipped.is ∙ asked) tt) c.loop-place.invariant.fine;
        known = λ more. c.four_with-four.ensures ∙ ap (agreements_from parts tells entries) (omega (arith, more));
      }
      | in-Agrees w ↦ record {
        accepted = w.accepted-is ∙ ap (λ n. n + 1) c.loop-place.invariant.accepted
            ∙ sym (count_by_more_yes (is_told tells) entries i o lt (ap (is_told tells) read ∙ agrees_told parts tells o (sym asked ∙ w.in-Agrees.is)));
        fine = fine_more parts tells entries i o at (subst IsFine (sym w.in-Agrees.is ∙ asked) tt) c.loop-place.invariant.fine;
        known = λ more. c.four_with-four.ensures ∙ ap (agreements_from parts tells entries) (omega (arith, more));
      }
    ]

pub returns-in-Disagrees-clause-first : goal.returns-in-Disagrees-clause-first
returns-in-Disagrees-clause-first c =
    let tells = listing c.args.ledger.now (part_fields c.args.part.now) in
    let parts = map (λ s. s.part) c.args.store.now in
    let entries = c.args.entries.now in
    let i = c.loop-place.place in
    record {
      place = i;
      held = c.in-Disagrees.held;
      listed = c.in-Disagrees.listed;
      entry = get_or entries i None;
      fault = refl;
      at = slice_get-get_or entries i None (omega (arith, c.loop-place-test.true));
      asked = sym (c.agreement_in.ensures ∙ one_of_four parts tells entries i c.four_with-four.result Skipped c.four_with-four.ensures) ∙ c.in-Disagrees.is;
      before = c.loop-place.invariant.fine;
    }
