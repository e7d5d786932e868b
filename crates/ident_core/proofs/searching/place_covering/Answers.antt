use Rattle.std.proofs.Common.{◌∙◌, Some, refl, sym, ap, length, rules, of_calls}
use Rattle.std.specs.Option.{option_map}
use Rattle.std.proofs.lemmas.Cmp.{nat_list_cmp_total}
use Rattle.std.proofs.lemmas.Fn.{always_returns_same}
use Rattle.std.proofs.lemmas.Map.Lookups.{exact_bytes}
use Rattle.std.proofs.lemmas.Option.{slice_get_read}
use Rattle.ident_core.specs.Coverage.{is_within}
use Rattle.ident_core.specs.Order.{octets_cmp}
use Rattle.ident_core.specs.declared.range.Range.{Range}
use Rattle.ident_core.proofs.Keyed.{missed}
use Rattle.ident_core.proofs.Ranges.{log_of, of_log, logs_ascend, log_found, within_log, none_covers, one_covers}
use Rattle.ident_core.proofs.searching.place_covering.Goals as goal

pub returns-in-Err-clause-covers : goal.returns-in-Err-clause-covers
returns-in-Err-clause-covers c =
    sym (none_covers c.args.ranges.now c.args.s.now
    (missed octets_cmp nat_list_cmp_total exact_bytes log_of of_log (λ k. refl) c.args.ranges.now c.args.s.now.log c.in-Err.field-0
    (logs_ascend c.args.ranges.now c.requires.sorted)
    (c.in-Err.ensures.position (λ (r : Range). octets_cmp r.log c.args.s.now.log) (always_returns_same _ _ _ (λ a r f k. search (rules, of_calls))))))

pub returns-then-holds_time-clause-covers : goal.returns-then-holds_time-clause-covers
returns-then-holds_time-clause-covers c =
    let r = c.index-ranges-place.result in
    let found = c.in-Ok.ensures.position (λ (q : Range). octets_cmp q.log c.args.s.now.log) (always_returns_same _ _ _ (λ a q f k. search (rules, of_calls))) in
    let log = log_found c.args.ranges.now c.args.s.now.log c.in-Ok.place r c.index-ranges-place.is found in
    let at = slice_get_read c.args.ranges.now (length c.args.ranges.now) c.in-Ok.place r refl c.in-Ok.ensures.bound c.index-ranges-place.is in
    sym c.if-holds_time.true ∙ c.holds_time.ensures ∙ sym (one_covers c.args.ranges.now c.args.s.now r c.in-Ok.place (logs_ascend c.args.ranges.now c.requires.sorted) at log)

pub returns-then-holds_time-clause-some : goal.returns-then-holds_time-clause-some
returns-then-holds_time-clause-some c =
    let r = c.index-ranges-place.result in
    let found = c.in-Ok.ensures.position (λ (q : Range). octets_cmp q.log c.args.s.now.log) (always_returns_same _ _ _ (λ a q f k. search (rules, of_calls))) in
    let log = log_found c.args.ranges.now c.args.s.now.log c.in-Ok.place r c.index-ranges-place.is found in
    let at = slice_get_read c.args.ranges.now (length c.args.ranges.now) c.in-Ok.place r refl c.in-Ok.ensures.bound c.index-ranges-place.is in
    ap (option_map (is_within c.args.s.now)) at ∙ ap Some (within_log c.args.s.now r log ∙ sym c.holds_time.ensures ∙ c.if-holds_time.true)

pub returns-else-holds_time-clause-covers : goal.returns-else-holds_time-clause-covers
returns-else-holds_time-clause-covers c =
    let r = c.index-ranges-place.result in
    let found = c.in-Ok.ensures.position (λ (q : Range). octets_cmp q.log c.args.s.now.log) (always_returns_same _ _ _ (λ a q f k. search (rules, of_calls))) in
    let log = log_found c.args.ranges.now c.args.s.now.log c.in-Ok.place r c.index-ranges-place.is found in
    let at = slice_get_read c.args.ranges.now (length c.args.ranges.now) c.in-Ok.place r refl c.in-Ok.ensures.bound c.index-ranges-place.is in
    sym c.if-holds_time.false ∙ c.holds_time.ensures ∙ sym (one_covers c.args.ranges.now c.args.s.now r c.in-Ok.place (logs_ascend c.args.ranges.now c.requires.sorted) at log)
