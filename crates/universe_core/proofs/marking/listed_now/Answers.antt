use Rattle.std.proofs.Common.{◌≡◌, ◌∙◌, ap, sym, length, false, arith, rules, tests}
use Rattle.std.proofs.lemmas.Iterator.{YieldsList-from_slice, YieldsList-from_map, items_from_collect}
use Rattle.std.proofs.lemmas.Result.{IfOk-at_ok}
use Rattle.ident_core.specs.declared.identity.Identity.{Identity}
use Rattle.ident_core.proofs.Marks.{written_back}
use Rattle.ledger_core.specs.declared.fields.LedgerItem.{LedgerItem}
use Rattle.universe_core.proofs.Revoking.{map_map}
use Rattle.universe_core.proofs.marking.listed_now.Goals as goal

pub returns : goal.returns
returns c =
    let v = c.deref_mut.ensures.value in
    let l : c.in_ok-flags.flags.len ≡ length c.in_ok-flags.flags.items = omega arith in
    let unmarked = IfOk-at_ok _ c.in_ok-flags.was
    (items_from_collect _ c.collect.ensures.ran
    (YieldsList-from_map _ (λ (m : LedgerItem). false) (YieldsList-from_slice c.args.members.now cc) c.map.ensures.closure (λ x r q k. search (rules, tests)))) in
    written_back c.in_ok-flags.flags.len c.mark_all.new.flags c.in_ok-flags.flags.items (c.mark_all.auto.flags ∙ ap length v) l
    ∙ c.in_ok-mark_all.ensures (λ (x : Identity). false) (v ∙ unmarked ∙ sym (map_map (λ (m : LedgerItem). m.id) (λ (x : Identity). false) c.args.members.now))
