use Rattle.std.proofs.Common.{rules, of_calls}
use Rattle.std.proofs.lemmas.Fn.{always_returns_same}
use Rattle.ident_core.specs.Order.{serial_cmp}
use Rattle.ledger_core.specs.declared.fields.LedgerItem.{LedgerItem}
use Rattle.universe_core.proofs.IssuerRuns.{found, missed, cut_run, cut_sorted, cut_place}
use Rattle.universe_core.proofs.marking.place_of.Goals as goal

pub returns-in-Ok-clause-some : goal.returns-in-Ok-clause-some
returns-in-Ok-clause-some c =
    let z = c.args.listed.now.serial.now in
    let w = c.window_of-window.result in
    cut_place c.args.run.now w c.in-Ok.place z (found (cut_run c.args.run.now w) z c.in-Ok.place c.in-Ok.ensures.bound
    (c.in-Ok.ensures.position (λ (m : LedgerItem). serial_cmp m.id.serial z) (always_returns_same _ _ _ (λ a r f k. search (rules, of_calls)))))

pub returns-in-Err-clause-none : goal.returns-in-Err-clause-none
returns-in-Err-clause-none c = λ e.
    let z = c.args.listed.now.serial.now in
    let w = c.window_of-window.result in
    c.window_of-window.ensures.none (missed (cut_run c.args.run.now w) z c.in-Err.place (cut_sorted c.args.run.now w c.requires.sorted)
    (c.in-Err.ensures.position (λ (m : LedgerItem). serial_cmp m.id.serial z) (always_returns_same _ _ _ (λ a r f k. search (rules, of_calls)))))
