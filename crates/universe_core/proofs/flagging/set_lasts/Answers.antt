use Rattle.std.proofs.Common.{◌<◌, ◌∙◌, Some, refl, sym, ap, cond, length, get_or, false, arith}
use Rattle.std.proofs.Math.Seq.{map-set_same}
use Rattle.ledger_core.specs.LedgerFields.{ids}
use Rattle.ledger_core.specs.declared.fields.LedgerItem.{LedgerItem}
use Rattle.universe_core.proofs.Revoking.{lasts_kept, lasts_more}
use Rattle.universe_core.proofs.flagging.set_lasts.Goals.{then-revoked-i, else-revoked-i}
use Rattle.universe_core.proofs.flagging.set_lasts.Goals as goal

pub loop-i-preserved : goal.loop-i-preserved
loop-i-preserved c =
    let within : c.loop-i.i < length c.args.items.now = omega (arith, c.loop-i-test.true, c.loop-i.auto.items) in
    let old = c.loop-i.items in
    let i = c.loop-i.i in
    elim c.if-revoked-i.branch [
      | then-revoked-i w ↦ record {
        items = λ h e. w.items-is
            ∙ lasts_more c.args.place h c.args.items.now old c.args.revoked.now i w.index-items-i.result w.index-items-i.result false _ within e (c.loop-i.invariant.items h e)
            w.index-items-i.is w.index-items-i.is (sym (ap (λ b. cond b (Some c.args.place) (get_or old i w.index-items-i.result).last) w.if-revoked-i.true));
        same = ap ids w.items-is ∙ map-set_same (λ (m : LedgerItem). m.id) old i _ w.index-items-i.result refl ∙ c.loop-i.invariant.same;
      }
      | else-revoked-i w ↦ record {
        items = λ h e. w.items-is
            ∙ lasts_kept c.args.place h c.args.items.now old c.args.revoked.now i within c.loop-i.auto.items e (c.loop-i.invariant.items h e) w.if-revoked-i.false;
        same = ap ids w.items-is ∙ c.loop-i.invariant.same;
      }
    ]
