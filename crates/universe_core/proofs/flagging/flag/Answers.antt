use Rattle.std.specs.List.{count_by}
use Rattle.std.specs.Prelude.{is_some}
use Rattle.std.proofs.Common.{◌≤◌, ◌∙◌, ◌+◌, ◌&&◌, ◌||◌, ap, sym, not, false, get_or, length, arith}
use Rattle.std.proofs.lemmas.List.{take_all}
use Rattle.ledger_core.specs.declared.fields.LedgerItem.{LedgerItem}
use Rattle.ident_core.specs.Sets.{has_key}
use Rattle.ident_core.proofs.Sets.{has_key-from_place}
use Rattle.universe_core.proofs.Classes.{count_more, one_is}
use Rattle.universe_core.proofs.Cutting.{made_all}
use Rattle.universe_core.proofs.Revoking.{flags_more}
use Rattle.universe_core.proofs.flagging.flag.Goals as goal

pub loop-i-preserved : goal.loop-i-preserved
loop-i-preserved c =
    let member = c.index-members-i.result in
    let enrolled = c.is_some-enrolled.ensures ∙ has_key-from_place c.args.issuers.now _ _ c.place_of_key_near-place.ensures.some c.place_of_key_near-place.ensures.none
    ∙ ap (λ (m : LedgerItem). has_key c.args.issuers.now m.id.issuer) (sym c.index-members-i.is) in
    let was = c.is_some-was.ensures ∙ ap (λ (m : LedgerItem). is_some m.last) (sym c.index-members-i-in-loop-i.is) in
    record {
      revoked = λ s g es eg.
          flags_more c.args.issuers.now c.args.members.now c.args.settled.now c.args.listed.now c.loop-i.revoked.items c.push.new.self.items c.loop-i.i
          member c.index-members-i-in-loop-i.result false false _ s g c.loop-i-test.true c.index-members-i.is c.index-members-i-in-loop-i.is es eg
          (λ k. enrolled k && ((was k || get_or c.args.listed.now c.loop-i.i false) && not (get_or c.args.settled.now c.loop-i.i false))) (c.loop-i.invariant.revoked s g es eg) c.in_ok-push.ensures.items;
      beside = (let n = ap length c.in_ok-push.ensures.items in let b = c.loop-i.invariant.beside in omega (arith, c.in_ok-push.ensures.len));
      universe = count_more (λ (m : LedgerItem). has_key c.args.issuers.now m.id.issuer) c.args.members.now c.loop-i.i member c.loop-i.universe _
          c.is_some-enrolled.result c.loop-i-test.true c.index-members-i.is c.loop-i.invariant.universe enrolled (ap (λ n. c.loop-i.universe + n) (c.from-universe.ensures ∙ one_is c.is_some-enrolled.result));
    }

pub returns : goal.returns
returns c =
    let all : length c.args.members.now ≤ c.loop-i.i = (let t = c.loop-i-test.false in omega arith) in
    record {
      revoked = λ s g es eg.
          c.loop-i.invariant.revoked s g es eg
          ∙ made_all (λ (m : LedgerItem). has_key c.args.issuers.now m.id.issuer && ((is_some m.last || g m.id) && not (s m.id))) c.args.members.now c.loop-i.i all;
      beside = (let b = c.loop-i.invariant.beside in omega (arith, c.loop-i.auto));
      universe = c.loop-i.invariant.universe ∙ ap (count_by (λ (m : LedgerItem). has_key c.args.issuers.now m.id.issuer)) (take_all c.loop-i.i c.args.members.now all);
    }
