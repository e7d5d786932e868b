use Rattle.std.proofs.Common.{◌∙◌, arith}
use Rattle.ledger_core.specs.LedgerFields.{ids}
use Rattle.universe_core.specs.Groups.{group_fields}
use Rattle.universe_core.specs.Members.{group_with}
use Rattle.universe_core.proofs.Cutting.{made_more, made_all}
use Rattle.universe_core.proofs.grouping.groups.Goals as goal

pub loop-issuer-preserved : goal.loop-issuer-preserved
loop-issuer-preserved c = λ h e.
    made_more (group_with h (ids c.args.items.now)) group_fields c.args.issuers.now c.loop-issuer.issuer-index c.issuer-item.result c.loop-issuer.out.items
    c.push.new.self.items c.in_ok-one.one c.loop-issuer-test.true c.issuer-item.is (c.loop-issuer.invariant h e)
    (c.in_ok-one.ensures h e) c.in_ok-push.ensures.items

pub returns : goal.returns
returns c = λ h e. c.loop-issuer.invariant h e ∙ made_all (group_with h (ids c.args.items.now)) c.args.issuers.now c.loop-issuer.issuer-index (let t = c.loop-issuer-test.false in omega arith)
