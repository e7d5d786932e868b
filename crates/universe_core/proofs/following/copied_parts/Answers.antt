use Rattle.std.proofs.Common.{◌∙◌, arith}
use Rattle.ledger_core.specs.LedgerFields.{part_fields}
use Rattle.universe_core.proofs.Cutting.{made_more, made_all}
use Rattle.universe_core.proofs.following.copied_parts.Goals as goal

pub loop-part-preserved : goal.loop-part-preserved
loop-part-preserved c =
    made_more part_fields part_fields c.args.parts.now c.loop-part.part-index c.part-item.result c.loop-part.out.items c.push.new.self.items c.in_ok-one.one
    c.loop-part-test.true c.part-item.is c.loop-part.invariant c.in_ok-one.ensures
    c.in_ok-push.ensures.items

pub returns : goal.returns
returns c = c.loop-part.invariant ∙ made_all part_fields c.args.parts.now c.loop-part.part-index (let t = c.loop-part-test.false in omega arith)
