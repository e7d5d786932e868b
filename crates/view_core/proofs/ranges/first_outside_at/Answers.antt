use Rattle.std.proofs.Common.{◌+◌, List, drop, sym, ap, ◌∙◌}
use Rattle.ident_core.specs.Coverage.{first_outside}
use Rattle.ident_core.specs.declared.range.Range.{Range}
use Rattle.view_core.proofs.RangeSearch.{from_range, outside_here, outside_later}
use Rattle.view_core.proofs.ranges.first_outside_at.Goals as goal

pub returns-then-not-lies_in_at : goal.returns-then-not-lies_in_at
returns-then-not-lies_in_at c = λ before after old new.
    let r = c.range_at-range.result in
    let next = from_range c.args.held_bytes.now c.args.old.at c.args.old.count before c.loop-i.i r old c.loop-i-test.true c.range_at-range.ensures in
    sym (outside_here r (drop (c.loop-i.i + 1) before) after (sym (c.if-not-lies_in_at.ensures after new)))
    ∙ ap (λ (l : List Range). first_outside l after) (sym next) ∙ c.loop-i.invariant before after old new

pub loop-i-preserved : goal.loop-i-preserved
loop-i-preserved c = λ before after old new.
    let r = c.range_at-range.result in
    let next = from_range c.args.held_bytes.now c.args.old.at c.args.old.count before c.loop-i.i r old c.loop-i-test.true c.range_at-range.ensures in
    sym (outside_later r (drop (c.loop-i.i + 1) before) after (sym (c.if-not-lies_in_at.ensures after new)))
    ∙ ap (λ (l : List Range). first_outside l after) (sym next) ∙ c.loop-i.invariant before after old new
