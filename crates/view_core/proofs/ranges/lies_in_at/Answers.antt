use Rattle.std.proofs.Common.{◌&&◌, Bool, Some, None, nat_le, sym, ap, ◌∙◌}
use Rattle.std.proofs.lemmas.Bool.{le-leb, lt-leb}
use Rattle.view_core.proofs.RangeSearch.{lies_by}
use Rattle.view_core.proofs.ranges.lies_in_at.Goals as goal

pub returns-then-outer-r : goal.returns-then-outer-r
returns-then-outer-r c = λ list are.
    let r = c.args.r.now in
    let outer = c.in-Some.outer in
    ap (λ (b : Bool). b && nat_le r.to outer.to) (sym (le-leb outer.from r.from c.if-outer-r.true))
    ∙ lies_by r c.args.bytes.now c.args.ranges.at c.args.ranges.count list (Some outer) are (c.in-Some.ensures list are)

pub returns-else-outer-r : goal.returns-else-outer-r
returns-else-outer-r c = λ list are.
    let r = c.args.r.now in
    let outer = c.in-Some.outer in
    let early = lt-leb outer.from r.from c.if-outer-r.false in
    early ∙ ap (λ (b : Bool). b && nat_le r.to outer.to) (sym early)
    ∙ lies_by r c.args.bytes.now c.args.ranges.at c.args.ranges.count list (Some outer) are (c.in-Some.ensures list are)

pub returns-in-None : goal.returns-in-None
returns-in-None c = λ list are.
    lies_by c.args.r.now c.args.bytes.now c.args.ranges.at c.args.ranges.count list None are (c.in-None.ensures list are)
