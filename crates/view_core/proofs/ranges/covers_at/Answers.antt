use Rattle.std.proofs.Common.{◌&&◌, Bool, Some, None, nat_le, sym, ap, ◌∙◌}
use Rattle.std.proofs.lemmas.Bool.{le-leb, lt-leb}
use Rattle.view_core.proofs.RangeSearch.{covers_by}
use Rattle.view_core.proofs.ranges.covers_at.Goals as goal

pub returns-then-range-s : goal.returns-then-range-s
returns-then-range-s c = λ list are.
    let s = c.args.s.now in
    let r = c.in-Some.range in
    ap (λ (b : Bool). b && nat_le s.time r.to) (sym (le-leb r.from s.time c.if-range-s.true))
    ∙ covers_by s c.args.bytes.now c.args.ranges.at c.args.ranges.count list (Some r) are (c.in-Some.ensures list are)

pub returns-else-range-s : goal.returns-else-range-s
returns-else-range-s c = λ list are.
    let s = c.args.s.now in
    let r = c.in-Some.range in
    let early = lt-leb r.from s.time c.if-range-s.false in
    early ∙ ap (λ (b : Bool). b && nat_le s.time r.to) (sym early)
    ∙ covers_by s c.args.bytes.now c.args.ranges.at c.args.ranges.count list (Some r) are (c.in-Some.ensures list are)

pub returns-in-None : goal.returns-in-None
returns-in-None c = λ list are.
    covers_by c.args.s.now c.args.bytes.now c.args.ranges.at c.args.ranges.count list None are (c.in-None.ensures list are)
