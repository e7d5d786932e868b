use Rattle.std.proofs.Common.{◌∙◌, ◌+◌, ◌<◌, ℕ, length, sym, arith}
use Rattle.ident_core.proofs.Keys.{code_cmp_at}
use Rattle.universe_core.proofs.Narrowing.{begun, nowhere, here, behind, before}
use Rattle.universe_core.proofs.finding.item_of.Goals as goal

pub loop-low-init : goal.loop-low-init
loop-low-init c = begun c.args.items.now c.args.id.now

pub returns-in-Equal : goal.returns-in-Equal
returns-in-Equal c =
    let middle : ℕ = c.loop-low.low + c.place.result in
    let inside : middle < length c.args.items.now = omega (arith, c.loop-low.invariant.within, c.place.ensures, c.loop-low-test.true) in
    here c.args.items.now c.args.id.now c.requires.sorted c.loop-low.low c.loop-low.high c.loop-low.invariant middle c.index-items-middle.result inside
    c.index-items-middle.is (sym (c.cmp.ensures ∙ code_cmp_at c.index-items-middle.result.id c.args.id.now) ∙ c.in-Equal.is)

pub loop-low-preserved-in-Less : goal.loop-low-preserved-in-Less
loop-low-preserved-in-Less c =
    let middle : ℕ = c.loop-low.low + c.place.result in
    let inside : middle < length c.args.items.now = omega (arith, c.loop-low.invariant.within, c.place.ensures, c.loop-low-test.true) in
    behind c.args.items.now c.args.id.now c.requires.sorted c.loop-low.low c.loop-low.high c.loop-low.invariant middle c.index-items-middle.result inside
    c.index-items-middle.is (omega (arith, c.place.ensures, c.loop-low-test.true))
    (sym (c.cmp.ensures ∙ code_cmp_at c.index-items-middle.result.id c.args.id.now) ∙ c.in-Less.is)

pub loop-low-preserved : goal.loop-low-preserved
loop-low-preserved c =
    let middle : ℕ = c.loop-low.low + c.place.result in
    let inside : middle < length c.args.items.now = omega (arith, c.loop-low.invariant.within, c.place.ensures, c.loop-low-test.true) in
    before c.args.items.now c.args.id.now c.requires.sorted c.loop-low.low c.loop-low.high c.loop-low.invariant middle c.index-items-middle.result inside
    c.index-items-middle.is (omega arith)
    (sym (c.cmp.ensures ∙ code_cmp_at c.index-items-middle.result.id c.args.id.now) ∙ c.in-Greater.is)

pub returns : goal.returns
returns c = nowhere c.args.items.now c.args.id.now c.requires.sorted c.loop-low.low c.loop-low.high c.loop-low.invariant c.loop-low-test.false
