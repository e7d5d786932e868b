use Rattle.std.proofs.Common.{◌≡◌, ℕ, ◌+◌, ◌*◌, ◌/◌, ◌^◌, ◌<◌, ◌==◌, get_or, length, sym, ap, ◌∙◌, arith, inl, inr, eq-eqb}
use Rattle.std.specs.Int.{bit_at}
use Rattle.std.proofs.lemmas.Bool.{eqb-true, cases_eq, false_from_ne_true}
use Rattle.std.proofs.lemmas.Nat.{and_mask}
use Rattle.equation_core.specs.Sizes.{words_for}
use Rattle.ribbon_core.specs.Equations.{sum_of}
use Rattle.ribbon_core.specs.Rows.{equation_of}
use Rattle.card_core.proofs.Accepting.{all_at}
use Rattle.card_core.proofs.LeafLaws.{all_from}
use Rattle.view_core.proofs.Leaves.{row_sum}
use Rattle.view_core.proofs.leaf.accepts_at.Goals as goal

pub returns-then-from-row-clause-value : goal.returns-then-from-row-clause-value
returns-then-from-row-clause-value g c = λ at s id fits count is h.
    let few : c.loop-plane.plane < length s.planes.columns = omega (arith, count, c.loop-plane-test.true) in
    let e : 8 * words_for c.args.stage.now.starts ≡ 8 * c.words_for-width.result = omega (arith, c.words_for-width.ensures) in
    let place = ap (λ (n : ℕ). c.args.stage.now.planes + n * c.loop-plane.plane) (sym e) in
    let sum = row_sum c.args.bytes.now at s c.args.stage.now _ c.loop-plane.plane c.sum_at-sum.result c.args.row.now is place c.requires.row few h c.sum_at-sum.ensures.value in
    let solves = λ (p : ℕ). sum_of (equation_of c.args.row.now) (get_or s.planes.columns p 0) == bit_at c.args.row.now.tag p in
    sym (false_from_ne_true _ (λ all. c.if-from-row.true (c.from.ensures ∙ sum
    ∙ eqb-true _ _ (all_at solves 0 (length s.planes.columns) all c.loop-plane.plane (omega arith) (omega (arith, few)))
    ∙ sym (and_mask (c.args.row.now.tag / 2 ^ c.loop-plane.plane) 1))))

pub loop-plane-preserved : goal.loop-plane-preserved
loop-plane-preserved g c = record {
  more = omega (arith, c.loop-plane.invariant.more, c.sum_at-sum.ensures.more);
  steps = omega (arith, c.loop-plane.invariant.steps, c.sum_at-sum.ensures.steps);
  same = λ at s p count is h lt. elim (cases_eq p c.loop-plane.plane) [
    | inl here ↦
        let few : c.loop-plane.plane < length s.planes.columns = omega (arith, count, c.loop-plane-test.true) in
        let e : 8 * words_for c.args.stage.now.starts ≡ 8 * c.words_for-width.result = omega (arith, c.words_for-width.ensures) in
        let place = ap (λ (n : ℕ). c.args.stage.now.planes + n * c.loop-plane.plane) (sym e) in
        let sum = row_sum c.args.bytes.now at s c.args.stage.now _ c.loop-plane.plane c.sum_at-sum.result c.args.row.now is place c.requires.row few h c.sum_at-sum.ensures.value in
        rw here (sym sum ∙ sym c.from.ensures ∙ c.if-from-row.false ∙ and_mask (c.args.row.now.tag / 2 ^ c.loop-plane.plane) 1)
    | inr other ↦ c.loop-plane.invariant.same at s p count is h (omega (arith, lt, other))
  ];
}

pub returns-clause-value : goal.returns-clause-value
returns-clause-value g c = λ at s id fits count is h.
    sym (all_from _ 0 (length s.planes.columns) (λ p low high. eq-eqb _ _
    (c.loop-plane.invariant.same at s p count is h (omega (arith, high, count, c.loop-plane-test.false, c.loop-plane.auto.plane-end)))))
