use Rattle.std.proofs.Common.{◌∙◌, ap, refl, arith, ℕ, subst}
use Rattle.equation_core.specs.Sizes.{starts_for}
use Rattle.card_core.specs.Leaf.{flagged, IsStage, IsExhausted}
use Rattle.stage_core.specs.Keys.{stage_equations}
use Rattle.stage_core.specs.declared.keys.KeyTarget.TheVariants.{One}
use Rattle.stage_core.proofs.Flags.{counted}
use Rattle.stage_core.proofs.leaf.exact_of.Goals as goal

pub overflow_cast-keys : goal.overflow_cast-keys
overflow_cast-keys g c =
    let e = counted c.args.universe.now c.args.revoked.now c.args.passed.now c.count.result c.count-2.result c.requires.revoked c.requires.passed c.count.ensures.value c.count-2.ensures.value in
    omega (arith, e, c.requires.few)

pub starts_for-requires : goal.starts_for-requires
starts_for-requires g c =
    let e = counted c.args.universe.now c.args.revoked.now c.args.passed.now c.count.result c.count-2.result c.requires.revoked c.requires.passed c.count.ensures.value c.count-2.ensures.value in
    omega (arith, e, c.requires.few)

pub returns-in-Some : goal.returns-in-Some
returns-in-Some g c =
    let e = counted c.args.universe.now c.args.revoked.now c.args.passed.now c.count.result c.count-2.result c.requires.revoked c.requires.passed c.count.ensures.value c.count-2.ensures.value in
    let h = rw c.in-Some.is at c.in_ok-stage.ensures.ok in
    subst (λ (n : ℕ). IsStage (stage_equations (g.W.Hashing.row_of c.args.hashing.now) One 2 1 n (flagged c.args.universe.now c.args.revoked.now)
    (flagged c.args.universe.now c.args.passed.now)) n 1 c.in-Some.stage)
    (c.starts_for.ensures.value ∙ ap starts_for e) h

pub returns-in-None : goal.returns-in-None
returns-in-None g c =
    let e = counted c.args.universe.now c.args.revoked.now c.args.passed.now c.count.result c.count-2.result c.requires.revoked c.requires.passed c.count.ensures.value c.count-2.ensures.value in
    let h = rw c.in-None.is at c.in_ok-stage.ensures.ok in (
      refl,
      subst (λ (n : ℕ). IsExhausted (stage_equations (g.W.Hashing.row_of c.args.hashing.now) One 2 1 n (flagged c.args.universe.now c.args.revoked.now)
          (flagged c.args.universe.now c.args.passed.now)) 1)
          (c.starts_for.ensures.value ∙ ap starts_for e) h,
    )
