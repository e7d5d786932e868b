use Rattle.std.proofs.Common.{◌≡◌, ◌≤◌, ◌∙◌, ap, sym, refl, length, map, not, arith, ℕ, List, Bool, [], subst}
use Rattle.ident_core.specs.declared.identity.Identity.{Identity}
use Rattle.equation_core.specs.Sizes.{starts_for}
use Rattle.card_core.specs.Leaf.{flagged, IsWidth}
use Rattle.stage_core.proofs.Flags.{flagged_nil, flagged_count}
use Rattle.stage_core.proofs.Widths.{width_of}
use Rattle.stage_core.proofs.Stages.{approx_found, approx_stage, approx_exhausted}
use Rattle.stage_core.proofs.leaf.approx_of.Goals as goal

pub returns-then-planes-eq0 : goal.returns-then-planes-eq0
returns-then-planes-eq0 g c =
    let xs : List Identity = c.args.universe.now in
    let fs : List Bool = c.args.revoked.now in
    subst (λ (k : ℕ). IsWidth (length (flagged xs fs)) (length (flagged xs (map not fs))) k) c.if-planes-eq0.true
    (width_of xs fs c.count-keys.result c.width_for-planes.result c.requires.flags c.count-keys.ensures.value c.width_for-planes.ensures)

pub returns-in-Some : goal.returns-in-Some
returns-in-Some g c =
    let xs : List Identity = c.args.universe.now in
    let fs : List Bool = c.args.revoked.now in
    let w = width_of xs fs c.count-keys.result c.width_for-planes.result c.requires.flags c.count-keys.ensures.value c.width_for-planes.ensures in
    let size : c.starts_for.result ≡ starts_for (length (flagged xs fs))
    = c.starts_for.ensures.value ∙ ap starts_for (c.count-keys.ensures.value ∙ sym (flagged_count xs fs (omega (arith, c.requires.flags)))) in
    let h = rw c.in-Some.is at c.in_ok-stage.ensures.ok in
    approx_found (g.W.Hashing.row_of c.args.hashing.now) (flagged xs fs) (flagged xs (map not fs)) c.width_for-planes.result c.in-Some.stage c.if-planes-eq0.false w
    (approx_stage (g.W.Hashing.row_of c.args.hashing.now) (flagged xs fs) c.width_for-planes.result c.starts_for.result (flagged xs []) size (flagged_nil xs) c.in-Some.stage h)

pub returns-in-None : goal.returns-in-None
returns-in-None g c =
    let xs : List Identity = c.args.universe.now in
    let fs : List Bool = c.args.revoked.now in
    let w = width_of xs fs c.count-keys.result c.width_for-planes.result c.requires.flags c.count-keys.ensures.value c.width_for-planes.ensures in
    let size : c.starts_for.result ≡ starts_for (length (flagged xs fs))
    = c.starts_for.ensures.value ∙ ap starts_for (c.count-keys.ensures.value ∙ sym (flagged_count xs fs (omega (arith, c.requires.flags)))) in
    let h = rw c.in-None.is at c.in_ok-stage.ensures.ok in
    let some : 1 ≤ c.width_for-planes.result = omega (arith, c.if-planes-eq0.false) in (
      refl,
      record {
        planes = c.width_for-planes.result;
        some = some;
        width = w;
        exhausted = approx_exhausted (g.W.Hashing.row_of c.args.hashing.now) (flagged xs fs) c.width_for-planes.result c.starts_for.result (flagged xs []) size
            (flagged_nil xs) h;
      },
    )
