use Rattle.std.proofs.Common.{◌≡◌, ◌+◌, ◌&&◌, ◌==◌, Bool, length, sym, ap, ◌∙◌, arith}
use Rattle.ident_core.specs.declared.identity.Identity.{Identity}
use Rattle.equation_core.specs.Rows.{sha256_row}
use Rattle.card_core.specs.Leaf.{exact_sum}
use Rattle.part_text.specs.PartText.{approx_text, width_of}
use Rattle.view_core.proofs.Leaves.{few_planes, stands_width, stands_approx, stands_exact}
use Rattle.view_core.proofs.leaf.mixed_says.Goals.{then-planes-gt-MAX_PLANES-via-then-planes-gt-MAX_PLANES, then-planes-gt-MAX_PLANES-via-else-planes-gt-MAX_PLANES+then-not-passes_at}
use Rattle.view_core.proofs.leaf.mixed_says.Goals as goal

pub returns-then-planes-gt-MAX_PLANES-clause-value : goal.returns-then-planes-gt-MAX_PLANES-clause-value
returns-then-planes-gt-MAX_PLANES-clause-value g c m fits h =
    let few = few_planes m.approx fits.approx in
    let planes = c.number8_at-planes.ensures (width_of m.approx) (omega (arith, few)) (stands_width c.args.bytes.now c.args.at m h) in
    elim c.then-planes-gt-MAX_PLANES.branch [
      | then-planes-gt-MAX_PLANES-via-then-planes-gt-MAX_PLANES w ↦ absurd (omega (arith, few, planes, w.if-planes-gt-MAX_PLANES.true))
      | then-planes-gt-MAX_PLANES-via-else-planes-gt-MAX_PLANES+then-not-passes_at w ↦
          let passed = w.passes_at.ensures.value m.approx fits.approx (sym planes) (stands_approx c.args.bytes.now c.args.at m h) in
          ap (λ (b : Bool). b && exact_sum sha256_row m.exact c.args.draws.now == 1) (sym w.if-not-passes_at.true ∙ passed)
    ]

pub returns-in-Some-clause-value : goal.returns-in-Some-clause-value
returns-in-Some-clause-value g c m fits h =
    let few = few_planes m.approx fits.approx in
    let planes = c.number8_at-planes.ensures (width_of m.approx) (omega (arith, few)) (stands_width c.args.bytes.now c.args.at m h) in
    let approx = stands_approx c.args.bytes.now c.args.at m h in
    let passed = c.passes_at.ensures.value m.approx fits.approx (sym planes) approx in
    let end : c.in-Some.exact ≡ c.args.at + 1 + length (approx_text m.approx) = let found = c.in-Some.ensures.value m.approx fits.approx (sym planes) approx in cc in
    c.is_one_at.ensures.value m.exact fits.exact fits.one (stands_exact c.args.bytes.now c.args.at m c.in-Some.exact end h)
    ∙ ap (λ (x : Identity). exact_sum sha256_row m.exact x == 1) c.passes_at.ensures.same
    ∙ ap (λ (b : Bool). b && exact_sum sha256_row m.exact c.args.draws.now == 1) (sym c.if-not-passes_at.false ∙ passed)

pub returns-in-None-clause-value : goal.returns-in-None-clause-value
returns-in-None-clause-value g c m fits h =
    let few = few_planes m.approx fits.approx in
    let planes = c.number8_at-planes.ensures (width_of m.approx) (omega (arith, few)) (stands_width c.args.bytes.now c.args.at m h) in
    absurd (let none = c.in-None.ensures.value m.approx fits.approx (sym planes) (stands_approx c.args.bytes.now c.args.at m h) in cc)
