use Rattle.std.proofs.Common.{arith, ◌≡◌, ◌+◌, ◌-◌, ◌*◌, ◌%◌, ◌^◌, ◌<◌, refl, get_or}
use Rattle.std.proofs.lemmas.List.{get_or-replicate}
use Rattle.ribbon_core.specs.Bands.{columns_from}
use Rattle.ribbon_core.proofs.BackSubstitution.{band_pivots, columns_end, columns_min, number_none, word_written}
use Rattle.ribbon_core.proofs.substitution.solve_planes.Goals as goal

pub loop-i-init : goal.loop-i-init
loop-i-init c = record {
  windows = λ plane lt.
      let few : plane < 16 = omega (arith, lt, c.requires.planes) in
      let e = columns_end plane c.args.coeffs.now c.args.targets.now (64 * c.args.width) (omega (arith, c.requires.width)) in
      rw (e, get_or-replicate) refl;
  words = λ plane lt.
      let e = columns_end plane c.args.coeffs.now c.args.targets.now (64 * c.args.width) (omega (arith, c.requires.width)) in
      rw e (number_none _ c.args.width (c.args.width - c.args.width) (omega arith));
}

pub columns_down-requires-clause-above : goal.columns_down-requires-clause-above
columns_down-requires-clause-above c plane lt =
    let f = columns_min plane c.args.coeffs.now c.args.targets.now (band_pivots c.args.planes c.args.coeffs.now c.args.targets.now c.requires.bands) (64 * (c.loop-i.i - 1) + 64) in
    let g : 64 * (c.loop-i.i - 1) + 64 ≡ 64 * c.loop-i.i = omega arith in
    let h : get_or c.loop-i.windows plane 0 ≡ columns_from plane c.args.coeffs.now c.args.targets.now (64 * (c.loop-i.i - 1) + 64) % 2 ^ 128 = rw g (c.loop-i.invariant.windows plane lt) in
    rw (c.min-to.ensures, f) h

pub loop-i-preserved : goal.loop-i-preserved
loop-i-preserved c =
    let e : c.loop-i.i - 1 + 1 ≡ c.loop-i.i = omega arith in
    record {
      windows = c.columns_down.ensures;
      words = λ plane lt.
          let h = c.loop-i.invariant.words plane lt in
          word_written plane c.args.coeffs.now c.args.targets.now (band_pivots c.args.planes c.args.coeffs.now c.args.targets.now c.requires.bands) c.args.planes c.args.width
          (c.loop-i.i - 1) _ _ c.loop-i.words (omega arith)
          (c.columns_down.ensures plane lt) (c.write_words.ensures.written plane lt) (λ k. c.write_words.ensures.others plane k lt) (rw e h);
    }
