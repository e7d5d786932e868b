use Rattle.std.proofs.Common.{◌≡◌, length, ap, ◌∙◌}
use Rattle.ribbon_core.specs.declared.planes.KeptWords.{KeptWords}
use Rattle.ribbon_core.proofs.Adding.{written_back}
use Rattle.ribbon_core.proofs.Solved.{length-kept, solved_planes, solved_least}
use Rattle.ribbon_core.proofs.KeptEquations.{kept_equations}
use Rattle.ribbon_core.proofs.system.System.solve.Goals as goal

pub from_kept-requires : goal.from_kept-requires
from_kept-requires c =
    let kept = c.self.inside.kept.value in
    let n : length c.solve_planes.new.words ≡ length kept.words.items
    = c.solve_planes.auto.words ∙ ap length c.deref_mut-2.ensures.value ∙ ap (λ (k : KeptWords). length k.words.items) c.deref_mut.ensures.value in
    let e = written_back kept.words.len c.solve_planes.new.words kept.words.items n kept.words.ok.0 in
    let s = rw (c.deref-2.ensures.value, c.deref-3.ensures.value, c.deref-4.ensures, c.words_for-width.ensures, c.deref.ensures) at c.solve_planes.ensures in
    rw (c.deref_mut.ensures.value, e)
    (solved_planes kept.starts kept.planes c.self.inside.coeffs.items c.self.inside.targets.items kept.words.items c.solve_planes.new.words c.self.invariant n s)

pub returns-clause-planes : goal.returns-clause-planes
returns-clause-planes c =
    rw (← c.self.view_is, c.from_kept.ensures, c.deref_mut.ensures.value) (length-kept c.self.inside.kept.value.starts c.self.inside.kept.value.planes _)

pub returns-clause-least : goal.returns-clause-least
returns-clause-least c =
    let kept = c.self.inside.kept.value in
    let n : length c.solve_planes.new.words ≡ length kept.words.items
    = c.solve_planes.auto.words ∙ ap length c.deref_mut-2.ensures.value ∙ ap (λ (k : KeptWords). length k.words.items) c.deref_mut.ensures.value in
    let e = written_back kept.words.len c.solve_planes.new.words kept.words.items n kept.words.ok.0 in
    let s = rw (c.deref-2.ensures.value, c.deref-3.ensures.value, c.deref-4.ensures, c.words_for-width.ensures, c.deref.ensures) at c.solve_planes.ensures in
    rw (← c.self.view_is, c.from_kept.ensures, c.deref_mut.ensures.value, e)
    (solved_least kept.starts kept.planes c.self.inside.coeffs.items c.self.inside.targets.items kept.words.items c.solve_planes.new.words c.self.invariant n s)

pub returns-clause-formed : goal.returns-clause-formed
returns-clause-formed c = rw (← c.self.view_is, ← c.self.invariant.columns)
    (kept_equations c.self.inside.kept.value.planes c.self.inside.coeffs.items c.self.inside.targets.items c.self.invariant.bands)
