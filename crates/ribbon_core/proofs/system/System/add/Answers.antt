use Rattle.std.proofs.Common.{rules, arith, length, refl, ◌∙◌, ap}
use Rattle.ribbon_core.specs.Kept.{Kept, kept_from}
use Rattle.ribbon_core.proofs.Adding.{within_columns, exactly, keeps, written_back}
use Rattle.ribbon_core.proofs.KeptEquations.{kept_equations}
use Rattle.ribbon_core.proofs.system.System.add.Goals as goal

pub reduce-requires-clause-within : goal.reduce-requires-clause-within
reduce-requires-clause-within c =
    let e = ap length c.deref_mut.ensures.value ∙ c.self.invariant.columns in
    let s = ap (λ (k : Kept). k.starts) c.self.view_is in
    within_columns c.args.row.now.coeff c.args.row.now.start c.self.inside.kept.value.starts _ (search rules) (omega (arith, s)) e

pub returns-clause-inconsistent : goal.returns-clause-inconsistent
returns-clause-inconsistent c = rw (← c.self.view_is)
    (exactly c.self.inside.kept.value.planes c.deref_mut.result.now c.deref_mut-2.result.now c.reduce.new.coeffs c.reduce.new.targets c.args.row.now.start c.args.row.now.coeff c.args.target
    (kept_from 0 c.self.inside.coeffs.items c.self.inside.targets.items) (rw (c.deref_mut.ensures.value, c.deref_mut-2.ensures.value) refl)
    (rw (c.deref_mut.ensures.value, c.deref_mut-2.ensures.value) c.self.invariant.bands) (rw c.deref.ensures at c.reduce.ensures.bands)
    c.reduce.result c.reduce.ensures.ok (rw c.deref.ensures at c.reduce.ensures.err))

pub returns-clause-ok : goal.returns-clause-ok
returns-clause-ok c =
    let n = c.self.inside.coeffs.ok.0 in
    let m = c.self.inside.targets.ok.0 in
    let e = written_back c.self.inside.coeffs.len c.reduce.new.coeffs c.self.inside.coeffs.items (c.reduce.auto.coeffs ∙ ap length c.deref_mut.ensures.value) n in
    let f = written_back c.self.inside.targets.len c.reduce.new.targets c.self.inside.targets.items (c.reduce.auto.targets ∙ ap length c.deref_mut-2.ensures.value) m in
    rw (← c.self.view_is, e, f)
    (keeps c.self.inside.kept.value.planes c.deref_mut.result.now c.deref_mut-2.result.now c.reduce.new.coeffs c.reduce.new.targets c.args.row.now.start c.args.row.now.coeff c.args.target
    (kept_from 0 c.self.inside.coeffs.items c.self.inside.targets.items) (rw (c.deref_mut.ensures.value, c.deref_mut-2.ensures.value) refl)
    (rw (c.deref_mut.ensures.value, c.deref_mut-2.ensures.value) c.self.invariant.bands) (rw c.deref.ensures at c.reduce.ensures.bands)
    c.reduce.result c.reduce.ensures.ok)

pub returns-clause-formed : goal.returns-clause-formed
returns-clause-formed c =
    let n = c.self.inside.coeffs.ok.0 in
    let m = c.self.inside.targets.ok.0 in
    let x = c.reduce.auto.coeffs ∙ ap length c.deref_mut.ensures.value in
    let e = written_back c.self.inside.coeffs.len c.reduce.new.coeffs c.self.inside.coeffs.items x n in
    let f = written_back c.self.inside.targets.len c.reduce.new.targets c.self.inside.targets.items (c.reduce.auto.targets ∙ ap length c.deref_mut-2.ensures.value) m in
    rw (e, f, ← c.self.invariant.columns, ← x) (kept_equations c.self.inside.kept.value.planes c.reduce.new.coeffs c.reduce.new.targets (rw c.deref.ensures at c.reduce.ensures.bands))
