use Rattle.std.proofs.Common.{ℕ, ◌∙◌, ◌≡◌, ◌+◌, List, [], replicate, ap}
use Rattle.ribbon_core.specs.Equations.{Equation}
use Rattle.ribbon_core.specs.Kept.{Kept, kept_from}
use Rattle.ribbon_core.proofs.KeptEquations.{kept_of_new}
use Rattle.ribbon_core.proofs.Adding.{new_system}
use Rattle.ribbon_core.proofs.system.System.new.Goals as goal

pub invariant_of-result : goal.invariant_of-result
invariant_of-result c = rw c.in_ok-kept.ensures.ok (new_system c.args.starts c.args.planes _ _ _ c.requires.some_starts c.requires.few_starts c.requires.some_planes c.requires.few_planes
    (c.in_ok-coeffs.ensures.items_if_clones_equal (λ y h. h)) (c.in_ok-targets.ensures.items_if_clones_equal (λ y h. h))
    (c.in_ok-words.ensures.items_if_clones_equal (λ y h. h) ∙ ap (λ (n : ℕ). replicate n 0) c.kept_length.ensures))

pub returns : goal.returns
returns c =
    let e : c.in_ok-coeffs.coeffs.items ≡ replicate (c.args.starts + 127) 0 = c.in_ok-coeffs.ensures.items_if_clones_equal (λ y h. h) in
    let f : kept_from 0 c.in_ok-coeffs.coeffs.items c.in_ok-targets.targets.items ≡ [] = rw e (kept_of_new 0 (c.args.starts + 127) c.in_ok-targets.targets.items) in
    let make : List Equation → Kept = λ es. record { starts = c.args.starts; planes = c.args.planes; equations = es } in rw c.in_ok-kept.ensures.ok (ap make f)
