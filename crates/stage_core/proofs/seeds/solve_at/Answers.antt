use Rattle.std.proofs.Common.{◌≡◌, ◌<◌, ◌∙◌, ◌++◌, ℕ, List, [], get_or, sym, ap, subst}
use Rattle.std.proofs.lemmas.List.Elements.{All-nil}
use Rattle.ribbon_core.specs.Equations.{Equation, Solves, SolvesAll}
use Rattle.ribbon_core.specs.Kept.{Kept}
use Rattle.ribbon_core.proofs.LeastLaws.{least_same}
use Rattle.equation_core.specs.Rows.{Rows}
use Rattle.stage_core.specs.Keys.{key_equations}
use Rattle.stage_core.specs.declared.keys.KeyTarget.TheVariants.{Zero}
use Rattle.card_core.specs.Leaf.{flagged}
use Rattle.stage_core.proofs.Runs.{solved_front, solved_back}
use Rattle.stage_core.proofs.Stages.{two_lists}
use Rattle.stage_core.proofs.seeds.solve_at.Goals as goal

-- a new system asks nothing
asks_nothing : (s : Kept) (starts planes p Z : ℕ) → s ≡ record { starts = starts; planes = planes; equations = [] } → SolvesAll p s.equations Z
asks_nothing s starts planes p Z e = rw e (All-nil (λ e. Solves p e Z))

pub returns-in_default-clause-ok : goal.returns-in_default-clause-ok
returns-in_default-clause-ok g c =
    let rows : Rows = g.W.Hashing.row_of c.args.hashing.now in
    let xs : List Equation = key_equations rows c.args.shape.target c.args.shape.stage c.args.shape.planes c.args.shape.starts (flagged c.args.universe.now c.args.revoked.now) c.args.seed in
    let ys : List Equation = key_equations rows Zero c.args.shape.stage c.args.shape.planes c.args.shape.starts (flagged c.args.universe.now c.args.passed.now) c.args.seed in
    let h = (rw c.in_default.is at c.in_ok-add_keys.ensures.ok).1 in
    (h.0, h.1, λ Z s. h.2 Z (asks_nothing c.in_ok-system.system c.args.shape.starts c.args.shape.planes h.0 Z c.in_ok-system.ensures) (solved_front h.0 Z xs ys s))

pub returns-in_default-2-clause-ok : goal.returns-in_default-2-clause-ok
returns-in_default-2-clause-ok g c =
    let rows : Rows = g.W.Hashing.row_of c.args.hashing.now in
    let xs : List Equation = key_equations rows c.args.shape.target c.args.shape.stage c.args.shape.planes c.args.shape.starts (flagged c.args.universe.now c.args.revoked.now) c.args.seed in
    let ys : List Equation = key_equations rows Zero c.args.shape.stage c.args.shape.planes c.args.shape.starts (flagged c.args.universe.now c.args.passed.now) c.args.seed in
    let h = (rw c.in_default-2.is at c.in_ok-add_keys-2.ensures.ok).1 in
    let k = (rw c.in-Ok.is at c.in_ok-add_keys.ensures.ok).0 in (
      h.0,
      h.1,
      λ Z s. h.2 Z ((k h.0 Z).1 (
        asks_nothing c.in_ok-system.system c.args.shape.starts c.args.shape.planes h.0 Z c.in_ok-system.ensures,
        solved_front h.0 Z xs ys s,
      )) (solved_back h.0 Z xs ys s),
    )

pub returns-clause-ok : goal.returns-clause-ok
returns-clause-ok g c =
    let rows : Rows = g.W.Hashing.row_of c.args.hashing.now in
    let xs : List Equation = key_equations rows c.args.shape.target c.args.shape.stage c.args.shape.planes c.args.shape.starts (flagged c.args.universe.now c.args.revoked.now) c.args.seed in
    let ys : List Equation = key_equations rows Zero c.args.shape.stage c.args.shape.planes c.args.shape.starts (flagged c.args.universe.now c.args.passed.now) c.args.seed in
    let starts : c.add_keys-2.new.system.starts ≡ c.args.shape.starts = c.in_ok-add_keys-2.ensures.starts ∙ c.in_ok-add_keys.ensures.starts ∙ ap (λ (s : Kept). s.starts) c.in_ok-system.ensures in
    let planes : c.add_keys-2.new.system.planes ≡ c.args.shape.planes = c.in_ok-add_keys-2.ensures.planes ∙ c.in_ok-add_keys.ensures.planes ∙ ap (λ (s : Kept). s.planes) c.in_ok-system.ensures in (
      c.solve.ensures.starts ∙ starts,
      c.solve.ensures.planes ∙ planes,
      λ p lt. least_same p c.add_keys-2.new.system.equations (xs ++ ys) (get_or c.solve.result.columns p 0)
          (λ Y. two_lists p Y (SolvesAll p c.add_keys.new.system.equations Y) (SolvesAll p c.add_keys-2.new.system.equations Y) (SolvesAll p c.in_ok-system.system.equations Y) xs ys
          (asks_nothing c.in_ok-system.system c.args.shape.starts c.args.shape.planes p Y c.in_ok-system.ensures) ((rw c.in-Ok.is at c.in_ok-add_keys.ensures.ok).0 p Y)
          ((rw c.in-Ok-2.is at c.in_ok-add_keys-2.ensures.ok).0 p Y))
          (c.solve.ensures.least p (subst (λ (n : ℕ). p < n) (sym planes) lt)),
    )
