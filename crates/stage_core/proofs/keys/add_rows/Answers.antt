use Rattle.std.proofs.Common.{◌≡◌, ◌∙◌, ◌++◌, ◌∷◌, [], ℕ, List, take, drop, ◌+◌, sym, ap, subst, refl, get_or, ◌<◌}
use Rattle.std.proofs.lemmas.List.{take_more, take-append-drop, drop_all, append-nil}
use Rattle.std.proofs.lemmas.Result.{err_from_is_err_and}
use Rattle.ribbon_core.specs.Equations.{SolvesAll}
use Rattle.ribbon_core.specs.Rows.{equation_with}
use Rattle.equation_core.specs.declared.hash.Row.{Row}
use Rattle.stage_core.specs.Keys.{HasNoSolution, row_equations, target_of}
use Rattle.stage_core.proofs.Runs.{keys_more, keys_same, keys_refused}
use Rattle.stage_core.proofs.keys.add_rows.Goals as goal

-- what the check reads past the end
abbrev none : Row
none = record { start = 0; coeff = 0; tag = 0 }

pub loop-row-preserved : goal.loop-row-preserved
loop-row-preserved c =
    let f = λ (r : Row). equation_with (target_of c.args.target c.args.planes r) r in
    let rs = c.args.rows.now in
    let i = c.loop-row.row-index in
    let x : Row = get_or rs i none in
    let more : take i rs ++ (x ∷ []) ≡ take (i + 1) rs = sym (take_more rs i none c.loop-row-test.true) in
    record {
      starts = c.in_ok-add.ensures.starts ∙ c.loop-row.invariant.starts;
      planes = c.in_ok-add.ensures.planes ∙ c.loop-row.invariant.planes;
      same = λ plane Z. keys_more plane Z f (SolvesAll plane c.args.system.now.equations Z) (SolvesAll plane c.loop-row.system.equations Z) (take i rs)
          (SolvesAll plane c.add.new.self.equations Z) (take (i + 1) rs) x more (c.loop-row.invariant.same plane Z) ((rw c.bits.ensures.value at c.in_ok-add.ensures.ok) plane Z);
    }

pub returns-clause-ok : goal.returns-clause-ok
returns-clause-ok c plane Z =
    let f = λ (r : Row). equation_with (target_of c.args.target c.args.planes r) r in
    let rs = c.args.rows.now in
    let i = c.loop-row.row-index in
    let whole : take i rs ≡ rs = sym (append-nil (take i rs)) ∙ ap (λ (l : List Row). take i rs ++ l) (sym (drop_all i rs c.loop-row-test.false)) ∙ take-append-drop i rs in
    keys_same plane Z f (SolvesAll plane c.args.system.now.equations Z) (SolvesAll plane c.loop-row.system.equations Z) (take i rs) rs whole (c.loop-row.invariant.same plane Z)

pub returns-in_err-add-clause-err : goal.returns-in_err-add-clause-err
returns-in_err-add-clause-err c =
    let f = λ (r : Row). equation_with (target_of c.args.target c.args.planes r) r in
    let rs = c.args.rows.now in
    let i = c.loop-row.row-index in
    let x : Row = get_or rs i none in
    let p = rw c.bits.ensures.value at (c.in_err-add.ensures.inconsistent.0 refl) in
    let around : rs ≡ (take i rs ++ (x ∷ [])) ++ drop (i + 1) rs = sym (take-append-drop (i + 1) rs) ∙ ap (λ (l : List Row). l ++ drop (i + 1) rs) (take_more rs i none c.loop-row-test.true) in
    let contradicted : HasNoSolution c.args.planes c.args.system.now.equations (row_equations c.args.target c.args.planes rs) = (
      p.0,
      subst (λ (n : ℕ). p.0 < n) (c.loop-row.invariant.planes ∙ c.requires.planes) p.1,
      λ Z b s. keys_refused p.0 Z f (SolvesAll p.0 c.args.system.now.equations Z) (SolvesAll p.0 c.loop-row.system.equations Z) (take i rs) rs (drop (i + 1) rs) x around
          (c.loop-row.invariant.same p.0 Z) (p.2 Z) b s,
    ) in
    let q = err_from_is_err_and c.from_residual.result c.from_residual.ensures.1 in
    rw q.1 contradicted
