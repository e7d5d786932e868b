use Rattle.std.proofs.Common.{◌≡◌, ◌∙◌, ℕ, List, All, sym, ap, subst, arith}
use Rattle.ident_core.specs.declared.identity.Identity.{Identity}
use Rattle.equation_core.specs.declared.hash.Row.{Row}
use Rattle.equation_core.specs.Rows.{IsRow}
use Rattle.ribbon_core.specs.Rows.{equation_with}
use Rattle.card_core.specs.Leaf.{flagged}
use Rattle.stage_core.specs.Keys.{Adds, flagged_equations, row_equations, target_of}
use Rattle.stage_core.proofs.InThreads.{rows_formed, map_twice}
use Rattle.stage_core.proofs.keys.add_keys.Goals as goal

pub add_rows-requires-clause-rows : goal.add_rows-requires-clause-rows
add_rows-requires-clause-rows g c =
    let row : Identity → Row = λ x. g.W.Hashing.row_of c.args.hashing.now c.args.shape.stage c.args.seed x c.args.shape.starts in
    let formed = rows_formed row c.args.shape.starts
    (λ x. g.met.W.Hashing.formed c.args.hashing.now c.args.shape.stage c.args.seed x c.args.shape.starts (omega arith) (omega arith) c.requires.some_starts (omega arith))
    (flagged c.args.universe.now c.args.flags.now) in
    subst (λ (n : ℕ). All (IsRow n) c.deref.result.now) (sym c.requires.starts)
    (subst (λ (l : List Row). All (IsRow c.args.shape.starts) l) (sym (c.deref.ensures.value ∙ c.in_ok-rows.ensures)) formed)

pub returns-clause-ok : goal.returns-clause-ok
returns-clause-ok g c =
    let row : Identity → Row = λ x. g.W.Hashing.row_of c.args.hashing.now c.args.shape.stage c.args.seed x c.args.shape.starts in
    let same : row_equations c.args.shape.target c.args.shape.planes c.deref.result.now
    ≡ flagged_equations (g.W.Hashing.row_of c.args.hashing.now) c.args.shape c.args.seed c.args.universe.now c.args.flags.now =
    ap (row_equations c.args.shape.target c.args.shape.planes) (c.deref.ensures.value ∙ c.in_ok-rows.ensures)
    ∙ map_twice (λ (r : Row). equation_with (target_of c.args.shape.target c.args.shape.planes r) r) row (flagged c.args.universe.now c.args.flags.now) in
    let added : Adds c.args.shape.planes c.args.system.now.equations (row_equations c.args.shape.target c.args.shape.planes c.deref.result.now) c.add_rows.new.system.equations c.add_rows.result =
    (c.add_rows.ensures.ok, c.add_rows.ensures.err) in
    rw same at added
