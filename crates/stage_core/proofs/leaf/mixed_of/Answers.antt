use Rattle.std.proofs.Common.{◌∙◌, ◌&&◌, map, not}
use Rattle.std.proofs.lemmas.Result.{err_from_is_err_and}
use Rattle.card_core.specs.Leaf.{flagged, passes}
use Rattle.stage_core.proofs.Flags.{passed_few}
use Rattle.stage_core.proofs.InThreads.{flags_long, passed_given}
use Rattle.stage_core.proofs.Stages.{exact_fault, mixed_found}
use Rattle.stage_core.proofs.leaf.mixed_of.Goals as goal

pub exact_of-requires-clause-passed : goal.exact_of-requires-clause-passed
exact_of-requires-clause-passed g c =
    flags_long (λ p. not p.1 && passes (g.W.Hashing.row_of c.args.hashing.now) c.in_ok-approx.approx p.0) c.args.universe.now c.args.revoked.now _ c.requires.flags
    (c.deref.ensures.value ∙ c.in_ok-passed.ensures)

pub exact_of-requires-clause-few : goal.exact_of-requires-clause-few
exact_of-requires-clause-few g c =
    passed_few (passes (g.W.Hashing.row_of c.args.hashing.now) c.in_ok-approx.approx) c.args.universe.now (flagged c.args.universe.now c.deref.result.now) c.args.revoked.now 4194304
    c.requires.flags (passed_given (passes (g.W.Hashing.row_of c.args.hashing.now) c.in_ok-approx.approx) c.args.universe.now c.args.revoked.now _ (c.deref.ensures.value ∙ c.in_ok-passed.ensures)) c.requires.few

pub returns-in_err-exact : goal.returns-in_err-exact
returns-in_err-exact g c =
    let q = err_from_is_err_and c.from_residual-in_err-exact.result c.from_residual-in_err-exact.ensures.1 in
    let f = exact_fault (g.W.Hashing.row_of c.args.hashing.now) (flagged c.args.universe.now c.args.revoked.now) (flagged c.args.universe.now (map not c.args.revoked.now)) c.in_ok-approx.approx
    (flagged c.args.universe.now c.deref.result.now) c.in_err-exact.field-0.0
    c.requires.some_revoked c.requires.some_others c.in_ok-approx.ensures (passed_given (passes (g.W.Hashing.row_of c.args.hashing.now) c.in_ok-approx.approx) c.args.universe.now c.args.revoked.now _ (c.deref.ensures.value ∙ c.in_ok-passed.ensures)) c.in_err-exact.ensures in
    rw (q.1, q.2) f

pub returns : goal.returns
returns g c =
    rw c.new.ensures (mixed_found (g.W.Hashing.row_of c.args.hashing.now) (flagged c.args.universe.now c.args.revoked.now)
    (flagged c.args.universe.now (map not c.args.revoked.now)) c.in_ok-approx.approx
    c.in_ok-exact.exact (flagged c.args.universe.now c.deref.result.now)
    c.requires.some_revoked c.requires.some_others c.in_ok-approx.ensures (passed_given (passes (g.W.Hashing.row_of c.args.hashing.now) c.in_ok-approx.approx) c.args.universe.now c.args.revoked.now _ (c.deref.ensures.value ∙ c.in_ok-passed.ensures)) c.in_ok-exact.ensures)
