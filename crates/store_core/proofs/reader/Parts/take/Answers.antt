use Rattle.std.proofs.Common.{◌<◌, ◌++◌, List, ℕ, length, take, drop, ap, sym, ◌∙◌, arith, inr, refl}
use Rattle.std.proofs.lemmas.Result.{err_from_is_err_and}
use Rattle.store_core.specs.StoreLayout.{store_parts}
use Rattle.store_core.proofs.StoreReads.{more-came, piece-faulty, piece-parts}
use Rattle.store_core.proofs.reader.Parts.take.Goals as goal

pub returns-in-Err-clause-err : goal.returns-in-Err-clause-err
returns-in-Err-clause-err c =
    piece-faulty c.args.self.now c.in-Err.fault c.moved.result c.args.piece.now c.requires.some (omega arith) (omega arith) c.moved.ensures c.in-Err.ensures.err

pub returns-in_err-close-clause-err : goal.returns-in_err-close-clause-err
unfolding more-came
returns-in_err-close-clause-err c =
    let p = err_from_is_err_and c.from_residual.result c.from_residual.ensures.1 in
    let e = c.in-Ok.ensures in
    let w = c.args.piece.now in
    let lt : c.in-Ok.n < length w = omega (arith, e.count, c.if-n-piece.false) in
    rw (p.1, p.2) (λ wants b x r.
    ap (λ (l : List ℕ). store_parts l 0) (sym (piece-parts b w x c.in-Ok.n))
    ∙ c.in_err-close.ensures.err wants (b ++ take c.in-Ok.n w) (drop c.in-Ok.n w ++ x)
    (more-came c.args.self.now _ b w c.in-Ok.n c.requires.some e.count refl refl refl (λ fits. omega (arith, fits, c.saturating_add-self.ensures)) e.ok e.going r)
    (inr (e.less lt r.came r.reads)))

pub returns-clause-ok : goal.returns-clause-ok
returns-clause-ok c = λ b r.
    let e = c.in-Ok.ensures in
    c.in_ok-close.ensures.ok (b ++ take c.in-Ok.n c.args.piece.now)
    (more-came c.args.self.now _ b c.args.piece.now c.in-Ok.n c.requires.some e.count refl refl refl (λ fits. omega (arith, fits, c.saturating_add-self.ensures)) e.ok e.going r)

pub returns-then-n-piece-clause-ok : goal.returns-then-n-piece-clause-ok
returns-then-n-piece-clause-ok c = λ b r.
    let e = c.in-Ok.ensures in
    more-came c.args.self.now _ b c.args.piece.now c.in-Ok.n c.requires.some e.count refl refl refl (λ fits. omega (arith, fits, c.saturating_add-self.ensures)) e.ok e.going r
