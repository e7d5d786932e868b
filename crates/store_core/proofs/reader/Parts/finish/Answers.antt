use Rattle.std.proofs.Common.{[], List, ℕ, ap, sym, ◌∙◌, arith, inl, refl}
use Rattle.std.proofs.lemmas.List.{append-nil}
use Rattle.std.proofs.lemmas.Result.{err_from_is_err_and}
use Rattle.store_core.specs.StoreLayout.{store_parts}
use Rattle.store_core.proofs.StoreReads.{all-came}
use Rattle.store_core.proofs.reader.Parts.finish.Goals as goal

pub returns-in_err-close-clause-err : goal.returns-in_err-close-clause-err
returns-in_err-close-clause-err c =
    let p = err_from_is_err_and c.from_residual.result c.from_residual.ensures.1 in
    rw (p.1, p.2) (λ wants b r.
    ap (λ (l : List ℕ). store_parts l 0) (sym (append-nil b)) ∙ c.in_err-close.ensures.err wants b [] (c.parts.invariant.read b r) (inl refl))

pub returns-clause-ok : goal.returns-clause-ok
returns-clause-ok c = λ b x r. all-came c.parts.self b x c.unwrap.result (omega (arith, c.parts-test.false)) c.unwrap.ensures (c.parts.invariant.read b r)
