use Rattle.std.proofs.Common.{List, ℕ, [], ap, sym, ◌∙◌, arith, inl, refl}
use Rattle.std.proofs.lemmas.List.{append-nil}
use Rattle.std.proofs.lemmas.Result.{err_from_is_err_and}
use Rattle.store_core.specs.StoreLayout.{store_parts}
use Rattle.store_core.specs.StoreReading.{ReadsFor}
use Rattle.store_core.proofs.StoreReads.{not-opened, full, for-ok, for-err}
use Rattle.store_core.proofs.reader.StoreReader.finish.Goals as goal

pub returns-in-Some-clause-err : goal.returns-in-Some-clause-err
returns-in-Some-clause-err c = λ wants b st. ap (λ (l : List ℕ). store_parts l 0) (sym (append-nil b)) ∙ (rw c.in-Some.is at st) wants []

pub returns-in_err-opening-in-None-clause-err : goal.returns-in_err-opening-in-None-clause-err
returns-in_err-opening-in-None-clause-err c =
    let p = err_from_is_err_and c.from_residual.result c.from_residual.ensures.1 in
    rw (p.1, p.2) (λ wants b st.
    let came = rw (c.in_default.is, c.in-None.is) at st in
    ap (λ (l : List ℕ). store_parts l 0) (came.0 ∙ sym (append-nil c.args.self.front))
    ∙ not-opened c.args.self.front c.in_err-opening-in-None.field-0.0 (rw c.as_slice.ensures at c.in_err-opening-in-None.ensures.exact) [] (inl refl))

-- fewer than ten bytes hold no count
none : (c : goal.After-finish-in-None) (b : List ℕ) → ReadsFor c.args.self b → ⊥
none c b st =
    let came = rw (c.in_default.is, c.in-None.is) at st in
    let ten = full c.args.self.front c.in_ok-opening-in-None.field-0 (rw c.as_slice.ensures at c.in_ok-opening-in-None.ensures.exact) in
    omega (arith, came.1, ten)

pub returns-in_ok-opening-in-None-clause-ok : goal.returns-in_ok-opening-in-None-clause-ok
returns-in_ok-opening-in-None-clause-ok c = for-ok c.finish-in-None.result _ (λ s b x st. absurd (none c b st))

pub returns-in_ok-opening-in-None-clause-err : goal.returns-in_ok-opening-in-None-clause-err
returns-in_ok-opening-in-None-clause-err c = for-err c.finish-in-None.result _ (λ e wants b st. absurd (none c b st))
