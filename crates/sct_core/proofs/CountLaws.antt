-- How many places are taken.
use Rattle.std.proofs.Common.{◌≡◌, ℕ, ◌≤◌, List, length, take, sym, ap, ◌∙◌, subst}
use Rattle.std.proofs.lemmas.List.{length-take-le}
use Rattle.sct_core.specs.declared.bounds.TheConstants.{MAX_SCTS}

pub counted : {A : Type 0} (n : ℕ) (places have : List A) → take n places ≡ have → n ≤ MAX_SCTS → length places ≡ MAX_SCTS → n ≡ length have
counted n places have view few all =
    let P : ℕ → Type 0 = λ m. n ≤ m in
    sym (length-take-le n places (subst P (sym all) few)) ∙ ap length view
