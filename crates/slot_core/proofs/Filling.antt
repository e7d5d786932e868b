-- A buffer that is filled from a place on.
use Rattle.std.proofs.Common.{◌≡◌, ℕ, ◌+◌, ◌≤◌, List, ◌++◌, take, drop, length, sym, ap, ◌∙◌, arith, length-take}
use Rattle.std.proofs.lemmas.List.{drop-drop, take_at, drop_at, take-append-le}
use Rattle.std.proofs.Math.Seq.{take-add}

-- the next bytes behind those that are there
pub filled-next : (bytes buf rest behind : List ℕ) (at done n : ℕ) → done ≤ length buf → n ≤ length rest → take done buf ≡ take done (drop at bytes)
    → take n rest ≡ take n (drop (at + done) bytes) → take (done + n) (take done buf ++ (rest ++ behind)) ≡ take (done + n) (drop at bytes)
filled-next bytes buf rest behind at done n le few before next =
    let long : length (take done buf) ≡ done = omega (arith, length-take done buf) in
    take-add done n (take done buf ++ (rest ++ behind))
    ∙ ap (λ (l : List ℕ). l ++ take n (drop done (take done buf ++ (rest ++ behind)))) (take_at (take done buf) (rest ++ behind) done long ∙ before)
    ∙ ap (λ (l : List ℕ). take done (drop at bytes) ++ take n l) (drop_at (take done buf) (rest ++ behind) done long)
    ∙ ap (λ (l : List ℕ). take done (drop at bytes) ++ l) (take-append-le n rest behind few ∙ next ∙ ap (take n) (sym (drop-drop done at bytes)))
    ∙ sym (take-add done n (drop at bytes))
