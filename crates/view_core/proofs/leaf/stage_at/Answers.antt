use Rattle.std.proofs.Common.{◌+◌, ◌∙◌, List, ℕ, Some, get_or, refl, ap, arith}
use Rattle.view_core.proofs.Leaves.{front, stands_front, seed_again, starts_again}
use Rattle.view_core.proofs.leaf.stage_at.Goals as goal

pub returns-in_err-head-clause-value : goal.returns-in_err-head-clause-value
returns-in_err-head-clause-value c = λ s fits h. absurd (
    let none = c.in_err-head.ensures.there (front s) refl (omega arith) (stands_front c.args.bytes.now c.args.at s h) in cc)

pub returns-then-starts-lt1-clause-value : goal.returns-then-starts-lt1-clause-value
returns-then-starts-lt1-clause-value c = λ s fits h.
    let head = c.in_ok-head.ensures.text (front s) refl (stands_front c.args.bytes.now c.args.at s h) in
    let starts = rw head at c.from_be_bytes-starts.ensures ∙ starts_again s fits in
    absurd (omega (arith, starts, fits.planes.some_starts, fits.planes.few_starts, c.then-starts-lt1.either))

pub returns-clause-value : goal.returns-clause-value
returns-clause-value c = λ s fits h.
    let head = c.in_ok-head.ensures.text (front s) refl (stands_front c.args.bytes.now c.args.at s h) in
    let starts = rw head at c.from_be_bytes-starts.ensures ∙ starts_again s fits in
    let seed = ap (λ (l : List ℕ). get_or l 0 0) head ∙ seed_again s fits in
    ap Some (λ i. record { seed = seed i; starts = starts i; planes = c.args.at + 5 })
