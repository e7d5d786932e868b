-- The draws of a schedule.
use Rattle.std.proofs.Common.{◌≡◌, ℕ, suc, ◌+◌, ◌<◌, List, [], ◌∷◌, length, map, ap, ◌∙◌, arith, refl, drop, get_or, drop-cons, add-one}
use Rattle.std.specs.Prelude.{◌==◌, if◌then◌else◌, nat_lt}
use Rattle.std.proofs.lemmas.Bool.Decides.{nat_tests}
use Rattle.std.proofs.lemmas.List.Sums.{sum_by-cons}
use Rattle.claim_core.specs.Numbers.{times, once_below}
use Rattle.claim_core.specs.Schedule.{draws_from, draws, IsEachOnceBelow, DrawsAreEachOnce}

pub workers_are : (t : ℕ) (schedule : List ℕ) → map (λ d. d.worker) (draws_from t schedule) ≡ schedule
workers_are t [] = refl
workers_are t (w ∷ ws) = ap (λ l. w ∷ l) (workers_are (suc t) ws)

-- from t on, n numbers
abbrev once_within : ℕ → ℕ → ℕ → ℕ
once_within x t n = if nat_lt x t then 0 else (if nat_lt x (t + n) then 1 else 0)

step_once : (x t n : ℕ) → (if t == x then 1 else 0) + once_within x (suc t) n ≡ once_within x t (suc n)
step_once x t n = grind (arith, nat_tests)

once_from : (x t : ℕ) (schedule : List ℕ) → times x (map (λ d. d.number) (draws_from t schedule)) ≡ once_within x t (length schedule)
once_from x t [] = grind (arith, nat_tests)
once_from x t (w ∷ ws) =
    sum_by-cons (λ y. if y == x then 1 else 0) t (map (λ d. d.number) (draws_from (suc t) ws))
    ∙ ap (λ k. (if t == x then 1 else 0) + k) (once_from x (suc t) ws)
    ∙ step_once x t (length ws)

from_zero : (x n : ℕ) → once_within x 0 n ≡ once_below x n
from_zero x n = grind (arith, nat_tests)

pub each_once : (schedule : List ℕ) → IsEachOnceBelow (length schedule) (map (λ d. d.number) (draws schedule))
each_once schedule x = once_from x 0 schedule ∙ from_zero x (length schedule)

-- the draws of a schedule from step t on, where the worker w stands next
pub draws_next : (t i : ℕ) (schedule : List ℕ) → i < length schedule
    → draws_from t (drop i schedule) ≡ record { worker = get_or schedule i 0; number = t } ∷ draws_from (t + 1) (drop (i + 1) schedule)
draws_next t i schedule within = rw (add-one i, add-one t) (ap (draws_from t) (drop-cons schedule i 0 within))

pub all_schedules : DrawsAreEachOnce
all_schedules schedule = (workers_are 0 schedule, each_once schedule)
