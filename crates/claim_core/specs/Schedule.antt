-- The draws of a schedule, a list of worker numbers in the order of their draws.
use Rattle.std.specs.Prelude.{◌≡◌, ℕ, suc, List, [], ◌∷◌, length, map}
use Rattle.claim_core.specs.declared.schedule.Draw.{Draw}
use Rattle.claim_core.specs.Numbers.{times, once_below}

-- step t gives t to its worker
abbrev pub draws_from : ℕ → List ℕ → List Draw
draws_from t [] = []
draws_from t (worker ∷ later) = record { worker = worker; number = t } ∷ draws_from (suc t) later

abbrev pub draws : List ℕ → List Draw
draws schedule = draws_from 0 schedule

-- each number below n stands there once, and no other does
abbrev pub IsEachOnceBelow : ℕ → List ℕ → Type 0
IsEachOnceBelow n numbers = (x : ℕ) → times x numbers ≡ once_below x n

-- each worker of a schedule gets one draw for each time that it stands there, and the numbers drawn are those below the
-- schedule's length, each once
abbrev pub DrawsAreEachOnce : Type 0
DrawsAreEachOnce = (schedule : List ℕ) →
    (map (λ d. d.worker) (draws schedule) ≡ schedule) × IsEachOnceBelow (length schedule) (map (λ d. d.number) (draws schedule))
