-- The draws of a schedule, as seats make them under the rule of the counter.
use Rattle.std.specs.Prelude.{◌≡◌, ◌<◌, ◌%◌, ◌^◌, ◌==◌, ◌++◌, ℕ, false, List, [], ◌∷◌, length, map, filter, replicate}
use Rattle.std.specs.Prelude.{All, slice_index_or, slice_set}
use Rattle.claim_core.specs.declared.rule.View.{View}
use Rattle.claim_core.specs.declared.schedule.Draw.{Draw}
use Rattle.claim_core.specs.Counting.{view_of, drawn, IsCounted}
use Rattle.claim_core.specs.Schedule.{draws}

-- a seat that has drawn nothing
abbrev pub fresh : View
fresh = view_of false []

-- the seat w finds the remainder of the count of numbers that all seats have drawn
abbrev pub after_draw : List View → ℕ → List View
after_draw views w =
    slice_set views w (view_of (slice_index_or views w fresh).spent ((slice_index_or views w fresh).numbers ++ drawn views % 2 ^ 64 ∷ []))

abbrev pub played : List View → List ℕ → List View
played views [] = views
played views (w ∷ later) = played (after_draw views w) later

-- what a worker draws, in its order
abbrev pub drawn_by : ℕ → List Draw → List ℕ
drawn_by worker ds = map (λ d. d.number) (filter (λ d. d.worker == worker) ds)

-- However the seats take turns, the rule holds after all their draws, and each has the remainders of what the schedule
-- gives to it
abbrev pub SeatsDrawTheSchedule : Type 0
SeatsDrawTheSchedule = (seats : ℕ) (schedule : List ℕ) → All (λ w. w < seats) schedule
    → IsCounted (length schedule % 2 ^ 64 ∷ []) (played (replicate seats fresh) schedule)
    × ((w : ℕ) → w < seats
    → (slice_index_or (played (replicate seats fresh) schedule) w fresh).numbers
    ≡ map (λ n. n % 2 ^ 64) (drawn_by w (draws schedule)))
