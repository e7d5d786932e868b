-- The facts hold after each job of a history.
use Rattle.std.proofs.Common.{ℕ, List, [], ◌∷◌, ◌++◌}
use Rattle.universe_core.specs.Jobs.{JobFacts}
use Rattle.universe_core.specs.History.{Release, past_of, released, releases}
use Rattle.history_core.specs.Facts.{IsSound, AllKeepCoverage}
use Rattle.history_core.proofs.Sound.{keeps_sound}

pub releases_sound : (trailer : List Release → JobFacts → List ℕ) (rs : List Release) (jobs : List JobFacts) → IsSound rs → AllKeepCoverage trailer rs jobs → IsSound (releases trailer rs jobs)
unfolding releases
releases_sound trailer rs [] s f = s
releases_sound trailer rs (job ∷ jobs) s f =
    releases_sound trailer (rs ++ released (past_of rs) job (trailer rs job) ∷ []) jobs (keeps_sound rs job (trailer rs job) s f.0) f.1
