-- A history goes on with a job, and its first jobs are one.
use Rattle.std.proofs.Common.{List, [], ◌∷◌, ◌++◌, append_assoc, sym, subst}
use Rattle.publication_core.specs.Histories.{Published, of_jobs, IsHistory}
use Rattle.publication_core.proofs.Fronts.{history_front}

-- the first jobs of a history are one, with the next job too
pub first_jobs : (ps : List Published) (p : Published) (others : List Published) → IsHistory (of_jobs (ps ++ p ∷ others)) → IsHistory (of_jobs (ps ++ p ∷ []))
first_jobs ps p others is =
    (history_front (of_jobs (ps ++ p ∷ [])) others (subst (λ (qs : List Published). IsHistory (of_jobs qs)) (sym (append_assoc ps (p ∷ []) others)) is)).0
