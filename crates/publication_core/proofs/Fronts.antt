-- A job of a history is admissible behind the members before it.
use Rattle.std.proofs.Common.{List, [], ◌∷◌, ◌++◌}
use Rattle.universe_core.specs.History.{Release}
use Rattle.history_core.specs.Bases.{releases_cut, base_at}
use Rattle.publication_core.specs.Histories.{Published, release_of, releases_after, AreAdmissible, History, of_jobs, rebased, with_jobs, IsHistory, releases_of}

front_after : (rs : List Release) (ps more : List Published) → AreAdmissible rs (ps ++ more) → AreAdmissible rs ps × AreAdmissible (releases_after rs ps) more
front_after rs [] more h = (tt, h)
front_after rs (p ∷ ps) more h = let r = front_after (rs ++ release_of rs p ∷ []) ps more h.2 in ((h.0, h.1, r.0), r.1)

pub history_front : (h : History) (more : List Published) → IsHistory (with_jobs h more) → IsHistory h × AreAdmissible (releases_of h) more
history_front (of_jobs ps) more is = front_after [] ps more is
history_front (rebased h moment cut s ps) more is =
    let r = front_after (base_at moment (releases_cut cut (releases_of h)) s.trailer ∷ []) ps more is.3 in ((is.0, is.1, is.2, r.0), r.1)
