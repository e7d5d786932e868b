-- What the part of a base answers.
use Rattle.std.specs.List.{AllZip}
use Rattle.std.proofs.Common.{◌≡◌, ℕ, List, [], ◌∷◌, Bool, true, Some, sym, ap, ◌∙◌, subst}
use Rattle.ident_core.specs.declared.identity.Identity.{Identity}
use Rattle.ident_core.specs.declared.range.Sighting.{Sighting}
use Rattle.ident_core.specs.Among.{Among}
use Rattle.ident_core.specs.Sets.{has}
use Rattle.universe_core.specs.History.{Release, seen, sightings, is_listed}
use Rattle.history_core.specs.Facts.{IsSound}
use Rattle.history_core.specs.Showing.{PartView, Shows, answers_of, said}
use Rattle.history_core.specs.Bases.{kept_by, base_with}
use Rattle.history_core.proofs.Answers.{answers_are_truth}
use Rattle.history_core.proofs.Bases.{base_sound}
use Rattle.history_core.proofs.Kept.{sightings_kept, listed_kept}

-- what the parts of a history say together is the truth
said_is : (parts : List PartView) (rs : List Release) (x : Identity) (s : Sighting) (ss : List Sighting) → IsSound rs → AllZip Shows parts rs
    → ((t : Sighting) → Among (s ∷ ss) t → Among (sightings x (seen rs)) t) → said (answers_of x (s ∷ ss) parts) ≡ Some (is_listed rs x)
said_is parts rs x s ss sound shows asked =
    let a = answers_are_truth parts rs x s ss sound shows asked in
    ap said a.2 ∙ ap (λ (b : Bool). Some b) a.3

-- and so it is what the part of its base says of an identity that it keeps
pub said_same : (keeps : Identity → Bool) (parts : List PartView) (part : PartView) (rs : List Release) (trailer : List ℕ) (x : Identity) (s : Sighting) (ss : List Sighting)
    → IsSound rs → AllZip Shows parts rs → Shows part (base_with keeps rs trailer) → has (kept_by keeps rs) x ≡ true
    → ((t : Sighting) → Among (s ∷ ss) t → Among (sightings x (seen rs)) t) → said (answers_of x (s ∷ ss) parts) ≡ said (answers_of x (s ∷ ss) (part ∷ []))
said_same keeps parts part rs trailer x s ss sound shows base kept asked =
    said_is parts rs x s ss sound shows asked
    ∙ ap (λ (b : Bool). Some b) (sym (listed_kept keeps rs trailer x kept))
    ∙ sym (said_is (part ∷ []) (base_with keeps rs trailer ∷ []) x s ss (base_sound keeps rs trailer sound) (base, tt)
    (λ t a. subst (λ (ts : List Sighting). Among ts t) (sym (sightings_kept keeps rs trailer x kept)) (asked t a)))
