-- How long a certificate lasts, as the accepted entries of its identity tell it.
use Rattle.std.specs.Prelude.{◌≡◌, ◌≤ℤ◌, ◌⊎◌, ℤ, List, [], ◌∷◌, map, filter, fold, Option, Some, None}
use Rattle.std.specs.Int.{int_max}
use Rattle.ident_core.specs.declared.identity.Identity.{Identity}
use Rattle.ident_core.specs.Order.{is_same}
use Rattle.ident_core.specs.Among.{Among}
use Rattle.universe_core.specs.Jobs.{Entry}
use Rattle.universe_core.specs.History.{Release, seen}

-- the later of two dates; none where one of them isn't told
abbrev pub later_of : Option ℤ → Option ℤ → Option ℤ
later_of None e = None
later_of (Some d) None = None
later_of (Some d) (Some e) = Some (int_max d e)

-- none where one of the dates isn't told, else the greatest
unfoldable pub greatest : List (Option ℤ) → Option ℤ
greatest [] = None
greatest (d ∷ ds) = fold later_of d ds

-- What the greatest is, apart from how it is found: none where there is no date or one isn't told, else one of them that
-- no other is above.
abbrev pub IsGreatest : List (Option ℤ) → Option ℤ → Type 0
IsGreatest ds None = (ds ≡ []) ⊎ Among ds None
IsGreatest ds (Some e) = Among ds (Some e) × ((d : Option ℤ) → Among ds d → (f : ℤ) × (d ≡ Some f) × (f ≤ℤ e))

-- the dates of an identity in some entries
unfoldable pub dates : Identity → List Entry → List (Option ℤ)
dates x entries = map (λ e. e.until) (filter (λ e. is_same x e.id) entries)

-- the date of an identity, by its accepted entries so far
unfoldable pub until : Identity → List Release → Option ℤ
until x rs = greatest (dates x (seen rs))
