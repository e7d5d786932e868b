-- What is found of the members of a universe, with a flag each.
use Rattle.std.specs.Prelude.{◌&&◌, ℕ, Bool, List, map, zip, not, Option}
use Rattle.ident_core.specs.declared.identity.Identity.{Identity}
use Rattle.equation_core.specs.declared.hash.Row.{Row}
use Rattle.equation_core.specs.Rows.{Rows}
use Rattle.card_core.specs.declared.stage.Stage.{Stage}
use Rattle.card_core.specs.Leaf.{flagged, passes}
use Rattle.stage_core.specs.declared.keys.Shape.{Shape}

-- the rows of those whose flag is set, in order
abbrev pub flagged_rows : Rows → Shape → ℕ → List Identity → List Bool → List Row
flagged_rows rows shape seed universe flags = map (λ x. rows shape.stage seed x shape.starts) (flagged universe flags)

-- of each, in order, whether it is a false positive: the approximate stage accepts it, and it isn't revoked
abbrev pub false_positive_flags : Rows → Option Stage → List Identity → List Bool → List Bool
false_positive_flags rows approx universe revoked = map (λ p. not p.1 && passes rows approx p.0) (zip universe revoked)
