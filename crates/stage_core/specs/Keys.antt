-- The equations of keys.
use Rattle.std.specs.Prelude.{◌<◌, ◌%◌, ◌^◌, ◌↔◌, ℕ, Bool, List, ◌++◌, map, Result, OnOk, OnErr, ⊤}
use Rattle.ident_core.specs.declared.identity.Identity.{Identity}
use Rattle.equation_core.specs.declared.hash.Row.{Row}
use Rattle.equation_core.specs.Rows.{Rows}
use Rattle.ribbon_core.specs.Equations.{Equation, SolvesAll}
use Rattle.ribbon_core.specs.Rows.{equation_with}
use Rattle.ribbon_core.specs.declared.elimination.Inconsistent.{Inconsistent}
use Rattle.card_core.specs.Leaf.{flagged}
use Rattle.stage_core.specs.declared.keys.Shape.{Shape}
use Rattle.stage_core.specs.declared.keys.KeyTarget.{KeyTarget}
use Rattle.stage_core.specs.declared.keys.KeyTarget.TheVariants.{Tag, One, Zero}

-- the targets of a row's equation, a bit for each plane
abbrev pub target_of : KeyTarget → ℕ → Row → ℕ
target_of Tag planes row = row.tag % 2 ^ planes
target_of One planes row = 1
target_of Zero planes row = 0

abbrev pub key_equation : Rows → KeyTarget → ℕ → ℕ → ℕ → ℕ → Identity → Equation
key_equation rows target stage planes starts seed x =
    equation_with (target_of target planes (rows stage seed x starts)) (rows stage seed x starts)

abbrev pub key_equations : Rows → KeyTarget → ℕ → ℕ → ℕ → List Identity → ℕ → List Equation
key_equations rows target stage planes starts keys seed = map (key_equation rows target stage planes starts seed) keys

-- the equations of rows
abbrev pub row_equations : KeyTarget → ℕ → List Row → List Equation
row_equations target planes rows = map (λ row. equation_with (target_of target planes row) row) rows

-- those of the members whose flag is set
abbrev pub flagged_equations : Rows → Shape → ℕ → List Identity → List Bool → List Equation
flagged_equations rows shape seed universe flags =
    key_equations rows shape.target shape.stage shape.planes shape.starts (flagged universe flags) seed

-- in some plane no columns solve both lists
abbrev pub HasNoSolution : ℕ → List Equation → List Equation → Type 0
HasNoSolution planes es fs = (p : ℕ) × (p < planes) × ((Z : ℕ) → SolvesAll p es Z → SolvesAll p fs Z → ⊥)

-- more equations go into a system: what solves it then solves both, or nothing does
abbrev pub Adds : ℕ → List Equation → List Equation → List Equation → Result ⊤ Inconsistent → Type 0
Adds planes before more after result =
    OnOk result ((plane Z : ℕ) → SolvesAll plane after Z ↔ (SolvesAll plane before Z × SolvesAll plane more Z))
    × OnErr result (HasNoSolution planes before more)

-- the equations of a stage at each seed: those of the keys, then those of more keys, whose target is zero
abbrev pub stage_equations : Rows → KeyTarget → ℕ → ℕ → ℕ → List Identity → List Identity → ℕ → List Equation
stage_equations rows target stage planes starts keys zeros seed =
    key_equations rows target stage planes starts keys seed ++ key_equations rows Zero stage planes starts zeros seed

-- those of the members that are revoked, and of those that passed
abbrev pub shape_equations : Rows → Shape → List Identity → List Bool → List Bool → ℕ → List Equation
shape_equations rows shape universe revoked passed =
    stage_equations rows shape.target shape.stage shape.planes shape.starts (flagged universe revoked) (flagged universe passed)
