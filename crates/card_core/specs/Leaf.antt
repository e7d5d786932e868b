-- The leaf of a universe, its filter: which stages it has, and for whom it tests positive.
use Rattle.std.specs.Prelude.{◌≡◌, ◌<◌, ◌≤◌, ◌+◌, ◌*◌, ◌^◌, ◌⊎◌, ◌==◌, ◌&&◌, ℕ, Bool, true, false, List, [], ◌∷◌}
use Rattle.std.specs.Prelude.{◌++◌, length, map, filter, slice_index, Option, Some, None, cond}
use Rattle.std.specs.List.{list_all, range_with_len}
use Rattle.std.specs.Int.{bit_at}
use Rattle.ident_core.specs.declared.identity.Identity.{Identity}
use Rattle.equation_core.specs.Rows.{Rows}
use Rattle.equation_core.specs.Sizes.{starts_for}
use Rattle.equation_core.specs.declared.hash.TheConstants.{MAX_PLANES}
use Rattle.ribbon_core.specs.Equations.{Equation, sum_of, IsSolvable, Least}
use Rattle.ribbon_core.specs.Rows.{equation_of, equation_with}
use Rattle.card_core.specs.declared.stage.Stage.{Stage}
use Rattle.card_core.specs.declared.leaf.Leaf.{Leaf}
use Rattle.card_core.specs.declared.leaf.Leaf.TheVariants.{Clean, Every, Mixed}
use Rattle.card_core.specs.MixedFields.{MixedFields}

-- the identities whose flag is set
abbrev pub flagged : List Identity → List Bool → List Identity
flagged [] flags = []
flagged (x ∷ xs) [] = []
flagged (x ∷ xs) (f ∷ flags) = cond f (x ∷ flagged xs flags) (flagged xs flags)

-- k is 0 where the revoked are more than the others, else the greatest number up to MAX_PLANES with
-- revoked * 2 ^ k ≤ others
pub record IsWidth (revoked others k : ℕ) : Type 0 where
  pub most : k ≤ MAX_PLANES
  pub fits : revoked ≤ others → revoked * 2 ^ k ≤ others
  pub greatest : (j : ℕ) → j ≤ MAX_PLANES → revoked * 2 ^ j ≤ others → j ≤ k
  pub none : others < revoked → k ≡ 0

-- in each plane the equations have a common solution
abbrev pub Solvable : ℕ → List Equation → Type 0
Solvable planes es = (p : ℕ) → p < planes → IsSolvable p es

-- the least seed at which the equations of all planes are solvable, and their least solutions
pub record IsStage (equations : ℕ → List Equation) (starts planes : ℕ) (s : Stage) : Type 0 where
  pub below : s.seed < 256
  pub size : s.planes.starts ≡ starts
  pub count : length s.planes.columns ≡ planes
  pub least : (p : ℕ) → p < planes → Least p (equations s.seed) (slice_index s.planes.columns p)
  pub first : (seed : ℕ) → seed < s.seed → Solvable planes (equations seed) → ⊥

-- there is no such seed
abbrev pub IsExhausted : (ℕ → List Equation) → ℕ → Type 0
IsExhausted equations planes = (seed : ℕ) → seed < 256 → Solvable planes (equations seed) → ⊥

-- the equations of the approximate stage: the bits of a row's tag are the targets
abbrev pub approx_equations : Rows → List Identity → ℕ → List Equation
approx_equations rows revoked seed = map (λ x. equation_of (rows 1 seed x (starts_for (length revoked)))) revoked

-- the equations of the exact stage: one for the revoked, zero for those that the approximate stage passes with them
abbrev pub exact_equations : Rows → List Identity → List Identity → ℕ → List Equation
exact_equations rows revoked passed seed =
    map (λ x. equation_with 1 (rows 2 seed x (starts_for (length revoked + length passed)))) revoked
    ++ map (λ x. equation_with 0 (rows 2 seed x (starts_for (length revoked + length passed)))) passed

-- whether each plane solves the identity's own equation
abbrev pub accepts : Rows → Stage → Identity → Bool
accepts rows s x =
    list_all (λ p. sum_of (equation_of (rows 1 s.seed x s.planes.starts)) (slice_index s.planes.columns p)
    == bit_at (rows 1 s.seed x s.planes.starts).tag p)
    (range_with_len 0 (length s.planes.columns))

-- with no approximate stage all are passed
abbrev pub passes : Rows → Option Stage → Identity → Bool
passes rows None x = true
passes rows (Some s) x = accepts rows s x

-- the sum of the exact stage
abbrev pub exact_sum : Rows → Stage → Identity → ℕ
exact_sum rows s x = sum_of (equation_of (rows 2 s.seed x s.planes.starts)) (slice_index s.planes.columns 0)

-- whether a leaf tests positive for an identity
abbrev pub is_leaf_positive : Rows → Identity → Leaf → Bool
is_leaf_positive rows x Clean = false
is_leaf_positive rows x Every = true
is_leaf_positive rows x (Mixed m) = passes rows m.approx x && exact_sum rows m.exact x == 1

-- the approximate stage, of as many planes as the width
pub record IsApproxStage (rows : Rows) (revoked others : List Identity) (s : Stage) : Type 0 where
  pub some : 1 ≤ length s.planes.columns
  pub width : IsWidth (length revoked) (length others) (length s.planes.columns)
  pub stage : IsStage (approx_equations rows revoked) (starts_for (length revoked)) (length s.planes.columns) s

-- there is one where the width isn't 0
abbrev pub IsApproxIfAny : Rows → List Identity → List Identity → Option Stage → Type 0
IsApproxIfAny rows revoked others None = IsWidth (length revoked) (length others) 0
IsApproxIfAny rows revoked others (Some s) = IsApproxStage rows revoked others s

abbrev pub false_positives : Rows → Option Stage → List Identity → List Identity
false_positives rows approx others = filter (passes rows approx) others

-- the exact stage
abbrev pub IsExactStage : Rows → List Identity → List Identity → Stage → Type 0
IsExactStage rows revoked passed s = IsStage (exact_equations rows revoked passed) (starts_for (length revoked + length passed)) 1 s

pub record IsMixed (rows : Rows) (revoked others : List Identity) (m : MixedFields) : Type 0 where
  pub some_revoked : 1 ≤ length revoked
  pub some_others : 1 ≤ length others
  pub approx : IsApproxIfAny rows revoked others m.approx
  pub exact : IsExactStage rows revoked (false_positives rows m.approx others) m.exact

-- the leaf of the revoked and the other identities of a universe
abbrev pub IsLeaf : Rows → List Identity → List Identity → Leaf → Type 0
IsLeaf rows revoked others Clean = length revoked ≡ 0
IsLeaf rows revoked others Every = (1 ≤ length revoked) × (length others ≡ 0)
IsLeaf rows revoked others (Mixed m) = IsMixed rows revoked others m

-- the approximate stage is unsolvable at each seed
pub record IsApproxExhausted (rows : Rows) (revoked others : List Identity) : Type 0 where
  pub planes : ℕ
  pub some : 1 ≤ planes
  pub width : IsWidth (length revoked) (length others) planes
  pub exhausted : IsExhausted (approx_equations rows revoked) planes

-- the exact stage is, behind the approximate one
pub record IsExactExhausted (rows : Rows) (revoked others : List Identity) : Type 0 where
  pub approx : Option Stage
  pub is_approx : IsApproxIfAny rows revoked others approx
  pub exhausted : IsExhausted (exact_equations rows revoked (false_positives rows approx others)) 1

-- the stage, 1 or 2, that is unsolvable at each seed, so that there is no leaf
pub record IsStageRefused (rows : Rows) (revoked others : List Identity) (stage : ℕ) : Type 0 where
  pub some_revoked : 1 ≤ length revoked
  pub some_others : 1 ≤ length others
  pub cause : ((stage ≡ 1) × IsApproxExhausted rows revoked others) ⊎ ((stage ≡ 2) × IsExactExhausted rows revoked others)
