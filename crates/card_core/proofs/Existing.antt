-- A universe and its revoked part have a filter, or a stage is refused: of each system there is a solution or none, and
-- seeds, widths and shards are searched.
use Rattle.std.proofs.Common.{◌≡◌, ◌<◌, ◌≤◌, ◌+◌, ◌*◌, ◌^◌, ◌⊎◌, ℕ, zero, suc, List, [], ◌∷◌, ◌++◌, length, get_or, Option, Some, None, refl, sym, ap, ◌∙◌, subst, arith, inl, inr}
use Rattle.std.proofs.lemmas.Bool.{cases_eq, cases_lt}
use Rattle.std.proofs.lemmas.Nat.{pow_pos}
use Rattle.std.proofs.lemmas.List.{get_or_append_left, length_push}
use Rattle.std.proofs.Math.Nat.{le-mul_of_pos_right}
use Rattle.std.proofs.Math.Seq.{get_or-append_seam}
use Rattle.ident_core.specs.declared.identity.Identity.{Identity}
use Rattle.equation_core.specs.Rows.{Rows}
use Rattle.equation_core.specs.Sizes.{starts_for}
use Rattle.equation_core.specs.declared.hash.TheConstants.{MAX_PLANES}
use Rattle.ribbon_core.specs.Equations.{Equation, IsSolvable, Least}
use Rattle.ribbon_core.proofs.LeastOrNone.{FirstBelow, first_or_none, least_or_none}
use Rattle.card_core.specs.declared.stage.Stage.{Stage}
use Rattle.card_core.specs.declared.leaf.Leaf.{Leaf}
use Rattle.card_core.specs.declared.leaf.Leaf.TheVariants.{Clean, Every, Mixed}
use Rattle.card_core.specs.Leaf.{IsWidth, Solvable, IsStage, IsExhausted, approx_equations, exact_equations, IsApproxIfAny, IsApproxExhausted, IsExactExhausted, false_positives, IsLeaf, IsStageRefused}
use Rattle.card_core.specs.Filter.{alone, cut, in_shard}
use Rattle.card_core.specs.Laws.{LeafOrRefusal, FilterOrRefusal}

-- ---- a system

-- the least solution of each of n planes from one on, or one that has none
least_at : (es : List Equation) (a n Z : ℕ) (columns : List ℕ) → Least a es Z → ((p : ℕ) → p < n → Least (suc a + p) es (get_or columns p 0))
    → (p : ℕ) → p < suc n → Least (a + p) es (get_or (Z ∷ columns) p 0)
least_at es a n Z columns first others zero lt = let e : a + 0 ≡ a = omega arith in rw e first
least_at es a n Z columns first others (suc p) lt = let e : a + suc p ≡ suc a + p = omega arith in rw e (others p (omega (arith, lt)))

planes_from : (es : List Equation) (a n : ℕ) → ((columns : List ℕ) × (length columns ≡ n) × ((p : ℕ) → p < n → Least (a + p) es (get_or columns p 0)))
    ⊎ ((p : ℕ) × (a ≤ p) × (p < a + n) × (IsSolvable p es → ⊥))
planes_from es a zero = inl ([], refl, λ p lt. absurd (omega (arith, lt)))
planes_from es a (suc n) = elim (least_or_none a es) [
  | inr none ↦ inr (a, omega arith, omega arith, none)
  | inl l ↦
      (elim (planes_from es (suc a) n) [
        | inr b ↦ inr (b.0, omega (arith, b.1), omega (arith, b.2), b.3)
        | inl c ↦ inl (l.0 ∷ c.0, ap suc c.1, least_at es a n l.0 c.0 l.1 c.2)
      ])
]

-- the least solutions of all planes
abbrev HasLeast : List Equation → ℕ → Type 0
HasLeast es planes = (columns : List ℕ) × (length columns ≡ planes) × ((p : ℕ) → p < planes → Least p es (get_or columns p 0))

least_of_all : (es : List Equation) (planes : ℕ) → HasLeast es planes ⊎ (Solvable planes es → ⊥)
least_of_all es planes = elim (planes_from es 0 planes) [
  | inl c ↦ inl (c.0, c.1, λ p lt. let e : 0 + p ≡ p = omega arith in let h = c.2 p lt in rw e at h)
  | inr b ↦ inr (λ s. b.3 (s b.0 (omega (arith, b.2))))
]

solvable_or_not : (es : List Equation) (planes : ℕ) → Solvable planes es ⊎ (Solvable planes es → ⊥)
solvable_or_not es planes = elim (least_of_all es planes) [
  | inl c ↦ inl (λ p lt. (get_or c.0 p 0, (c.2 p lt).0))
  | inr none ↦ inr none
]

-- ---- a stage

module _ (equations : ℕ → List Equation) (starts planes : ℕ) where
  stage_of : FirstBelow (λ seed. Solvable planes (equations seed)) 256 → (s : Stage) × IsStage equations starts planes s
  stage_of f = elim (least_of_all (equations f.0) planes) [
    | inr none ↦ absurd (none f.2)
    | inl c ↦ (
      record { seed = f.0; planes = record { starts = starts; columns = c.0 } },
      record { below = f.1; size = refl; count = c.1; least = c.2; first = f.3 },
    )
  ]

  stage_or_none : ((s : Stage) × IsStage equations starts planes s) ⊎ IsExhausted equations planes
  stage_or_none = elim (first_or_none (λ seed. Solvable planes (equations seed)) (λ seed. solvable_or_not (equations seed) planes) 256) [
    | inl f ↦ inl (stage_of f)
    | inr none ↦ inr none
  ]

-- ---- a width

module _ (r n : ℕ) where
  -- the greatest width up to a bound
  abbrev Widest : ℕ → Type 0
  Widest m = (k : ℕ) × (k ≤ m) × (r * 2 ^ k ≤ n) × ((j : ℕ) → j ≤ m → r * 2 ^ j ≤ n → j ≤ k)

  widest : r ≤ n → (m : ℕ) → Widest m
  widest le zero = (0, omega arith, omega (arith, le), λ j h f. h)
  widest le (suc m) = elim (cases_lt n (r * 2 ^ suc m)) [
    | inr fits ↦ (suc m, omega arith, fits, λ j h f. h)
    | inl more ↦
        (let w = widest le m in (
          w.0,
          omega (arith, w.1),
          w.2,
          λ j h f. elim (cases_eq j (suc m)) [
            | inl e ↦ (let g : r * 2 ^ suc m ≤ n = rw e at f in absurd (omega (arith, g, more)))
            | inr differ ↦ w.3 j (omega (arith, h, differ)) f
          ],
        ))
  ]

  width_exists : (k : ℕ) × IsWidth r n k
  width_exists = elim (cases_lt n r) [
    | inl less ↦ (
      0,
      record {
        most = omega arith;
        fits = λ le. absurd (omega (arith, less, le));
        greatest = λ j h f. absurd (let g = le-mul_of_pos_right r (pow_pos j) in omega (arith, g, f, less));
        none = λ lt. refl;
      },
    )
    | inr le ↦
        (let w = widest le MAX_PLANES in
        (w.0, record { most = w.1; fits = λ h. w.2; greatest = w.3; none = λ lt. absurd (omega (arith, le, lt)) }))
  ]

-- ---- a leaf

module _ (rows : Rows) (revoked others : List Identity) where
  approx_of : (k : ℕ) → IsWidth (length revoked) (length others) k → ((approx : Option Stage) × IsApproxIfAny rows revoked others approx) ⊎ IsApproxExhausted rows revoked others
  approx_of zero w = inl (None, w)
  approx_of (suc k) w = elim (stage_or_none (approx_equations rows revoked) (starts_for (length revoked)) (suc k)) [
    | inr none ↦ inr (record { planes = suc k; some = omega arith; width = w; exhausted = none })
    | inl s ↦
        (let e : suc k ≡ length s.0.planes.columns = sym s.1.count in
        inl (
          Some s.0,
          record {
            some = omega (arith, e);
            width = subst (IsWidth (length revoked) (length others)) e w;
            stage = subst (λ (n : ℕ). IsStage (approx_equations rows revoked) (starts_for (length revoked)) n s.0) e s.1;
          },
        ))
  ]

  approx_or_refused : ((approx : Option Stage) × IsApproxIfAny rows revoked others approx) ⊎ IsApproxExhausted rows revoked others
  approx_or_refused = let w = width_exists (length revoked) (length others) in approx_of w.0 w.1

  -- the leaf, or a stage that is refused
  abbrev Either : Type 0
  Either = ((leaf : Leaf) × IsLeaf rows revoked others leaf) ⊎ ((stage : ℕ) × IsStageRefused rows revoked others stage)

  mixed_or_refused : 1 ≤ length revoked → 1 ≤ length others → Either
  mixed_or_refused some some_others = elim approx_or_refused [
    | inr r ↦ inr (1, record { some_revoked = some; some_others = some_others; cause = inl (refl, r) })
    | inl a ↦
        (let passed : List Identity = false_positives rows a.0 others in
        elim (stage_or_none (exact_equations rows revoked passed) (starts_for (length revoked + length passed)) 1) [
          | inr none ↦ (
              let behind : IsExactExhausted rows revoked others = record { approx = a.0; is_approx = a.1; exhausted = none } in
              inr (2, record { some_revoked = some; some_others = some_others; cause = inr (refl, behind) }))
          | inl s ↦
              inl (
                Mixed (record { approx = a.0; exact = s.0 }),
                record { some_revoked = some; some_others = some_others; approx = a.1; exact = s.1 },
              )
        ])
  ]

pub leaf_or_refusal : LeafOrRefusal
leaf_or_refusal rows [] others = inl (Clean, refl)
leaf_or_refusal rows (x ∷ revoked) [] = inl (Every, (omega arith, refl))
leaf_or_refusal rows (x ∷ revoked) (y ∷ others) = mixed_or_refused rows (x ∷ revoked) (y ∷ others) (omega arith) (omega arith)

-- ---- a filter

module _ (rows : Rows) (shift : ℕ) (revoked others : List Identity) where
  abbrev IsLeafAt : ℕ → Leaf → Type 0
  IsLeafAt j leaf = IsLeaf rows (in_shard shift j revoked) (in_shard shift j others) leaf

  -- the leaves of so many shards, or the first that is refused
  abbrev LeavesBelow : ℕ → Type 0
  LeavesBelow n = (leaves : List Leaf) × (length leaves ≡ n) × ((j : ℕ) (d : Leaf) → j < n → IsLeafAt j (get_or leaves j d))

  abbrev RefusedBelow : ℕ → Type 0
  RefusedBelow n = (place : ℕ) × (place < n) × ((j : ℕ) → j < place → (leaf : Leaf) × IsLeafAt j leaf)
      × ((stage : ℕ) × IsStageRefused rows (in_shard shift place revoked) (in_shard shift place others) stage)

  leaves_push : (n : ℕ) (l : LeavesBelow n) (leaf : Leaf) → IsLeafAt n leaf → LeavesBelow (suc n)
  leaves_push n l leaf is = (
    l.0 ++ leaf ∷ [],
    omega (arith, length_push l.0 leaf, l.1),
    λ j d lt. elim (cases_lt j n) [
      | inl less ↦ (let e = get_or_append_left l.0 (leaf ∷ []) d j (omega (arith, l.1, less)) in rw e (l.2 j d less))
      | inr more ↦
          (let e : j ≡ length l.0 = omega (arith, l.1, lt, more) in
          let last : get_or (l.0 ++ leaf ∷ []) j d ≡ leaf = ap (λ (k : ℕ). get_or (l.0 ++ leaf ∷ []) k d) e ∙ get_or-append_seam l.0 leaf [] d in
          let here : n ≡ j = omega (arith, lt, more) in
          subst (IsLeafAt j) (sym last) (subst (λ (k : ℕ). IsLeafAt k leaf) here is))
    ],
  )

  leaves_or_refused : (n : ℕ) → LeavesBelow n ⊎ RefusedBelow n
  leaves_or_refused zero = inl ([], refl, λ j d lt. absurd (omega (arith, lt)))
  leaves_or_refused (suc n) = elim (leaves_or_refused n) [
    | inr r ↦ inr (r.0, omega (arith, r.1), r.2, r.3)
    | inl l ↦
        (elim (leaf_or_refusal rows (in_shard shift n revoked) (in_shard shift n others)) [
          | inl leaf ↦ inl (leaves_push n l leaf.0 leaf.1)
          | inr r ↦ inr (n, omega arith, λ j lt. (get_or l.0 j Clean, l.2 j Clean lt), r)
        ])
  ]

pub filter_or_refusal : FilterOrRefusal
filter_or_refusal rows zero revoked others = elim (leaf_or_refusal rows revoked others) [
  | inl l ↦ inl (alone l.0, (refl, l.1))
  | inr r ↦ inr r
]
filter_or_refusal rows (suc s) revoked others = elim (leaves_or_refused rows (suc s) revoked others (2 ^ suc s)) [
  | inl l ↦ inl (cut (suc s) l.0, (omega arith, refl, record { count = l.1; each = l.2 }))
  | inr r ↦ inr (r.3.0, record { place = r.0; below = r.1; before = r.2; refused = r.3.1 })
]
