-- A leaf is exact on its universe, and the only one.
use Rattle.std.proofs.Common.{◌≡◌, ◌<◌, ◌≤◌, ◌+◌, ◌&&◌, ℕ, zero, suc, Bool, true, false, nat_eq, cond, List, [], ◌∷◌, ◌++◌, length, map, get_or, Option}
use Rattle.std.proofs.Common.{Some, None, refl, sym, ap, ◌∙◌, subst, arith, inl, inr, eq-eqb, add-one}
use Rattle.std.specs.List.{list_all, range_with_len, filter, Contains}
use Rattle.std.proofs.lemmas.List.{get_or-map, length-map, get_or_default, same_lists}
use Rattle.std.proofs.lemmas.List.Elements.{All-contains, Contains-append_left, Contains-append_right}
use Rattle.std.proofs.lemmas.Bool.{cases_lt}
use Rattle.ident_core.specs.declared.identity.Identity.{Identity}
use Rattle.equation_core.specs.Rows.{Rows}
use Rattle.equation_core.specs.Sizes.{starts_for}
use Rattle.ribbon_core.specs.Equations.{Equation, Solves, SolvesAll, Least}
use Rattle.ribbon_core.specs.Rows.{equation_of, equation_with}
use Rattle.ribbon_core.proofs.LeastLaws.{least_unique}
use Rattle.card_core.specs.declared.stage.Stage.{Stage}
use Rattle.card_core.specs.declared.leaf.Leaf.TheVariants.{Clean, Every, Mixed}
use Rattle.card_core.specs.MixedFields.{MixedFields}
use Rattle.card_core.specs.Leaf.{IsWidth, Solvable, IsStage, IsExhausted, approx_equations, exact_equations, passes, exact_sum, is_leaf_positive, IsApproxIfAny, IsApproxExhausted, false_positives, IsExactStage, IsMixed}
use Rattle.card_core.specs.Laws.{IsExactOn, LeafIsExact, LeafIsUnique, OneStageIsRefused, RefusedHasNoLeaf}

-- a test that holds at each number of a range
pub all_from : (f : ℕ → Bool) (a n : ℕ) → ((p : ℕ) → a ≤ p → p < a + n → f p ≡ true) → list_all f (range_with_len a n) ≡ true
all_from f a zero h = refl
all_from f a (suc n) h =
    let here : f a ≡ true = h a (omega arith) (omega arith) in
    let rest : list_all f (range_with_len (a + 1) n) ≡ true = all_from f (a + 1) n (λ p low high. h p (omega arith) (omega arith)) in
    ap (λ (b : Bool). b && list_all f (range_with_len (a + 1) n)) here ∙ rest

module _ {X Y : Type 0} (g : X → Y) where
  pub contains_mapped : (xs : List X) (x : X) → Contains xs x → Contains (map g xs) (g x)
  contains_mapped xs x c =
      let lt : c.0 < length xs = c.1 in
      (c.0, omega (arith, length-map xs g), get_or-map g xs c.0 x (g x) lt ∙ ap g c.2)

module _ {X : Type 0} (p : X → Bool) where
  filter_head : (y : X) (ys : List X) (x : X) → y ≡ x → p x ≡ true → Contains (filter p (y ∷ ys)) x
  filter_head y ys x e px = rw (e, px) (0, omega arith, refl)

  filter_tail : (y : X) (ys : List X) (x : X) → Contains (filter p ys) x → Contains (filter p (y ∷ ys)) x
  filter_tail y ys x c =
      elim (p y) as (λ b. Contains (cond b (y ∷ filter p ys) (filter p ys)) x) [
        | true ↦ (c.0 + 1, omega (arith, c.1), rw add-one c.2)
        | false ↦ c
      ]

  pub contains_filtered : (xs : List X) (k : ℕ) (x : X) → k < length xs → get_or xs k x ≡ x → p x ≡ true → Contains (filter p xs) x
  contains_filtered [] k x lt e px = absurd (omega arith)
  contains_filtered (y ∷ ys) zero x lt e px = filter_head y ys x e px
  contains_filtered (y ∷ ys) (suc k) x lt e px = filter_tail y ys x (contains_filtered ys k x (omega arith) e px)

module _ (rows : Rows) (revoked others : List Identity) where
  -- a revoked identity is passed
  passes_revoked : (approx : Option Stage) → IsApproxIfAny rows revoked others approx → (x : Identity) → Contains revoked x → passes rows approx x ≡ true
  passes_revoked None h x c = refl
  passes_revoked (Some s) h x c =
      all_from _ 0 (length s.planes.columns) (λ p low high.
      let g : Identity → Equation = λ y. equation_of (rows 1 s.seed y (starts_for (length revoked))) in
      let all : SolvesAll p (map g revoked) (get_or s.planes.columns p 0) = (h.stage.least p (omega arith)).0 in
      let one : Solves p (g x) (get_or s.planes.columns p 0) =
      All-contains (λ e. Solves p e (get_or s.planes.columns p 0)) (map g revoked) (g x) all (contains_mapped g revoked x c) in
      let at : Solves p (equation_of (rows 1 s.seed x s.planes.starts)) (get_or s.planes.columns p 0) = rw h.stage.size one in
      eq-eqb _ _ at)

module _ (rows : Rows) (revoked passed : List Identity) (s : Stage) (h : IsExactStage rows revoked passed s) where
  exact_all : SolvesAll 0 (exact_equations rows revoked passed s.seed) (get_or s.planes.columns 0 0)
  exact_all = (h.least 0 (omega arith)).0

  exact_revoked : (x : Identity) → Contains revoked x → exact_sum rows s x ≡ 1
  exact_revoked x c =
      let starts : ℕ = starts_for (length revoked + length passed) in
      let g : Identity → Equation = λ y. equation_with 1 (rows 2 s.seed y starts) in
      let f : Identity → Equation = λ y. equation_with 0 (rows 2 s.seed y starts) in
      let one : Solves 0 (g x) (get_or s.planes.columns 0 0) =
      All-contains (λ e. Solves 0 e (get_or s.planes.columns 0 0)) (map g revoked ++ map f passed) (g x) exact_all
      (Contains-append_left (map g revoked) (map f passed) (g x) (contains_mapped g revoked x c)) in
      rw h.size one

  exact_passed : (x : Identity) → Contains passed x → exact_sum rows s x ≡ 0
  exact_passed x c =
      let starts : ℕ = starts_for (length revoked + length passed) in
      let g : Identity → Equation = λ y. equation_with 1 (rows 2 s.seed y starts) in
      let f : Identity → Equation = λ y. equation_with 0 (rows 2 s.seed y starts) in
      let one : Solves 0 (f x) (get_or s.planes.columns 0 0) =
      All-contains (λ e. Solves 0 e (get_or s.planes.columns 0 0)) (map g revoked ++ map f passed) (f x) exact_all
      (Contains-append_right (map g revoked) (map f passed) (f x) (contains_mapped f passed x c)) in
      rw h.size one

both : (a : Bool) (n : ℕ) → a ≡ true → n ≡ 1 → (a && nat_eq n 1) ≡ true
both a n p q = rw (p, q) refl

-- a test that isn't passed, or a sum of 0
neither : (a : Bool) (n : ℕ) → (a ≡ true → n ≡ 0) → (a && nat_eq n 1) ≡ false
neither true n q = rw (q refl) refl
neither false n q = refl

mixed_exact : (rows : Rows) (revoked others : List Identity) (m : MixedFields) → IsMixed rows revoked others m → IsExactOn revoked others (λ x. is_leaf_positive rows x (Mixed m))
mixed_exact rows revoked others m h = (
  λ x c. both _ _ (passes_revoked rows revoked others m.approx h.approx x c) (exact_revoked rows revoked (false_positives rows m.approx others) m.exact h.exact x c),
  λ x c. neither _ _ (λ p. exact_passed rows revoked (false_positives rows m.approx others) m.exact h.exact x (contains_filtered (passes rows m.approx) others c.0 x c.1 c.2 p)),
)

pub leaf_exact : LeafIsExact
leaf_exact rows revoked others Clean h = (λ x c. absurd (omega (arith, c.1)), λ x c. refl)
leaf_exact rows revoked others Every h = (λ x c. refl, λ x c. absurd (omega (arith, c.1)))
leaf_exact rows revoked others (Mixed m) h = mixed_exact rows revoked others m h

pub width_same : (r n k j : ℕ) → IsWidth r n k → IsWidth r n j → k ≡ j
width_same r n k j a b = elim (cases_lt n r) [
  | inl lt ↦ a.none lt ∙ sym (b.none lt)
  | inr le ↦ (let p = b.greatest k a.most (a.fits le) in let q = a.greatest j b.most (b.fits le) in omega (arith, p, q))
]

module _ (equations : ℕ → List Equation) (starts planes : ℕ) where
  pub stage_solvable : (s : Stage) → IsStage equations starts planes s → Solvable planes (equations s.seed)
  stage_solvable s h p lt = (get_or s.planes.columns p 0, (h.least p lt).0)

  seed_same : (a b : Stage) → IsStage equations starts planes a → IsStage equations starts planes b → a.seed ≡ b.seed
  seed_same a b h k =
      let le : a.seed < b.seed → ⊥ = λ lt. k.first a.seed lt (stage_solvable a h) in
      let ge : b.seed < a.seed → ⊥ = λ lt. h.first b.seed lt (stage_solvable b k) in
      omega (arith, le, ge)

  columns_same : (a b : Stage) → IsStage equations starts planes a → IsStage equations starts planes b → a.planes.columns ≡ b.planes.columns
  columns_same a b h k =
      let e = seed_same a b h k in
      same_lists a.planes.columns b.planes.columns (h.count ∙ sym k.count) (λ p d lt.
      let lt' : p < length b.planes.columns = omega (arith, h.count, k.count) in
      let q : p < planes = omega (arith, h.count) in
      let la : Least p (equations b.seed) (get_or a.planes.columns p 0) = subst (λ (seed : ℕ). Least p (equations seed) (get_or a.planes.columns p 0)) e (h.least p q) in
      get_or_default a.planes.columns p d 0 lt
      ∙ least_unique p (equations b.seed) _ _ la (k.least p q)
      ∙ get_or_default b.planes.columns p 0 d lt')

  pub stage_same : (a b : Stage) → IsStage equations starts planes a → IsStage equations starts planes b → a ≡ b
  stage_same a b h k =
      let e = seed_same a b h k in
      let size : a.planes.starts ≡ b.planes.starts = h.size ∙ sym k.size in
      let columns = columns_same a b h k in
      λ i. record { seed = e i; planes = record { starts = size i; columns = columns i } }

module _ (rows : Rows) (revoked others : List Identity) where
  pub approx_same : (a b : Option Stage) → IsApproxIfAny rows revoked others a → IsApproxIfAny rows revoked others b → a ≡ b
  approx_same None None h k = refl
  approx_same None (Some s) h k = absurd (omega (arith, k.some, width_same _ _ _ _ h k.width))
  approx_same (Some s) None h k = absurd (omega (arith, h.some, width_same _ _ _ _ h.width k))
  approx_same (Some s) (Some t) h k =
      let e : length t.planes.columns ≡ length s.planes.columns = width_same _ _ _ _ k.width h.width in
      let k' : IsStage (approx_equations rows revoked) (starts_for (length revoked)) (length s.planes.columns) t =
      subst (λ (n : ℕ). IsStage (approx_equations rows revoked) (starts_for (length revoked)) n t) e k.stage in
      ap Some (stage_same (approx_equations rows revoked) (starts_for (length revoked)) (length s.planes.columns) s t h.stage k')

  mixed_same : (a b : MixedFields) → IsMixed rows revoked others a → IsMixed rows revoked others b → a ≡ b
  mixed_same a b h k =
      let e = approx_same a.approx b.approx h.approx k.approx in
      let h' : IsExactStage rows revoked (false_positives rows b.approx others) a.exact =
      subst (λ (o : Option Stage). IsExactStage rows revoked (false_positives rows o others) a.exact) e h.exact in
      let passed = false_positives rows b.approx others in
      let x = stage_same (exact_equations rows revoked passed) (starts_for (length revoked + length passed)) 1 a.exact b.exact h' k.exact in
      λ i. record { approx = e i; exact = x i }

pub leaf_unique : LeafIsUnique
leaf_unique rows revoked others Clean Clean h k = refl
leaf_unique rows revoked others Clean Every h k = absurd (omega (arith, h, k.0))
leaf_unique rows revoked others Clean (Mixed m) h k = absurd (omega (arith, h, k.some_revoked))
leaf_unique rows revoked others Every Clean h k = absurd (omega (arith, h.0, k))
leaf_unique rows revoked others Every Every h k = refl
leaf_unique rows revoked others Every (Mixed m) h k = absurd (omega (arith, h.1, k.some_others))
leaf_unique rows revoked others (Mixed m) Clean h k = absurd (omega (arith, k, h.some_revoked))
leaf_unique rows revoked others (Mixed m) Every h k = absurd (omega (arith, k.1, h.some_others))
leaf_unique rows revoked others (Mixed m) (Mixed n) h k = ap Mixed (mixed_same rows revoked others m n h k)

module _ (rows : Rows) (revoked others : List Identity) where
  approx_refused : (approx : Option Stage) → IsApproxExhausted rows revoked others → IsApproxIfAny rows revoked others approx → ⊥
  approx_refused None r h = absurd (omega (arith, r.some, width_same _ _ _ _ h r.width))
  approx_refused (Some s) r h =
      let e = width_same _ _ _ _ h.width r.width in
      let h' : IsStage (approx_equations rows revoked) (starts_for (length revoked)) r.planes s =
      subst (λ (n : ℕ). IsStage (approx_equations rows revoked) (starts_for (length revoked)) n s) e h.stage in
      r.exhausted s.seed h'.below (stage_solvable (approx_equations rows revoked) (starts_for (length revoked)) r.planes s h')

  exact_refused : (approx other : Option Stage) (s : Stage) → IsApproxIfAny rows revoked others approx → IsApproxIfAny rows revoked others other
      → IsExactStage rows revoked (false_positives rows approx others) s → IsExhausted (exact_equations rows revoked (false_positives rows other others)) 1 → ⊥
  exact_refused approx other s h k x none =
      let e = approx_same rows revoked others approx other h k in
      let x' : IsExactStage rows revoked (false_positives rows other others) s =
      subst (λ (o : Option Stage). IsExactStage rows revoked (false_positives rows o others) s) e x in
      let passed = false_positives rows other others in
      none s.seed x'.below (stage_solvable (exact_equations rows revoked passed) (starts_for (length revoked + length passed)) 1 s x')

pub refused_no_leaf : RefusedHasNoLeaf
refused_no_leaf rows revoked others stage Clean r h = absurd (omega (arith, r.some_revoked, h))
refused_no_leaf rows revoked others stage Every r h = absurd (omega (arith, r.some_others, h.1))
refused_no_leaf rows revoked others stage (Mixed m) r h = elim r.cause [
  | inl a ↦ approx_refused rows revoked others m.approx a.1 h.approx
  | inr b ↦ exact_refused rows revoked others m.approx b.1.approx m.exact h.approx b.1.is_approx h.exact b.1.exhausted
]

pub refused_once : OneStageIsRefused
refused_once rows revoked others stage other r t = elim r.cause [
  | inl a ↦ elim t.cause [
    | inl b ↦ a.0 ∙ sym b.0
    | inr b ↦ absurd (approx_refused rows revoked others b.1.approx a.1 b.1.is_approx)
  ]
  | inr a ↦ elim t.cause [
    | inl b ↦ absurd (approx_refused rows revoked others a.1.approx b.1 a.1.is_approx)
    | inr b ↦ a.0 ∙ sym b.0
  ]
]
