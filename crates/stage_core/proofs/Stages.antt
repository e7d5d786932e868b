-- What the code solves has the solutions of the equations that define a stage.
use Rattle.std.proofs.Common.{◌≡◌, ◌<◌, ◌≤◌, ◌+◌, ◌*◌, ◌^◌, ◌/◌, ◌%◌, ◌↔◌, ℕ, List, [], ◌∷◌, ◌++◌, length, map, get_or, Option, Some, Err, sym, ap, ◌∙◌, subst, inr, arith}
use Rattle.std.specs.List.{All}
use Rattle.std.specs.Int.{bit_at}
use Rattle.std.proofs.lemmas.List.Elements.{All-append, All-nil, All-cons, All-head, All-tail}
use Rattle.std.proofs.lemmas.Nat.Bits.{bit_at_cat_low}
use Rattle.ident_core.specs.declared.identity.Identity.{Identity}
use Rattle.equation_core.specs.Rows.{Rows}
use Rattle.equation_core.specs.Sizes.{starts_for}
use Rattle.ribbon_core.specs.Rows.{equation_of}
use Rattle.ribbon_core.specs.Equations.{Equation, Solves, SolvesAll}
use Rattle.ribbon_core.proofs.LeastLaws.{least_same}
use Rattle.card_core.specs.declared.stage.Stage.{Stage}
use Rattle.card_core.specs.Leaf.{Solvable, IsStage, IsExhausted, IsWidth, IsApproxIfAny, IsExactExhausted, IsExactStage, IsMixed, approx_equations, exact_equations, false_positives}
use Rattle.stage_core.specs.Keys.{stage_equations, key_equation}
use Rattle.stage_core.specs.declared.keys.KeyTarget.TheVariants.{Tag}
use Rattle.stage_core.specs.declared.fault.BlockFault.{BlockFault}
use Rattle.stage_core.specs.declared.fault.BlockFault.TheVariants.{SeedsExhausted, NoMemory}
use Rattle.stage_core.specs.Built.{BuildsExact, BuildsLeaf}
use Rattle.stage_core.proofs.Runs.{solved_front, solved_back}

module _ (p Z : ℕ) where
  -- E is what a system asks, from nothing, after two lists
  pub two_lists : (E F N : Type 0) (xs ys : List Equation) → N → E ↔ (N × SolvesAll p xs Z) → F ↔ (E × SolvesAll p ys Z) → F ↔ SolvesAll p (xs ++ ys) Z
  two_lists E F N xs ys n a b = (
    λ f. let q = b.0 f in All-append (λ e. Solves p e Z) xs ys (a.0 q.0).1 q.1,
    λ s. b.1 (a.1 (n, solved_front p Z xs ys s), solved_back p Z xs ys s),
  )

-- the stage's equations may be replaced by others with the same solutions
module _ (f g : ℕ → List Equation) (starts planes : ℕ) (same : (seed p Z : ℕ) → p < planes → SolvesAll p (f seed) Z ↔ SolvesAll p (g seed) Z) where
  solvable_like : (seed : ℕ) → Solvable planes (g seed) → Solvable planes (f seed)
  solvable_like seed h p lt = ((h p lt).0, (same seed p (h p lt).0 lt).1 (h p lt).1)

  pub exhausted_like : IsExhausted f planes → IsExhausted g planes
  exhausted_like h seed lt s = h seed lt (solvable_like seed s)

  pub stage_like : (s : Stage) → IsStage f starts planes s → IsStage g starts planes s
  stage_like s h = record {
    below = h.below;
    size = h.size;
    count = h.count;
    least = λ p lt. least_same p (f s.seed) (g s.seed) (get_or s.planes.columns p 0) (λ Z. same s.seed p Z lt) (h.least p lt);
    first = λ seed lt s'. h.first seed lt (solvable_like seed s');
  }

all_remapped : {X Y : Type 0} (P : Y → Type 0) (f h : X → Y) → ((x : X) → P (f x) → P (h x)) → (xs : List X) → All P (map f xs) → All P (map h xs)
all_remapped P f h t [] s = All-nil P
all_remapped P f h t (x ∷ xs) s = All-cons P (h x) (map h xs) (t x (All-head P (f x) (map f xs) s)) (all_remapped P f h t xs (All-tail P (f x) (map f xs) s))

low_bits : (k tag p : ℕ) → p < k → bit_at (tag % 2 ^ k) p ≡ bit_at tag p
low_bits k tag p lt =
    let e : tag / 2 ^ k * 2 ^ k + tag % 2 ^ k ≡ tag = omega arith in
    sym (bit_at_cat_low (tag / 2 ^ k) k (tag % 2 ^ k) p lt) ∙ ap (λ (n : ℕ). bit_at n p) e

module _ (rows : Rows) (revoked : List Identity) (k : ℕ) where
  same_tags : (seed p Z : ℕ) → p < k → SolvesAll p (stage_equations rows Tag 1 k (starts_for (length revoked)) revoked [] seed) Z ↔ SolvesAll p (approx_equations rows revoked seed) Z
  same_tags seed p Z lt =
      let starts : ℕ = starts_for (length revoked) in
      let f : Identity → Equation = key_equation rows Tag 1 k starts seed in
      let h : Identity → Equation = λ x. equation_of (rows 1 seed x starts) in (
        λ s. all_remapped (λ e. Solves p e Z) f h (λ x q. q ∙ low_bits k (rows 1 seed x starts).tag p lt) revoked (solved_front p Z (map f revoked) [] s),
        λ s. All-append (λ e. Solves p e Z) (map f revoked) []
            (all_remapped (λ e. Solves p e Z) h f (λ x q. q ∙ sym (low_bits k (rows 1 seed x starts).tag p lt)) revoked s) (All-nil (λ e. Solves p e Z)),
      )

  module _ (starts : ℕ) (zeros : List Identity) (size : starts ≡ starts_for (length revoked)) (none : zeros ≡ []) where
    pub approx_stage : (s : Stage) → IsStage (stage_equations rows Tag 1 k starts revoked zeros) starts k s → IsStage (approx_equations rows revoked) (starts_for (length revoked)) k s
    approx_stage s h = stage_like (stage_equations rows Tag 1 k (starts_for (length revoked)) revoked []) (approx_equations rows revoked) (starts_for (length revoked)) k same_tags s
        (subst (λ (n : ℕ). IsStage (stage_equations rows Tag 1 k n revoked []) n k s) size
        (subst (λ (l : List Identity). IsStage (stage_equations rows Tag 1 k starts revoked l) starts k s) none h))

    pub approx_exhausted : IsExhausted (stage_equations rows Tag 1 k starts revoked zeros) k → IsExhausted (approx_equations rows revoked) k
    approx_exhausted h = exhausted_like (stage_equations rows Tag 1 k (starts_for (length revoked)) revoked []) (approx_equations rows revoked) (starts_for (length revoked)) k same_tags
        (subst (λ (n : ℕ). IsExhausted (stage_equations rows Tag 1 k n revoked []) k) size
        (subst (λ (l : List Identity). IsExhausted (stage_equations rows Tag 1 k starts revoked l) k) none h))

module _ (rows : Rows) (revoked others : List Identity) where
  pub approx_found : (k : ℕ) (s : Stage) → (k ≡ 0 → ⊥) → IsWidth (length revoked) (length others) k
      → IsStage (approx_equations rows revoked) (starts_for (length revoked)) k s → IsApproxIfAny rows revoked others (Some s)
  approx_found k s some w h =
      let e : k ≡ length s.planes.columns = sym h.count in record {
        some = omega (arith, e, some);
        width = subst (λ (n : ℕ). IsWidth (length revoked) (length others) n) e w;
        stage = subst (λ (n : ℕ). IsStage (approx_equations rows revoked) (starts_for (length revoked)) n s) e h;
      }

  -- a refusal of the exact stage is the filter's
  pub exact_fault : (approx : Option Stage) (passed : List Identity) (e : BlockFault) → 1 ≤ length revoked → 1 ≤ length others → IsApproxIfAny rows revoked others approx
      → passed ≡ false_positives rows approx others → BuildsExact rows revoked passed (Err e) → BuildsLeaf rows revoked others (Err e)
  exact_fault approx passed NoMemory r n a p h = tt
  exact_fault approx passed (SeedsExhausted stage) r n a p h =
      let behind : IsExactExhausted rows revoked others = record {
        approx = approx;
        is_approx = a;
        exhausted = subst (λ (l : List Identity). IsExhausted (exact_equations rows revoked l) 1) p h.1;
      } in
      record { some_revoked = r; some_others = n; cause = inr (h.0, behind) }

  pub mixed_found : (approx : Option Stage) (exact : Stage) (passed : List Identity) → 1 ≤ length revoked → 1 ≤ length others → IsApproxIfAny rows revoked others approx
      → passed ≡ false_positives rows approx others → IsExactStage rows revoked passed exact → IsMixed rows revoked others (record { approx = approx; exact = exact })
  mixed_found approx exact passed r n a p h = record {
    some_revoked = r;
    some_others = n;
    approx = a;
    exact = subst (λ (l : List Identity). IsExactStage rows revoked l exact) p h;
  }
